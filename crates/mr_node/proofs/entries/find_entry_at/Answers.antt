use Rattle.mr_node.proofs.Common.{rules, arith, ◌≡◌, length, get_or, ap, subst, IsThere}
use Rattle.mr_node.proofs.EntryLemmas.{there_at, read_value}
use Rattle.mr_node.proofs.entries.find_entry_at.Goals.{Then-is_at}
use Rattle.mr_node.proofs.entries.find_entry_at.Goals as goal

-- the guess was right
there : (g : _) (c : Then-is_at g) → IsThere c.args.key c.args.guess c.args.leaf.now
there g c =
    let leaf = c.args.leaf.now in
    let long : length leaf.keys ≡ 32 = search rules in
    there_at c.args.key c.args.guess leaf c.requires long (c.is_at.ensures.there c.if-is_at.true)

pub returns-then-is_at : goal.returns-then-is_at
returns-then-is_at g c =
    let r = c.index-as_slice-guess.result in
    read_value c.args.key c.args.guess r c.args.leaf.now c.requires (there g (goal.at.returns-then-is_at g c).Then-is_at) (subst (λ xs. r ≡ get_or xs c.args.guess r) c.as_slice.ensures.value c.index-as_slice-guess.is)

pub bounds-as_slice-guess : goal.bounds-as_slice-guess
bounds-as_slice-guess g c = omega (arith, (there g (goal.at.bounds-as_slice-guess g c).Then-is_at).within, ap length c.as_slice.ensures.value)

pub offset_bounds-as_slice-guess : goal.offset_bounds-as_slice-guess
offset_bounds-as_slice-guess g c = omega (arith, (there g (goal.at.offset_bounds-as_slice-guess g c).Then-is_at).within, ap length c.as_slice.ensures.value)
