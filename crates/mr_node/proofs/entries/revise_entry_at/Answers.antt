use Rattle.mr_node.proofs.Common.{rules, ◌≡◌, length, refl, IsThere}
use Rattle.mr_node.proofs.EntryLemmas.{there_at}
use Rattle.mr_node.proofs.ReviseLemmas.{leaf_revised, leaf_spent, leaf_found}
use Rattle.mr_node.proofs.entries.revise_entry_at.Goals.{Then-is_at}
use Rattle.mr_node.proofs.entries.revise_entry_at.Goals as goal

-- the guess was right
there : (g : _) (c : Then-is_at g) → IsThere c.args.key c.args.guess c.args.leaf.now
there g c =
    let leaf = c.args.leaf.now in
    let long : length leaf.keys ≡ 32 = search rules in
    there_at c.args.key c.args.guess leaf c.requires long (c.is_at.ensures.there c.if-is_at.true)

pub revise_in-requires : goal.revise_in-requires
revise_in-requires g c =
    let here = there g (goal.at.revise_in-requires g c).Then-is_at in
    (search rules, here.within)

pub returns-then-is_at-clause-rows : goal.returns-then-is_at-clause-rows
returns-then-is_at-clause-rows g c =
    let here = there g (goal.at.returns-then-is_at-clause-rows g c).Then-is_at in
    (leaf_revised c.args.key c.args.guess (g.E.Revise.revised c.args.revision.now) c.args.leaf.now _ c.requires here refl c.revise_in.ensures.items).1

pub returns-then-is_at-clause-len : goal.returns-then-is_at-clause-len
returns-then-is_at-clause-len g c =
    let here = there g (goal.at.returns-then-is_at-clause-len g c).Then-is_at in
    (leaf_revised c.args.key c.args.guess (g.E.Revise.revised c.args.revision.now) c.args.leaf.now _ c.requires here refl c.revise_in.ensures.items).2

pub returns-then-is_at-clause-leaf : goal.returns-then-is_at-clause-leaf
returns-then-is_at-clause-leaf g c =
    let here = there g (goal.at.returns-then-is_at-clause-leaf g c).Then-is_at in
    (leaf_revised c.args.key c.args.guess (g.E.Revise.revised c.args.revision.now) c.args.leaf.now _ c.requires here refl c.revise_in.ensures.items).0

pub returns-then-is_at-clause-spent : goal.returns-then-is_at-clause-spent
returns-then-is_at-clause-spent g c =
    let here = there g (goal.at.returns-then-is_at-clause-spent g c).Then-is_at in
    leaf_spent c.args.key c.args.guess g.E.Revise.spent c.args.revision.now c.revise_in.new.revision c.args.leaf.now c.requires here c.revise_in.ensures.spent

pub returns-then-is_at-clause-found : goal.returns-then-is_at-clause-found
returns-then-is_at-clause-found g c =
    let here = there g (goal.at.returns-then-is_at-clause-found g c).Then-is_at in
    leaf_found c.args.key c.args.guess c.args.leaf.now c.requires here
