use Rattle.mr_node.proofs.Common.{◌≡◌, get_or, sym, subst}
use Rattle.mr_node.proofs.EntryLemmas.{read_value, missing_value}
use Rattle.mr_node.proofs.entries.find_entry.Goals as goal

pub returns-in-Ok : goal.returns-in-Ok
returns-in-Ok g c =
    let r = c.index-as_slice-place.result in
    read_value c.args.key c.in-Ok.place r c.args.leaf.now c.requires c.in-Ok.ensures (subst (λ xs. r ≡ get_or xs c.in-Ok.place r) c.as_slice.ensures.value c.index-as_slice-place.is)

pub returns-in-Err : goal.returns-in-Err
returns-in-Err g c = sym (missing_value c.args.key c.in-Err.field-0 c.args.leaf.now c.in-Err.ensures)
