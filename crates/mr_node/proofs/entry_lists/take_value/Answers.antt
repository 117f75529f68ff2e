use Rattle.mr_node.proofs.Common.{Some, get_or, sym, ap, ◌∙◌, slice_get-get_or}
use Rattle.mr_node.proofs.FrontLemmas.{value_taken}
use Rattle.mr_node.proofs.entry_lists.take_value.Goals as goal

pub returns-clause-rest : goal.returns-clause-rest
returns-clause-rest g c = (value_taken c.args.place c.take.new.dest c.args.values.now.items c.as_mut_slice.result.now c.as_mut_slice.ensures.value).0

pub returns-clause-len : goal.returns-clause-len
returns-clause-len g c = (value_taken c.args.place c.take.new.dest c.args.values.now.items c.as_mut_slice.result.now c.as_mut_slice.ensures.value).1

pub returns-clause-value : goal.returns-clause-value
returns-clause-value g c =
    let r = c.index-as_mut_slice-place.result in
    slice_get-get_or c.args.values.now.items c.args.place r c.requires ∙ ap Some (ap (λ xs. get_or xs c.args.place r) (sym c.as_mut_slice.ensures.value) ∙ sym c.take.ensures.value)
