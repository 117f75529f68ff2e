use Rattle.mr_node.proofs.Common.{arith, ◌∙◌, no_key}
use Rattle.mr_node.proofs.PlaceLemmas.{moved_behind}
use Rattle.mr_node.proofs.keys.take_key.Goals as goal

pub returns : goal.returns
returns c = c.move_to_end.ensures ∙ moved_behind c.args.place no_key c.args.keys.now (omega (arith, c.requires, c.told-keys))
