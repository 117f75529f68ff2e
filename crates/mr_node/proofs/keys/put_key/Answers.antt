use Rattle.mr_node.proofs.Common.{set, ap, ◌∙◌}
use Rattle.mr_node.proofs.PlaceLemmas.{put_within}
use Rattle.mr_node.proofs.keys.put_key.Goals as goal

pub returns : goal.returns
returns c = ap (λ keys. set keys c.args.place c.args.key) c.copy_within.ensures.after ∙ put_within c.args.place c.args.key c.args.keys.now c.requires c.told-keys
