use Rattle.std.proofs.Common.{sym, ◌∙◌}
use Rattle.hlr_kept.proofs.keeping.put_line.Goals as goal

pub push_line-requires : goal.push_line-requires
push_line-requires c = c.requires.change (sym c.tells_done.ensures ∙ c.if-tells_done.true)
