use Rattle.std.proofs.Common.{[], ◌∷◌, ◌++◌, refl}
use Rattle.hlr_kept.specs.Runs.{line_bytes}
use Rattle.hlr_kept.proofs.KeptLemmas.{order_ahead}
use Rattle.hlr_kept.proofs.laws.applied_is_ahead.Goals as goal

pub returns : goal.returns
returns c = λ stored orders before after answers group one told was step fits.
    order_ahead stored orders before after answers (answers ++ told ∷ []) group (group ++ line_bytes one told) one told was step fits refl refl
