use Rattle.std.proofs.Common.{◌++◌, refl}
use Rattle.journal.specs.Lines.{lines}
use Rattle.hlr_kept.proofs.KeptLemmas.{all_written}
use Rattle.hlr_kept.proofs.laws.written_is_kept.Goals as goal

pub returns : goal.returns
returns c = λ stored orders register answers group written was begun rows.
    all_written stored orders register answers group written (written ++ lines group) was begun rows refl
