use Rattle.part_table.proofs.Common.{Result, Ok, Err, IsOk, OnOk}
use Rattle.part_table.proofs.recut.joined.Goals as goal

-- what holds on Ok holds of what is Ok
of_ok : {A E : Type 0} (r : Result A E) {P : Type 0} → IsOk r → OnOk r P → P
of_ok (Ok done) ok so = so
of_ok (Err why) ok so = absurd cc

pub returns : goal.returns
returns c =
    let all = c.try_extend_from_slice-all in
    let slice = c.as_slice.ensures.value in
    rw (← slice) (of_ok all.result (all.ensures.variant.1 (rw slice c.requires)) all.ensures.ok)
