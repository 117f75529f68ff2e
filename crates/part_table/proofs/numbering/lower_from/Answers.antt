-- The numbers fall one after another.
use Rattle.part_table.proofs.Common.{◌∙◌, ◌<◌, ◌≤◌, length, refl, sym, arith}
use Rattle.part_table.proofs.BehindLemmas.{one_anew, none_anew}
use Rattle.part_table.proofs.PlaceLemmas.{blank}
use Rattle.part_table.proofs.RenumberLemmas.{each_behind, each_number, region_lowered}
use Rattle.part_table.proofs.numbering.lower_from.Goals as goal

pub loop-i-init : goal.loop-i-init
loop-i-init c = record { so_far = refl; can_fall = c.requires }

pub lowered-requires : goal.lowered-requires
lowered-requires c =
    let within : c.loop-i.i < length c.loop-i.regions = omega (arith, c.loop-i.auto.regions) in
    (each_number (λ p. 1 ≤ p) c.loop-i.regions c.loop-i.i blank within c.loop-i.invariant.can_fall).0

pub loop-i-preserved : goal.loop-i-preserved
loop-i-preserved c =
    let within : c.loop-i.i < length c.loop-i.regions = omega (arith, c.loop-i.auto.regions) in
    rw c.lowered.ensures (record {
      so_far = one_anew region_lowered c.loop-i.regions c.loop-i.i blank within ∙ c.loop-i.invariant.so_far;
      can_fall = each_behind (λ p. 1 ≤ p) c.loop-i.regions c.loop-i.i blank _ within c.loop-i.invariant.can_fall;
    })

pub returns : goal.returns
returns c =
    let past : length c.loop-i.regions ≤ c.loop-i.i = omega (arith, c.loop-i.auto.regions) in
    sym (none_anew region_lowered c.loop-i.regions c.loop-i.i past) ∙ c.loop-i.invariant.so_far
