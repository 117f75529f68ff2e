-- The numbers rise one after another.
use Rattle.part_table.proofs.Common.{◌∙◌, ◌<◌, ◌≤◌, length, refl, sym, arith}
use Rattle.part_table.proofs.BehindLemmas.{one_anew, none_anew}
use Rattle.part_table.proofs.PlaceLemmas.{blank}
use Rattle.part_table.proofs.RenumberLemmas.{each_behind, each_number, region_raised}
use Rattle.part_table.proofs.numbering.raise_from.Goals as goal

pub loop-i-init : goal.loop-i-init
loop-i-init c = record { so_far = refl; can_rise = c.requires }

pub raised-requires : goal.raised-requires
raised-requires c =
    let within : c.loop-i.i < length c.loop-i.regions = omega (arith, c.loop-i.auto.regions) in
    (each_number (λ p. p < 255) c.loop-i.regions c.loop-i.i blank within c.loop-i.invariant.can_rise).0

pub loop-i-preserved : goal.loop-i-preserved
loop-i-preserved c =
    let within : c.loop-i.i < length c.loop-i.regions = omega (arith, c.loop-i.auto.regions) in
    rw c.raised.ensures (record {
      so_far = one_anew region_raised c.loop-i.regions c.loop-i.i blank within ∙ c.loop-i.invariant.so_far;
      can_rise = each_behind (λ p. p < 255) c.loop-i.regions c.loop-i.i blank _ within c.loop-i.invariant.can_rise;
    })

pub returns : goal.returns
returns c =
    let past : length c.loop-i.regions ≤ c.loop-i.i = omega (arith, c.loop-i.auto.regions) in
    sym (none_anew region_raised c.loop-i.regions c.loop-i.i past) ∙ c.loop-i.invariant.so_far
