use Rattle.hlr_c.proofs.Common.{◌≡◌, ◌<◌, ◌∙◌, ap, arith, length, List, parts_of, Region, OwnersState}
use Rattle.hlr_c.proofs.PartLemmas.{home_there}
use Rattle.hlr_c.proofs.lending.lend.Goals as goal

pub lend-requires : goal.lend-requires
lend-requires c =
    let h = c.args.register.now in
    let same = c.regions.ensures.value ∙ ap (λ (g : OwnersState). g.regions) c.register.ensures.value in
    let count : length (parts_of c.regions.result.now) ≡ length (parts_of h.regions) = ap (λ (regions : List Region). length (parts_of regions)) same in
    let parts = c.parts.ensures.value in
    let from = c.from.ensures in
    let test = c.if-part-from.false in
    let below : c.args.part < length (parts_of h.regions) = omega (arith, count, parts, from, test) in
    home_there h c.register.ensures.ruled c.args.part below (c.is_part_home.ensures.0 c.if-not-is_part_home.false)
