use Rattle.hlr_c.proofs.Common.{arith, pieces_of, length_regions, most_pieces}
use Rattle.hlr_c.proofs.reports.write_regions.Goals as goal

pub regions_for_c-requires : goal.regions_for_c-requires
regions_for_c-requires c =
    let are = c.list.ensures.regions in
    omega (arith, length_regions c.list.result.now, are.few_parts, most_pieces (pieces_of c.list.result.now) are.numbered are.distinct)
