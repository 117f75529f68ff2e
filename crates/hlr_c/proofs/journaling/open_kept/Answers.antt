use mir.Syntax.{w32}
use Rattle.std.specs.List.{range_with_len}
use Rattle.std.specs.Prelude.{ℤ, ◌-◌, map}
use Rattle.std.proofs.lemmas.Int.{to_z-of_z}
use Rattle.hlr_c.proofs.Common.{◌∙◌, ap, subst}
use Rattle.part_table.proofs.BoundsLemmas.{no_pieces}
use Rattle.part_table.specs.Opening.{opening_bound}
use Rattle.part_table.specs.Regions.{pieces_of}
use Rattle.hlr_owners.specs.Owners.{store_in}
use Rattle.hlr_owners.specs.Store.{Store}
use Rattle.hlr_c.specs.Journaled.{IsComeBack}
use Rattle.hlr_c.proofs.journaling.open_kept.Goals as goal

-- a register that was just opened has no piece
pub reopen-requires-clause-pieces : goal.reopen-requires-clause-pieces
reopen-requires-clause-pieces c =
    ap (λ (s : Store). pieces_of s.regions) c.in-Ok.ensures.ok.1 ∙ no_pieces 0 1 (map (opening_bound c.args.parts c.args.width) (range_with_len 1 (c.args.parts - 1)))

pub returns-in-Ok-reopen-clause-ok : goal.returns-in-Ok-reopen-clause-ok
returns-in-Ok-reopen-clause-ok c =
    let back = c.in-Ok-reopen.ensures.ok in
    let lender = c.in-Ok-reopen.opened.value.lender in
    let here = subst (λ (f : ℤ). IsComeBack f c.args.bytes.now (store_in c.in-Ok.register) lender back.0) (to_z-of_z w32 c.args.fd c.ranges.fd) back.2 in
    (c.in-Ok.ensures.ok.0, back.0, back.1, subst (λ (s : Store). IsComeBack c.args.fd c.args.bytes.now s lender back.0) c.in-Ok.ensures.ok.1 here)
