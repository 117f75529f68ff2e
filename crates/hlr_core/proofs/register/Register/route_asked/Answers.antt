use Rattle.hlr_core.proofs.Common.{◌≡◌, Some, sym, place_of, job_of}
use Rattle.part_table.specs.declared.region.Place.TheVariants as place
use Rattle.hlr_core.proofs.RouteLemmas.{job_moving, job_to, now_refused}
use Rattle.hlr_core.proofs.register.Register.route_asked.Goals as goal

pub s_id-requires : goal.s_id-requires
s_id-requires c = (c.requires.0, rw c.in-Ok.is at c.requires.1)

pub returns-in-Part : goal.returns-in-Part
returns-in-Part c =
    let placed : place_of c.s_id.result c.self.inside.owners.regions ≡ Some (place.Part c.in-Part.part) =
    rw (← c.regions.ensures.value) (sym c.in-Part.ensures.value) in
    rw (← c.self.view_is) (λ event rows elsewhere asks. job_to event c.self.inside.owners rows elsewhere c.s_id.result (job_of c.in-Ok.task) (rw c.in-Ok.is at asks) c.s_id.ensures c.in-Part.part c.rules.ensures.ruled placed)

pub returns-in-Piece : goal.returns-in-Piece
returns-in-Piece c =
    let placed : place_of c.s_id.result c.self.inside.owners.regions ≡ Some (place.Piece c.in-Piece.field-0) =
    rw (← c.regions.ensures.value) (sym c.in-Piece.ensures.value) in
    rw (← c.self.view_is) (λ event rows elsewhere asks. job_moving event c.self.inside.owners rows elsewhere c.s_id.result (job_of c.in-Ok.task) (rw c.in-Ok.is at asks) c.s_id.ensures c.in-Piece.field-0 placed)

pub returns-in-Err : goal.returns-in-Err
returns-in-Err c = λ event rows elsewhere asks. now_refused event c.args.self.now rows elsewhere c.in-Err.why (rw c.in-Err.is at asks)
