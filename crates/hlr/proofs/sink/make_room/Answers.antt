use Rattle.hlr.proofs.SinkFacts.{adds_none}
use Rattle.hlr.proofs.sink.make_room.Goals as goal

pub returns-then-has_room-clause-text : goal.returns-then-has_room-clause-text
returns-then-has_room-clause-text g c = adds_none _
