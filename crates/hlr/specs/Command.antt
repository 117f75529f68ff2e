-- What a record asks for.
use Rattle.hlr_core.specs.declared.event.Event.{Event}

-- an event for the register, one of the reports, or a recut to the bounds that the record's fields spell
pub data Command : Type 0 where
  Ask : Event → Command
  Views : Command
  Scan : Command
  Index : Command
  Regions : Command
  Propose : Command
  Recut : Command
