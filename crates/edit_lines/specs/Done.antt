-- Which events have a line: those that a register answers Done.
use Rattle.std.specs.Prelude.{◌≡◌, true}
use Rattle.tatp_actions.specs.declared.action.RowReply.TheVariants as row_reply
use Rattle.hlr_owners.specs.Store.{Store}
use Rattle.hlr_core.specs.Step.{IsStep}
use Rattle.hlr_core.specs.declared.event.Event.{Event}
use Rattle.hlr_core.specs.declared.event.Reply.TheVariants as reply
use Rattle.edit_lines.specs.Lines.{is_change}

-- each event that is answered Done changes rows, and its plain numbers are in range
abbrev pub DoneIsChange : Type 0
DoneIsChange =
    (event : Event) (before after : Store) → IsStep event before (reply.Rows row_reply.Done) after → is_change event ≡ true
