use Rattle.hlr.proofs.OwedFacts.{underway_more}
use Rattle.hlr.proofs.owed.owe_event.Goals as goal

pub returns-in-Ok : goal.returns-in-Ok
returns-in-Ok g c = λ fields taken stalled is rows start old under.
    underway_more rows start _ _ old taken fields c.args.event under is c.in-Ok.ensures.took
