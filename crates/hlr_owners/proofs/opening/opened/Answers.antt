use Rattle.hlr_owners.proofs.Common.{owns_alone}
use Rattle.hlr_owners.proofs.opening.opened.Goals as goal

pub of-requires-clause-slot : goal.of-requires-clause-slot
of-requires-clause-slot c = (c.args.slot, c.requires.slot, rw (c.in_ok-desk.ensures.ok.0) (owns_alone c.args.spare.now.view c.args.slot c.requires.slot).0)

pub of-requires-clause-small : goal.of-requires-clause-small
of-requires-clause-small c = rw (c.in_ok-desk.ensures.ok.0) c.requires.small
