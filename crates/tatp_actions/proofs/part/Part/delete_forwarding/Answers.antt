use Rattle.tatp_actions.proofs.Common.{sym}
use Rattle.tatp_actions.proofs.TransactionLemmas.{forwarding_deleted, no_forwarding}
use Rattle.tatp_actions.proofs.part.Part.delete_forwarding.Goals as goal

pub returns-in_default : goal.returns-in_default
returns-in_default g c =
    (no_forwarding _ _ _ _ _ c.remove_forwarding.ensures.rules c.requires (sym c.if-not-is_between.ensures) (sym (rw c.from.ensures at c.if-not-is_start_time.ensures))
    c.in_default.ensures.found c.in_default.ensures.kept)

pub returns : goal.returns
returns g c =
    forwarding_deleted _ _ _ _ _ _ _ _ c.in-Some.row _ c.remove_forwarding.ensures.rules c.requires (sym c.if-not-is_between.ensures) (sym (rw c.from.ensures at c.if-not-is_start_time.ensures))
    c.ranges.sf_type.fits c.ranges.start_time.fits c.in-Some.ensures.found c.remove_forwarding.ensures.kept c.has_active-active.ensures.value c.has_active-active.ensures.kept
    c.zone_of-zone.ensures.value c.forwarding_moved-change.ensures
