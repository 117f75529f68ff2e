use Rattle.tatp_actions.proofs.Common.{sym, subst, IsPart}
use Rattle.tatp_actions.proofs.DestinationLemmas.{numbers_answer, no_number_answer}
use Rattle.tatp_actions.proofs.part.Part.new_destination.Goals as goal

pub returns-then-is_empty : goal.returns-then-is_empty
returns-then-is_empty g c =
    let part = subst IsPart c.self.view_is c.self.invariant.0 in
    rw c.refused-then-is_empty.ensures (no_number_answer _ _ c.args.s_id c.args.sf_type c.args.start_time c.args.end_time c.find_destinations-numbers.result part
    c.requires (sym c.if-not-is_between.ensures) (sym (rw c.from.ensures at c.if-not-is_start_time.ensures)) (sym c.if-not-is_between-2.ensures)
    c.find_destinations-numbers.ensures.found c.find_destinations-numbers.ensures.asked (sym c.if-is_empty.ensures))

pub returns : goal.returns
returns g c =
    let part = subst IsPart c.self.view_is c.self.invariant.0 in
    rw c.none.ensures (numbers_answer _ _ c.args.s_id c.args.sf_type c.args.start_time c.args.end_time c.find_destinations-numbers.result part
    c.requires (sym c.if-not-is_between.ensures) (sym (rw c.from.ensures at c.if-not-is_start_time.ensures)) (sym c.if-not-is_between-2.ensures)
    c.find_destinations-numbers.ensures.found c.find_destinations-numbers.ensures.asked (sym c.if-is_empty.ensures))
