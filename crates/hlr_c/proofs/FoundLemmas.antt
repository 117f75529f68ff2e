-- What was found for questions is what the call for one answers to each.
use Rattle.hlr_c.proofs.Common.{ℕ, List, get_or, map, inr, refl, arith, ◌∙◌, Ok, get_or-map, length-map, OwnersState, AllHome, AreHomesAfter, AreFound, home_to_all, Event, Reply, IsAnswer, AreTold}
use Rattle.hlr_c.proofs.AnswerLemmas.{waits_not}

-- what was found for the events of questions was found for the questions
pub found_of : {P Q F : Type 0} (asks : P → Event) (told : F → Reply) (h : OwnersState) (to_pair : Q → P) (none : P) (asked : List Q) (found : List F) → AreFound asks told h (map to_pair asked) found
    → AreFound (λ q. asks (to_pair q)) told h asked found
found_of asks told h to_pair none asked found are =
    let many = length-map asked to_pair in
    record {
      as_many = are.as_many ∙ many;
      steps = λ at question row below. rw (get_or-map to_pair asked at question none below) at (are.steps at none row (omega (arith, many, below)));
      while_out = λ at question row below. rw (get_or-map to_pair asked at question none below) at (are.while_out at none row (omega (arith, many, below)));
    }

-- so it tells what the call for each answers, where that changes nothing
pub told_of_found : {Q F X : Type 0} (asks : Q → Event) (told : F → Reply) (writes : Q → X → Reply → ℕ × X) (away : X → ℕ × X) (h : OwnersState) (asked : List Q) (found : List F) → ((q : Q) (one : F) → AreHomesAfter (asks q) (told one) h h) → AllHome h.owners
    → AreFound asks told h asked found → AreTold (λ q row. IsAnswer (Ok (asks q)) (writes q row) (away row)) (λ q row one. writes q row (told one)) h asked found
told_of_found asks told writes away h asked found homes all are = record {
  as_many = are.as_many;
  each = λ at question one row below. inr (
    waits_not (asks (get_or asked at question)) h (home_to_all (asks (get_or asked at question)) h all),
    told (get_or found at one),
    record { step = are.steps at question one below; homes = homes (get_or asked at question) (get_or found at one); while_out = are.while_out at question one below },
    refl,
  );
}
