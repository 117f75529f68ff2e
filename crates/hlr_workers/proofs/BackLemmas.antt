-- A holding comes home from a worker with the numbers that it had.
use Rattle.hlr_workers.proofs.Common.{◌≡◌, ◌∙◌, refl, ap, ℕ, List, [], ◌∷◌, map, false, Some, PartState, HoldingState, Job, Act, Post, Part, number_pair, IsBackWith, numbers_of, IsJobDone, Reply, outcome_numbers, AreNumberless, IsNumberless, IsSession}
use Rattle.hlr_workers.proofs.SessionLemmas.{session_same}

pub job_numbers : (job : Job) (a : HoldingState) (answer : Reply) (b : HoldingState) → IsNumberless job → IsJobDone job a answer b → numbers_of b ≡ numbers_of a
job_numbers (Act act) a answer b of done = outcome_numbers act a.part.book b.part.book done.rows of done.outcome
job_numbers (Post limit) a answer b of done = ap (λ (part : PartState). map number_pair part.book.subscribers) done.part

session_numbers : (a : HoldingState) (jobs : List (ℕ × Job)) (answers : List (ℕ × Reply)) (b : HoldingState) → AreNumberless jobs → IsSession a jobs answers b → numbers_of b ≡ numbers_of a
session_numbers a [] [] b of session = ap numbers_of session
session_numbers a [] (x ∷ answers) b of session = absurd session
session_numbers a (y ∷ jobs) [] b of session = absurd session
session_numbers a (y ∷ jobs) (x ∷ answers) b of session =
    session_numbers session.1.0 jobs answers b of.1 session.1.2 ∙ job_numbers y.1 a x.1 session.1.0 of.0 session.1.1

pub session_back : (a : HoldingState) (jobs : List (ℕ × Job)) (answers : List (ℕ × Reply)) (b : HoldingState) → AreNumberless jobs → IsSession a jobs answers b
    → IsBackWith (Some (Part (record { holding = a; home = false }))) b
session_back a jobs answers b of session = ((refl, session_same a jobs answers b session), session_numbers a jobs answers b of session)
