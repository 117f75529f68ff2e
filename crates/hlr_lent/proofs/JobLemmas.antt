-- What jobs leave of a holding that is out, so that it may come home.
use Rattle.hlr_lent.proofs.Common.{refl, ap, List, [], ◌∷◌, map, false, Some, DeskState, PartState, HoldingState, Job, Act, Post, RegionOwner, Part, holding_keeps, number_pair, IsBackWith, IsLater, IsJobDone, Reply, all_later_self, later_after, outcome_numbers, AreDone, IsNumberless, IsWorked, MayComeHome, Message}

-- the owner of a part that is out, with what its holding is now
abbrev pub away : HoldingState → RegionOwner
away k = Part (record { holding = k; home = false })

job_later : (job : Job) (a : HoldingState) (answer : Reply) (b : HoldingState) → IsNumberless job → IsJobDone job a answer b → IsLater (away a) (away b)
job_later (Act act) a answer b none done = record {
  owner = (
    record {
      lo = done.range.0;
      hi = done.range.1;
      width = done.range.2;
      board = ap (λ (desk : DeskState). desk.board) done.desk.0;
      owned = ap (λ (desk : DeskState). desk.view.owned) done.desk.0;
    },
    λ lawful. holding_keeps b done.rules,
    λ wide. done.rules.wide,
  );
  numbers = outcome_numbers act a.part.book b.part.book done.rows none done.outcome;
}
job_later (Post limit) a answer b none done = record {
  owner = (
    record {
      lo = ap (λ (part : PartState). part.lo) done.part;
      hi = ap (λ (part : PartState). part.hi) done.part;
      width = ap (λ (part : PartState). part.width) done.part;
      board = done.desk.0;
      owned = done.desk.1;
    },
    λ lawful. holding_keeps b done.rules,
    λ wide. done.rules.wide,
  );
  numbers = ap (λ (part : PartState). map number_pair part.book.subscribers) done.part;
}

done_later : (lent : HoldingState) (jobs : List (Job × Reply)) (now : HoldingState) → AreDone lent jobs now → IsLater (away lent) (away now)
done_later lent [] now is = rw is (all_later_self (away lent ∷ [])).0
done_later lent (last ∷ earlier) now done =
    later_after (away lent) (away done.0) (away now) (done_later lent earlier done.0 done.1) (job_later last.0 done.0 last.1 now done.2 done.3)

-- a holding that jobs have made of the one that was lent may take its place
pub worked_back : (lent now : HoldingState) → IsWorked lent now → IsBackWith (Some (away lent)) now
worked_back lent now worked =
    let later = done_later lent worked.0 now worked.1 in
    ((refl, later.owner.0), later.numbers)

-- one job more
pub one_more : (past : List Message) (a b : HoldingState) (job : Job) (answer : Reply) → MayComeHome past a → IsNumberless job → IsJobDone job a answer b → MayComeHome past b
one_more past a b job answer may none done = (may.0, may.1, ((job, answer) ∷ may.2.0, (a, may.2.1, none, done)))
