use Rattle.tatp_actions.proofs.Common.{◌⊎◌, inl, inr}
use Rattle.tatp_actions.proofs.CutTablesLemmas.{tables_apart, joined_holds, melded_low, melded_high}
use Rattle.tatp_actions.proofs.CutTablesLemmas.{apart_behind, apart_before, emptied_is, emptied_holds}
use Rattle.tatp_actions.proofs.cutting.Part.meld_from.Goals as goal

pub join_from-steps-requires-clause-apart : goal.join_from-steps-requires-clause-apart
join_from-steps-requires-clause-apart c =
    apart_behind _ _ (tables_apart _ _ _ _ _ _ _ _ _ _ _ _ c.self.invariant c.other.invariant c.if-self-other.true)

pub invariant_of-self : goal.invariant_of-self
invariant_of-self c =
    joined_holds _ _ _ _ _ _ _ _ _ _ _ _ c.self.invariant c.other.invariant c.if-self-other.true _ _ _ _ c.join_from-steps.ensures.rows c.self.invariant.0.width

pub invariant_of-other : goal.invariant_of-other
invariant_of-other c =
    emptied_holds _ _ _ _ _ _ _ c.other.invariant c.join_from-steps.ensures.other _ _

pub returns-then-self-other-clause-melded : goal.returns-then-self-other-clause-melded
returns-then-self-other-clause-melded c =
    melded_low _ _ _ _ _ _ _ _ _ _ _ _ _ _ _ c.self.view_is c.other.view_is c.join_from-steps.ensures.rows c.if-self-other.true _ _ c.join_from-steps.ensures.asked.0

pub returns-then-self-other-clause-left : goal.returns-then-self-other-clause-left
returns-then-self-other-clause-left c =
    emptied_is _ _ _ _ _ _ _ _ c.other.view_is c.join_from-steps.ensures.other c.join_from-steps.ensures.other_heights c.join_from-steps.ensures.asked.1

pub returns-then-self-other-clause-steps : goal.returns-then-self-other-clause-steps
returns-then-self-other-clause-steps c =
    rw (← c.self.view_is, ← c.other.view_is) (c.join_from-steps.ensures.steps, c.join_from-steps.ensures.no_fewer)

pub returns-then-self-other-clause-heights : goal.returns-then-self-other-clause-heights
returns-then-self-other-clause-heights c = rw (← c.self.view_is) c.in_ok-stocks.ensures.heights

pub returns-then-self-other-clause-other_heights : goal.returns-then-self-other-clause-other_heights
returns-then-self-other-clause-other_heights c = rw (← c.other.view_is) c.in_ok-stocks.ensures.other_heights

pub returns-then-self-other-clause-after : goal.returns-then-self-other-clause-after
returns-then-self-other-clause-after c = (invariant_of-self c).0

pub returns-then-self-other-clause-rest : goal.returns-then-self-other-clause-rest
returns-then-self-other-clause-rest c = (invariant_of-other c).0

-- the part ends where the other one begins, or the other way round
second : {A B : Type 0} → A ⊎ B → (A → ⊥) → B
second (inl a) no_first = absurd (no_first a)
second (inr b) no_first = b

pub join_from-steps-requires-2-clause-apart : goal.join_from-steps-requires-2-clause-apart
join_from-steps-requires-2-clause-apart c =
    let touch = second (rw (← c.self.view_is, ← c.other.view_is) at c.requires.touch) c.if-self-other.false in
    apart_before _ _ (tables_apart _ _ _ _ _ _ _ _ _ _ _ _ c.other.invariant c.self.invariant touch)

pub invariant_of-self-2 : goal.invariant_of-self-2
invariant_of-self-2 c =
    let touch = second (rw (← c.self.view_is, ← c.other.view_is) at c.requires.touch) c.if-self-other.false in
    joined_holds _ _ _ _ _ _ _ _ _ _ _ _ c.other.invariant c.self.invariant touch _ _ _ _ c.join_from-steps-2.ensures.rows c.self.invariant.0.width

pub invariant_of-other-2 : goal.invariant_of-other-2
invariant_of-other-2 c =
    emptied_holds _ _ _ _ _ _ _ c.other.invariant c.join_from-steps-2.ensures.other _ _

pub returns-clause-melded : goal.returns-clause-melded
returns-clause-melded c =
    melded_high _ _ _ _ _ _ _ _ _ _ _ _ _ _ _ c.self.view_is c.other.view_is c.join_from-steps-2.ensures.rows c.if-self-other.false _ _ c.join_from-steps-2.ensures.asked.0

pub returns-clause-left : goal.returns-clause-left
returns-clause-left c =
    emptied_is _ _ _ _ _ _ _ _ c.other.view_is c.join_from-steps-2.ensures.other c.join_from-steps-2.ensures.other_heights c.join_from-steps-2.ensures.asked.1

pub returns-clause-steps : goal.returns-clause-steps
returns-clause-steps c =
    rw (← c.self.view_is, ← c.other.view_is) (c.join_from-steps-2.ensures.steps, c.join_from-steps-2.ensures.no_fewer)

pub returns-clause-heights : goal.returns-clause-heights
returns-clause-heights c = rw (← c.self.view_is) c.in_ok-stocks.ensures.heights

pub returns-clause-other_heights : goal.returns-clause-other_heights
returns-clause-other_heights c = rw (← c.other.view_is) c.in_ok-stocks.ensures.other_heights

pub returns-clause-after : goal.returns-clause-after
returns-clause-after c = (invariant_of-self-2 c).0

pub returns-clause-rest : goal.returns-clause-rest
returns-clause-rest c = (invariant_of-other-2 c).0
