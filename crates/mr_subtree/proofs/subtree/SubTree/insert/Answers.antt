use Rattle.mr_subtree.proofs.Common.{rules, arith, Some, IsSome, refl, sym, ap, subst, length, ◌≤◌, ◌∙◌, row_at, key_of_pair}
use Rattle.mr_subtree.proofs.RootFacts.{grown_root, memory_wanted}
use Rattle.mr_subtree.proofs.subtree.SubTree.insert.Goals.{in-Some-1, in-None-1}
use Rattle.mr_subtree.proofs.subtree.SubTree.insert.Goals as goal

pub insert_full-requires : goal.insert_full-requires
insert_full-requires g c = (search rules, (c.requires, (subst (λ o. IsSome o) (sym c.in-Full.ensures.value) refl, ap (λ s. row_at key_of_pair c.args.key s.rows) c.in-Full.ensures.answer.1 ∙ c.in-Full.ensures.answer.0)))

pub returns-in-Full-clause-memory : goal.returns-in-Full-clause-memory
returns-in-Full-clause-memory g c = memory_wanted c.insert_full.result (length c.args.self.now.rows) (subst (λ s. 32 ≤ length s.rows) c.self.view_is c.in-Full.ensures.answer.2)

pub invariant_of-self-in-Done-2 : goal.invariant_of-self-in-Done-2
invariant_of-self-in-Done-2 g c = (grown_root c.args.key (Some c.args.value) c.self.inside.root c.insert_room.new.self c.args.self.now c.self.view_is c.self.invariant refl c.in-Done.ensures.answer.1).0

pub returns-in-Done-clause-answer : goal.returns-in-Done-clause-answer
returns-in-Done-clause-answer g c =
    let none = sym (ap (λ s. row_at key_of_pair c.args.key s.rows) c.self.view_is) ∙ c.in-Done.ensures.answer.0 in
    let grown = grown_root c.args.key (Some c.args.value) c.self.inside.root c.insert_room.new.self c.args.self.now c.self.view_is c.self.invariant refl c.in-Done.ensures.answer.1 in
    elim c.match-item.branch [
      | in-Some-1 w ↦ (none, ap (λ s. s.rows) w.self-is ∙ grown.1)
      | in-None-1 w ↦ (none, ap (λ s. s.rows) w.self-is ∙ grown.1)
    ]

pub returns-in-Done-clause-height : goal.returns-in-Done-clause-height
returns-in-Done-clause-height g c =
    let same = c.in-Done.ensures.answer.1.level ∙ ap (λ s. s.height) c.self.view_is in
    elim c.match-item.branch [
      | in-Some-1 w ↦ λ few. ap (λ s. s.height) w.self-is ∙ same
      | in-None-1 w ↦ λ few. ap (λ s. s.height) w.self-is ∙ same
    ]

pub returns-in-Full-clause-height : goal.returns-in-Full-clause-height
returns-in-Full-clause-height g c = λ few. absurd (omega (arith, few, subst (λ s. 32 ≤ length s.rows) c.self.view_is c.in-Full.ensures.answer.2))
