use Rattle.mr_subtree.proofs.Common.{rules, arith, ◌≡◌, ◌≤◌, sym, ap, subst, IfSome, ◌∙◌, row_at, with_row, key_of_pair}
use Rattle.mr_subtree.proofs.RootFacts.{inserted, no_memory, filled}
use Rattle.mr_subtree.proofs.subtree.SubTree.insert_full.Goals as goal

pub grow-requires : goal.grow-requires
grow-requires g c =
    let enough : c.blanks_wanted-wanted.result ≤ c.fill.new.self = filled c.fill.result _ c.blanks_wanted-wanted.result c.fill.new.self c.fill.ensures.filled (sym c.is_err.ensures.value ∙ c.if-is_err.false) in
    (search rules, (c.self.invariant, (c.requires.small, (c.requires.some, (ap (λ s. row_at key_of_pair c.args.key s.rows) c.self.view_is ∙ c.requires.missing, (omega (arith, enough, c.blanks_wanted-wanted.ensures.each), λ full. omega (arith, enough, c.blanks_wanted-wanted.ensures.full full)))))))

pub returns-clause-answer : goal.returns-clause-answer
returns-clause-answer g c = inserted c.args.key c.args.item c.args.self.now.rows c.grow.new.root.rows c.requires.missing
    (subst (λ s. IfSome c.args.item (λ value. c.grow.new.root.rows ≡ with_row key_of_pair (c.args.key, value) s.rows)) c.self.view_is c.grow.ensures.rows)

pub returns-then-is_err-clause-answer : goal.returns-then-is_err-clause-answer
returns-then-is_err-clause-answer g c = no_memory c.args.key c.args.item c.refused.result c.args.self.now.rows c.self.inside.root.rows c.requires.missing (ap (λ s. s.rows) c.self.view_is) c.refused.ensures
