use Rattle.mr_cut.proofs.Common.{rules, ◌++◌, sym, ap, subst, ◌∙◌, IsOrderedBy, key_of_pair}
use Rattle.mr_cut.proofs.side_joins.even.Goals as goal

pub even_with-requires : goal.even_with-requires
even_with-requires g c =
    let low = c.deref_mut.ensures.value in
    let high = c.deref_mut-2.ensures.value in
    let ordered = subst (λ s. IsOrderedBy key_of_pair (s.rows ++ c.deref_mut-2.result.now.rows)) (sym low) (subst (λ s. IsOrderedBy key_of_pair (c.args.low.value.rows ++ s.rows)) (sym high) c.requires.ordered) in
    (search rules, (ap (λ s. s.height) low ∙ c.requires.level ∙ sym (ap (λ s. s.height) high), ordered))
