use Rattle.mr_cut.proofs.Common.{rules, arith, ◌≡◌, ◌+◌, refl, sym, ap, subst, ◌∙◌, AreEntries, FitUnderRoot}
use Rattle.mr_cut.proofs.JoinLemmas.{low_child, IsRootOver, inner_over_two, rooted}
use Rattle.mr_cut.proofs.joins.root_of_both.Goals.{After-insert_child-in-Some}
use Rattle.mr_cut.proofs.joins.root_of_both.Goals as goal

-- the inner node over both
root_of_both : (g : _) (c : After-insert_child-in-Some g) → IsRootOver c.args.one.value c.in-Some.two.value c.insert_child-in-Some.new.inner
root_of_both g c =
    let pair = subst (λ o. FitUnderRoot c.args.one.value o) c.in-Some.is c.requires.whole in
    let made = c.empty_inner-root.ensures in
    let level : c.empty_inner-root.result.height ≡ c.args.one.value.height + 1 = made.height ∙ ap (λ n. n + 1) (c.height.ensures.value ∙ ap (λ s. s.height) c.deref.ensures) in
    let low = c.insert_child.ensures in
    let high = c.insert_child-in-Some.ensures in
    inner_over_two _ _ c.empty_inner-root.result c.insert_child.new.inner _ pair.0 pair.1 pair.2 level made.len made.entries low.children low.height low.len low.entries high.children high.height high.len high.entries

pub overflow_add-height : goal.overflow_add-height
overflow_add-height g c =
    let pair = subst (λ o. FitUnderRoot c.args.one.value o) c.in-Some.is c.requires.whole in
    omega (arith, low_child _ _ pair.0, c.height.ensures.value, ap (λ s. s.height) c.deref.ensures)

pub build_inner-requires : goal.build_inner-requires
build_inner-requires g c = (search rules, (search rules, (root_of_both g (goal.at.build_inner-requires g c).After-insert_child-in-Some).inner))

pub returns-in-Some-clause-root : goal.returns-in-Some-clause-root
returns-in-Some-clause-root g c = rw c.in-Some.is (rooted _ _ _ _ c.build_inner.ensures.seen (root_of_both g (goal.at.returns-in-Some-clause-root g c).After-insert_child-in-Some))

pub insert_child-requires : goal.insert_child-requires
insert_child-requires g c =
    let pair = subst (λ o. FitUnderRoot c.args.one.value o) c.in-Some.is c.requires.whole in
    let root = c.empty_inner-root.ensures in
    let empty = subst (λ n. AreEntries n c.empty_inner-root.result.leasts c.empty_inner-root.result.children) (sym root.len) root.entries in
    (search rules, (search rules, (empty, (omega (arith, root.len), (omega arith, pair.0)))))

pub insert_child-requires-in-Some : goal.insert_child-requires-in-Some
insert_child-requires-in-Some g c =
    let pair = subst (λ o. FitUnderRoot c.args.one.value o) c.in-Some.is c.requires.whole in
    let root = c.insert_child.ensures in
    let len : c.insert_child.new.inner.len ≡ 1 = omega (arith, root.len, c.empty_inner-root.ensures.len) in
    (search rules, (search rules, (root.entries, (omega (arith, len), (omega (arith, len), record { level = refl; enough = pair.1.enough; well = pair.1.well })))))
