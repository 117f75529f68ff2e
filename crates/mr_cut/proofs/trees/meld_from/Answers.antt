use Rattle.mr_cut.proofs.Common.{rules, arith, ◌≡◌, ◌-◌, max, ◌++◌, sym, ap, subst, ◌∙◌, abs_diff, IsOrderedBy, key_of_pair, IsRoot, after_steps, join_steps}
use Rattle.mr_subtree.proofs.RootFacts.{low_root as low_height}
use Rattle.mr_cut.proofs.JoinLemmas.{apart_ordered}
use Rattle.mr_cut.proofs.CountLemmas.{count_fits, same_count}
use Rattle.mr_cut.proofs.trees.meld_from.Goals as goal

pub join-root-requires : goal.join-root-requires
join-root-requires g c =
    let low = c.take_root-first.ensures.root in
    let high = c.take_root-second.ensures.root in
    let low_root = subst IsRoot c.take_root-first.ensures.root c.take_root-first.ensures.rules in
    let high_root = subst IsRoot c.take_root-second.ensures.root c.take_root-second.ensures.rules in
    let ordered = subst (λ s. IsOrderedBy key_of_pair (s.rows ++ c.take_root-second.result.value.rows)) (sym low) (subst (λ s. IsOrderedBy key_of_pair (c.args.low.now.rows ++ s.rows)) (sym high) (apart_ordered c.args.low.now c.args.high.now low_root high_root c.requires.apart)) in
    (search rules, (subst IsRoot (sym low) low_root, (subst IsRoot (sym high) high_root, (ordered, omega (arith, ap (λ s. s.height) low, ap (λ s. s.height) high, c.give.ensures, c.give-2.ensures, c.requires.stock)))))

pub returns-clause-rows : goal.returns-clause-rows
returns-clause-rows g c =
    let low = c.take_root-first.ensures.root in
    let high = c.take_root-second.ensures.root in
    ap (λ s. s.rows) (c.put_root.ensures) ∙ c.join-root.ensures.rows ∙ ap (λ s. s.rows ++ c.take_root-second.result.value.rows) low ∙ ap (λ s. c.args.low.now.rows ++ s.rows) high

pub returns-clause-steps : goal.returns-clause-steps
returns-clause-steps g c =
    let low = c.take_root-first.ensures.root in
    let high = c.take_root-second.ensures.root in
    omega (arith, ap (λ s. s.height) low, ap (λ s. s.height) high, c.new-meter.ensures, c.join-root.ensures.steps, c.steps.ensures)

pub returns-clause-no_fewer : goal.returns-clause-no_fewer
returns-clause-no_fewer g c =
    let low = c.take_root-first.ensures.root in
    let high = c.take_root-second.ensures.root in
    let low_root = subst IsRoot c.take_root-first.ensures.root c.take_root-first.ensures.rules in
    let high_root = subst IsRoot c.take_root-second.ensures.root c.take_root-second.ensures.rules in
    omega (arith, ap (λ s. s.height) low, ap (λ s. s.height) high, low_height c.args.low.now low_root, low_height c.args.high.now high_root, c.join-root.ensures.no_fewer, c.steps.ensures)

pub returns-clause-used : goal.returns-clause-used
returns-clause-used g c =
    let low = ap (λ s. s.height) (c.take_root-first.ensures.root) in
    let high = ap (λ s. s.height) (c.take_root-second.ensures.root) in
    omega (arith, low, high, c.give.ensures, c.give-2.ensures, c.join-root.ensures.stock)

pub returns-clause-count : goal.returns-clause-count
returns-clause-count g c =
    let low = ap (λ s. s.height) (c.take_root-first.ensures.root) in
    let high = ap (λ s. s.height) (c.take_root-second.ensures.root) in
    let root = ap (λ s. s.height) (c.put_root.ensures) in
    let low_root = low_height c.args.low.now (subst IsRoot c.take_root-first.ensures.root c.take_root-first.ensures.rules) in
    let high_root = low_height c.args.high.now (subst IsRoot c.take_root-second.ensures.root c.take_root-second.ensures.rules) in
    let join = c.join-root.ensures in
    let begun = subst (λ n. c.join-root.new.meter ≡ after_steps (join_steps (abs_diff c.take_root-first.result.value.height c.take_root-second.result.value.height) (c.give-2.new.self - c.join-root.new.stock) (c.join-root.result.value.height - max c.take_root-first.result.value.height c.take_root-second.result.value.height)) n) c.new-meter.ensures join.count in
    let number = count_fits _ _ _ _ (omega (arith, low, high, low_root, high_root)) (omega (arith, join.stock)) (omega (arith, join.height.most)) begun in
    same_count _ _ _ _ _ _ _ _ _ _ low high root (omega (arith, c.give.ensures, c.give-2.ensures)) number c.steps.ensures
