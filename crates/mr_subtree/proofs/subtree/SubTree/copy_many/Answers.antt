use Rattle.mr_subtree.proofs.Common.{◌≡◌, ◌∷◌, ◌++◌, [], get_or, map, take, sym, ap, ◌∙◌, map_more, value_at}
use Rattle.mr_subtree.proofs.DescentLemmas.{found}
use Rattle.mr_subtree.proofs.subtree.SubTree.copy_many.Goals as goal

pub loop-place-preserved : goal.loop-place-preserved
loop-place-preserved g c =
    let rows = c.args.self.now.rows in
    let keys = c.args.keys.now in
    let place = c.loop-place.place in
    let way = found c.root.result.now.rows keys c.leaves-nodes.result place c.index-nodes-place.result c.leaves-nodes.ensures c.loop-place-test.true in
    let value : c.copied.result ≡ value_at (get_or keys place 0) rows = c.copied.ensures ∙ c.find.ensures ∙ way ∙ ap (λ s. value_at (get_or keys place 0) s.rows) c.root.ensures in
    c.push.ensures.items
    ∙ ap (λ xs. xs ++ c.copied.result ∷ []) c.loop-place.invariant
    ∙ ap (λ x. map (λ key. value_at key rows) (take place keys) ++ x ∷ []) value
    ∙ sym (map_more (λ key. value_at key rows) keys place 0 c.loop-place-test.true)
