use Rattle.std.proofs.Common.{rules, arith, ◌≡◌, None, ap, ◌∙◌}
use Rattle.tatp_rows.specs.Ordered.{row_at}
use Rattle.mr_node.specs.Rows.{key_of_pair}
use Rattle.tree_tests.proofs.node_tests.grow.Goals as goal

pub insert_split-requires : goal.insert_split-requires
insert_split-requires g c =
    let root = c.add_root.ensures.root in
    let absent : row_at key_of_pair 33 c.add_root.new.self.rows ≡ None = ap (row_at key_of_pair 33) root.rows ∙ ap (λ s. row_at key_of_pair 33 s.rows) c.in-Full.ensures.answer.1 ∙ c.in-Full.ensures.answer.0 in
    (search rules, (search rules, (search rules, (absent, (omega (arith, root.width), omega (arith, root.height, c.add_root.ensures.stock, c.requires, c.height.ensures.value))))))
