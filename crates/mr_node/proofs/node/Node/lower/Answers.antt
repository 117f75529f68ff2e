use Rattle.mr_node.proofs.Common.{rules, arith, ◌<◌, refl}
use Rattle.mr_node.proofs.node.Node.lower.Goals as goal

pub returns-then-width-ge2-clause-lowered : goal.returns-then-width-ge2-clause-lowered
returns-then-width-ge2-clause-lowered g c = record { rows = refl; well = c.requires.well; two = λ h. omega (arith, c.width.ensures.value, c.if-width-ge2.true) }

pub drop_root-requires : goal.drop_root-requires
drop_root-requires g c =
    let above_leaves : 0 < c.args.self.now.height = omega (arith, c.height.ensures.value, c.if-height-eq0.false) in
    (search rules, (above_leaves, omega (arith, c.requires.some above_leaves, c.width.ensures.value, c.if-width-ge2.false)))
