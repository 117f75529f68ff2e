use Rattle.mr_node.proofs.Common.{rules, arith, ◌+◌, ap, subst, ◌∙◌, IsShare}
use Rattle.mr_node.proofs.node.Node.even_with.Goals as goal

pub low_of-low-requires : goal.low_of-low-requires
low_of-low-requires g c = omega (arith, c.width.ensures.value, c.width.ensures.well.fits, c.width-2.ensures.value, c.width-2.ensures.well.fits)

pub share_with-requires : goal.share_with-requires
share_with-requires g c =
    let both = ap (λ w. w + c.width-2.result) c.width.ensures.value ∙ ap (λ w. c.args.self.now.width + w) c.width-2.ensures.value in
    (search rules, (c.requires.level, (c.requires.ordered, subst (λ n. IsShare n c.low_of-low.result) both c.low_of-low.ensures.share)))
