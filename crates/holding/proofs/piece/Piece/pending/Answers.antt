use Rattle.holding.proofs.Common.{◌∙◌, ap, sym, arith, FitsSigned, w64, rules, pos, ints, to_z-of_z}
use Rattle.holding.proofs.HeldLemmas.{few}
use Rattle.holding.proofs.MovedLemmas.{counts_pending}
use Rattle.holding.proofs.piece.Piece.pending.Goals as goal

pub delta_of-requires : goal.delta_of-requires
delta_of-requires c =
    let law = c.self.invariant.law c.args.cell c.requires in
    let most = few c.self.inside.part c.self.invariant.rules c.args.cell in
    let count = counts_pending c.self.inside.pending c.args.cell in
    let got = c.get.ensures in
    omega (arith, ints)

pub returns : goal.returns
returns c =
    let fits : FitsSigned w64 c.delta_of.result = search rules in
    rw (← c.self.view_is) (to_z-of_z w64 c.delta_of.result fits ∙ c.delta_of.ensures ∙ ap pos c.get.ensures ∙ sym (counts_pending c.self.inside.pending c.args.cell))
