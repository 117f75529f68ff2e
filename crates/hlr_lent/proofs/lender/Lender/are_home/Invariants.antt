use Rattle.hlr_lent.proofs.Common.{◌<◌, ◌≤◌, ℕ, IsPartHome}
use Rattle.hlr_lent.proofs.lender.Lender.are_home.Given as goal

abbrev pub invariant-loop-part : goal.invariant-loop-part
invariant-loop-part l = (q : ℕ) → l.fn.parts.first ≤ q → q < l.part → IsPartHome q l.self
