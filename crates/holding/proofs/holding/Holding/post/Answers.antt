use Rattle.holding.proofs.Common.{refl, ◌∙◌, sym, ap, arith, subst, Some, None, err_from_is_err_and, IsNextNonzero, HoldingState, IsHolding}
use Rattle.holding.proofs.PostLemmas.{posting_begins, posting_full, posting_ends, posting_turn, posting_worn}
use Rattle.holding.proofs.holding.Holding.post.Goals as goal

pub loop-cell-init : goal.loop-cell-init
loop-cell-init g c =
    let is = subst IsHolding c.self.view_is c.self.invariant in
    record { part = refl; slot = refl; board = refl; within = omega arith; posting = posting_begins _ _ _ _ _ is.law }

pub loop-cell-preserved : goal.loop-cell-preserved
loop-cell-preserved g c =
    let found = subst (λ (h : HoldingState). IsNextNonzero c.loop-cell.from h.pending (Some c.in-Some.cell)) c.self-in-loop-cell.view_is c.in-Some.ensures in
    let is = c.in_ok-post_cell.ensures.posted.1 in
    record {
      part = ap (λ (h : HoldingState). h.part) is ∙ c.loop-cell.invariant.part;
      slot = ap (λ (h : HoldingState). h.slot) is ∙ c.loop-cell.invariant.slot;
      board = ap (λ (h : HoldingState). h.desk.board) is ∙ c.loop-cell.invariant.board;
      within = omega (arith, found.1);
      posting = posting_turn _ _ _ _ c.loop-cell.from c.in-Some.cell c.loop-cell.posted c.loop-cell.self c.post_cell.new.self (sym c.loop-cell.invariant.slot) (λ e. c.if-from-limit.false (c.from.ensures ∙ e)) found c.in_ok-post_cell.ensures.posted
          c.loop-cell.invariant.posting;
    }

pub returns-then-from-limit-clause-posted : goal.returns-then-from-limit-clause-posted
returns-then-from-limit-clause-posted g c =
    let found = subst (λ (h : HoldingState). IsNextNonzero c.loop-cell.from h.pending (Some c.in-Some.cell)) c.self-in-loop-cell.view_is c.in-Some.ensures in
    posting_full _ _ _ _ c.loop-cell.from c.in-Some.cell c.loop-cell.posted _ _ found (omega arith) c.loop-cell.invariant.posting

pub returns-in_err-post_cell-clause-posted : goal.returns-in_err-post_cell-clause-posted
returns-in_err-post_cell-clause-posted g c =
    let found = subst (λ (h : HoldingState). IsNextNonzero c.loop-cell.from h.pending (Some c.in-Some.cell)) c.self-in-loop-cell.view_is c.in-Some.ensures in
    let why = err_from_is_err_and c.from_residual.result c.from_residual.ensures.1 in
    rw (why.1, why.2) (posting_worn _ _ _ _ c.loop-cell.from c.in-Some.cell c.loop-cell.posted c.loop-cell.self c.post_cell.new.self c.in_err-post_cell.field-0.0 (sym c.loop-cell.invariant.slot) (λ e. c.if-from-limit.false (c.from.ensures ∙ e)) found c.in_err-post_cell.ensures.posted
    c.loop-cell.invariant.posting)

pub returns-clause-posted : goal.returns-clause-posted
returns-clause-posted g c =
    let none = subst (λ (h : HoldingState). IsNextNonzero c.loop-cell.from h.pending None) c.self-in-loop-cell.view_is c.in_default.ensures in
    posting_ends _ _ _ _ c.loop-cell.from c.loop-cell.posted _ _ c.loop-cell.invariant.within none c.loop-cell.invariant.posting

pub returns-then-from-limit-clause-before : goal.returns-then-from-limit-clause-before
returns-then-from-limit-clause-before g c = subst IsHolding c.self.view_is c.self.invariant

pub returns-in_err-post_cell-clause-before : goal.returns-in_err-post_cell-clause-before
returns-in_err-post_cell-clause-before g c = subst IsHolding c.self.view_is c.self.invariant

pub returns-clause-before : goal.returns-clause-before
returns-clause-before g c = subst IsHolding c.self.view_is c.self.invariant
