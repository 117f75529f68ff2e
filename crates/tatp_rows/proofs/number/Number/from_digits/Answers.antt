-- Fifteen bytes are digits where eight and eight of them are, and then spell one number.
use Rattle.tatp_rows.proofs.Common.{◌∙◌, sym, arith}
use Rattle.tatp_rows.proofs.DigitLemmas.{first_refused, last_refused, zero_before, joined_read, joined_below}
use Rattle.tatp_rows.proofs.number.Number.from_digits.Goals as goal
use Rattle.tatp_rows.proofs.number.Number.from_digits.Goals.{then-not-are_digits-via-then-not-are_digits, then-not-are_digits-via-else-not-are_digits+then-not-are_digits-2}

pub returns-then-not-are_digits : goal.returns-then-not-are_digits
returns-then-not-are_digits c =
    let size = c.if-text-ne15.false in
    elim c.then-not-are_digits.branch [
      | then-not-are_digits-via-then-not-are_digits w ↦ first_refused _ size (sym c.are_digits.ensures ∙ w.if-not-are_digits.true)
      | then-not-are_digits-via-else-not-are_digits+then-not-are_digits-2 w ↦ last_refused _ size (sym w.are_digits-else-not-are_digits.ensures ∙ w.if-not-are_digits-2.true)
    ]

pub overflow_mul-value : goal.overflow_mul-value
overflow_mul-value c =
    let first = sym c.are_digits.ensures ∙ c.if-not-are_digits.false in
    let last = sym c.are_digits-else-not-are_digits.ensures ∙ c.if-not-are_digits-2.false in
    omega (arith, c.eight_digits.ensures, joined_below c.args.text.now c.if-text-ne15.false first last)

pub eight_digits-requires-2 : goal.eight_digits-requires-2
eight_digits-requires-2 c =
    zero_before _ c.if-text-ne15.false (sym c.are_digits.ensures ∙ c.if-not-are_digits.false) (sym c.are_digits-else-not-are_digits.ensures ∙ c.if-not-are_digits-2.false)

pub overflow_add-value : goal.overflow_add-value
overflow_add-value c =
    let first = sym c.are_digits.ensures ∙ c.if-not-are_digits.false in
    let last = sym c.are_digits-else-not-are_digits.ensures ∙ c.if-not-are_digits-2.false in
    omega (arith, c.eight_digits.ensures, c.eight_digits-2.ensures, joined_below c.args.text.now c.if-text-ne15.false first last)

pub invariant_of-result : goal.invariant_of-result
invariant_of-result c =
    rw (c.eight_digits.ensures, c.eight_digits-2.ensures)
    (joined_below _ c.if-text-ne15.false (sym c.are_digits.ensures ∙ c.if-not-are_digits.false) (sym c.are_digits-else-not-are_digits.ensures ∙ c.if-not-are_digits-2.false))

pub returns : goal.returns
returns c =
    rw (c.eight_digits.ensures, c.eight_digits-2.ensures)
    (joined_read _ c.if-text-ne15.false (sym c.are_digits.ensures ∙ c.if-not-are_digits.false) (sym c.are_digits-else-not-are_digits.ensures ∙ c.if-not-are_digits-2.false))
