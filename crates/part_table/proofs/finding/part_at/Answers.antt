-- The region of a part is looked for behind as many regions as there are parts before it.
use Rattle.part_table.proofs.Common.{◌∙◌, sym, arith, inl, inr, ℕ, ◌<◌, ◌⊎◌, Some, None}
use Rattle.part_table.proofs.NumberLemmas.{found_behind, part_nowhere}
use Rattle.part_table.proofs.finding.part_at.Goals as goal

pub returns-in_err-get : goal.returns-in_err-get
returns-in_err-get c = c.from_residual.ensures ∙ sym (part_nowhere c.args.p c.args.regions.now c.requires (past_all _ c.args.p c.in_err-get.ensures.lookup.0))
  where
    past_all : (length p : ℕ) → (length < p) ⊎ (length < length) → length < p
    past_all length p (inl past) = past
    past_all length p (inr itself) = absurd (omega (arith, itself))

pub returns-in_err-i : goal.returns-in_err-i
returns-in_err-i c =
    let there = c.in_ok-get.ensures.lookup.0 in
    c.from_residual-in_err-i.ensures ∙ found_behind c.args.p c.args.regions.now c.in_ok-get.field-0.now None c.requires there.0 there.2 (sym c.in_err-i.was ∙ c.part_among.ensures)

pub returns : goal.returns
returns c =
    let there = c.in_ok-get.ensures.lookup.0 in
    found_behind c.args.p c.args.regions.now c.in_ok-get.field-0.now (Some c.in_ok-i.i) c.requires there.0 there.2 (sym c.in_ok-i.was ∙ c.part_among.ensures)
