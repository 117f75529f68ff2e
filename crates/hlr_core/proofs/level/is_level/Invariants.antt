use Rattle.hlr_core.proofs.Common.{◌≡◌, ℕ, ◌<◌, get_or, plus_word, minus_word}
use Rattle.hlr_core.proofs.level.is_level.Given as goal

abbrev pub invariant-loop-cell : goal.invariant-loop-cell
invariant-loop-cell l = (c : ℕ) → c < l.cell → get_or l.words (plus_word l.slot c) 0 ≡ get_or l.words (minus_word l.slot c) 0
