-- A look that has come to a word.
use Rattle.view_board.proofs.Common.{◌≡◌, ℕ, ◌<◌, ◌≤◌, List, length, get_or, sym, ap, ◌∙◌, inl, inr, arith, cases_lt, ext_get_or, get_or_past, View, WORDS, LIMIT, OwnsWord, IsRightSight, looked}

-- the words in front of one were looked at, and the desk has seen what was found there
pub record IsLookedTo (before now : View) (words : List ℕ) (n : ℕ) : Type 0 where
  pub view : now ≡ record before { seen = now.seen }
  pub wide : length words ≡ WORDS
  pub seen_wide : length now.seen ≡ WORDS
  pub here : (w : ℕ) → w < n → get_or now.seen w 0 ≡ get_or words w 0
  pub ahead : (w : ℕ) → n ≤ w → get_or now.seen w 0 ≡ get_or before.seen w 0
  pub own : (w : ℕ) → w < n → OwnsWord before w → get_or words w 0 ≡ get_or before.numbers w 0
  pub later : (w : ℕ) → w < n → get_or before.seen w 0 ≤ get_or words w 0
  pub small : (w : ℕ) → w < n → get_or words w 0 ≤ LIMIT

-- after the last word
pub all_looked : (before now : View) (words : List ℕ) (n : ℕ) → IsLookedTo before now words n → WORDS ≤ n → length before.seen ≡ WORDS → length before.numbers ≡ WORDS
    → ((w : ℕ) → OwnsWord before w → w < WORDS) → IsRightSight before words × (now ≡ looked before words)
all_looked before now words n so_far end seen numbers own_within = (
  record {
    wide = so_far.wide;
    own = λ w mine. so_far.own w (let below = own_within w mine in omega arith) mine;
    later = λ w. elim (cases_lt w WORDS) [
      | inl below ↦ so_far.later w (omega arith)
      | inr past ↦ rw (get_or_past before.seen w 0 (rw seen past)) (omega arith)
    ];
    small = λ w. elim (cases_lt w WORDS) [
      | inl below ↦ so_far.small w (omega arith)
      | inr past ↦ rw (get_or_past words w 0 (rw so_far.wide past)) (omega arith)
    ];
  },
  so_far.view ∙ ap (λ (seen : List ℕ). looked before seen) (ext_get_or 0 now.seen words (so_far.seen_wide ∙ sym so_far.wide) (λ w below. so_far.here w (omega (arith, so_far.seen_wide)))),
)
