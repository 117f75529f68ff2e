-- A list whose elements are written one after another.
use Rattle.view_board.proofs.Common.{◌≡◌, ℕ, ◌+◌, ◌<◌, ◌≤◌, List, length, get_or, set, Bool, false, sym, ◌∙◌, inl, inr, arith, cases_eq, length-set, get_or-set_same, get_or-set_other, ext_get_or, SLOTS, WORDS, each_word, each_slot}
use Rattle.view_board.proofs.ListLemmas.{each_word_at, length-each_word, each_slot_at, length-each_slot}

module _ {X : Type 0} (d : X) (value : ℕ → X) (start : List X) where
  -- the elements in front of one have their values, and the others are as at the start
  pub record IsFilledTo (now : List X) (n : ℕ) : Type 0 where
    pub wide : length now ≡ length start
    pub here : (k : ℕ) → k < n → get_or now k d ≡ value k
    pub ahead : (k : ℕ) → n ≤ k → get_or now k d ≡ get_or start k d

  -- one element is written
  pub one_filled : (now : List X) (n : ℕ) (x : X) → IsFilledTo now n → n < length start → x ≡ value n → IsFilledTo (set now n x) (n + 1)
  one_filled now n x so_far below is = record {
    wide = length-set now n x ∙ so_far.wide;
    here = λ k near. elim (cases_eq k n) [
      | inl same ↦ rw same (get_or-set_same now n x d (omega (arith, so_far.wide)) ∙ is)
      | inr other ↦ get_or-set_other now n k x d other ∙ so_far.here k (omega arith)
    ];
    ahead = λ k from. get_or-set_other now n k x d (λ e. absurd (omega arith)) ∙ so_far.ahead k (omega arith);
  }

  -- one element has its value already
  pub one_kept : (now : List X) (n : ℕ) → IsFilledTo now n → get_or start n d ≡ value n → IsFilledTo now (n + 1)
  one_kept now n so_far is = record {
    wide = so_far.wide;
    here = λ k near. elim (cases_eq k n) [
      | inl same ↦ rw same (so_far.ahead n (omega arith) ∙ is)
      | inr other ↦ so_far.here k (omega arith)
    ];
    ahead = λ k from. so_far.ahead k (omega arith);
  }

-- all words are written
pub all_words : (value : ℕ → ℕ) (start now : List ℕ) (n : ℕ) → IsFilledTo 0 value start now n → length start ≡ WORDS → WORDS ≤ n → now ≡ each_word value
all_words value start now n filled wide end = ext_get_or 0 now (each_word value) (filled.wide ∙ (wide ∙ sym (length-each_word value)))
    (λ k below. let within : k < WORDS = omega (arith, filled.wide) in filled.here k (omega arith) ∙ sym (each_word_at value k within))

-- all flags are written
pub all_flags : (value : ℕ → Bool) (start now : List Bool) (n : ℕ) → IsFilledTo false value start now n → length start ≡ SLOTS → SLOTS ≤ n → now ≡ each_slot value
all_flags value start now n filled wide end = ext_get_or false now (each_slot value) (filled.wide ∙ (wide ∙ sym (length-each_slot value)))
    (λ k below. let within : k < SLOTS = omega (arith, filled.wide) in filled.here k (omega arith) ∙ sym (each_slot_at value k within))

-- all words are copied
pub all_copied : (from start now : List ℕ) (n : ℕ) → IsFilledTo 0 (λ w. get_or from w 0) start now n → length start ≡ WORDS → length from ≡ WORDS → WORDS ≤ n → now ≡ from
all_copied from start now n filled wide long end = ext_get_or 0 now from (filled.wide ∙ (wide ∙ sym long)) (λ k below. filled.here k (omega (arith, filled.wide)))
