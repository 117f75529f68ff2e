-- Answers that are written one after another.
use Rattle.hlr_c.proofs.Common.{◌≡◌, ℕ, ◌+◌, ◌<◌, ◌≤◌, ◌-◌, List, [], ◌∷◌, length, get_or, set, take, drop, refl, sym, ap, subst, ◌∙◌, inl, inr, arith, cases_eq, cases_lt, length-drop, length-set, length-take-le, get_or-set_same, get_or-set_other, get_or_default, get_or-take, get_or-drop, AnswersFrom, AreTold, AreWritten, IsAnsweredTo, IsBlock, AreAsMany}

-- how long a block of a list is
pub block_length : {Q : Type 0} (asked : List Q) (from to : ℕ) → to ≤ length asked → length (take (to - from) (drop from asked)) ≡ to - from
block_length asked from to room = length-take-le (to - from) (drop from asked) (omega (arith, room, length-drop from asked))

-- what stands in a block of a list
pub in_block : {Q : Type 0} (asked : List Q) (from to at : ℕ) (question : Q) → from ≤ at → at < to → get_or (take (to - from) (drop from asked)) (at - from) question ≡ get_or asked at question
in_block asked from to at question low high =
    let back : from + (at - from) ≡ at = omega arith in
    get_or-take (to - from) (drop from asked) (at - from) question (omega arith) ∙ get_or-drop from asked (at - from) question ∙ ap (λ n. get_or asked n question) back

module _ {Q X : Type 0} (Answers : Q → X → ℕ × X → Type 0) (asked : List Q) where
  module _ (before : List X) where
    pub none_answered : (codes : List ℕ) → AreAsMany asked (before, codes) → IsAnsweredTo Answers asked before (before, codes) 0
    none_answered codes as_many = record { as_many = as_many; here = λ k question row below. absurd (omega arith); ahead = λ k row from. refl }

    -- one more has its answer
    one_answered : (rows : List X) (codes : List ℕ) (n : ℕ) (question : Q) (old new : X) (code : ℕ) → IsAnsweredTo Answers asked before (rows, codes) n → n < length asked
        → Answers (get_or asked n question) (get_or rows n old) (code, new) → IsAnsweredTo Answers asked before (set rows n new, set codes n code) (n + 1)
    one_answered rows codes n question old new code so_far below is = record {
      as_many = (length-set rows n new ∙ so_far.as_many.0, length-set codes n code ∙ so_far.as_many.1);
      here = λ k q r near. elim (cases_eq k n) [
        | inl same ↦
            let asked_here = get_or_default asked n q question below in
            let was_here = sym (so_far.ahead n r (omega arith)) ∙ get_or_default rows n r old (omega (arith, so_far.as_many.0)) in
            rw (same, asked_here, was_here, get_or-set_same codes n code 0 (omega (arith, so_far.as_many.1)), get_or-set_same rows n new r (omega (arith, so_far.as_many.0))) is
        | inr other ↦ rw (get_or-set_other codes n k code 0 other, get_or-set_other rows n k new r other) (so_far.here k q r (omega arith))
      ];
      ahead = λ k r from. get_or-set_other rows n k new r (λ e. absurd (omega arith)) ∙ so_far.ahead k r (omega arith);
    }

  -- so it is behind those that were answered before
  module _ (from : ℕ) (old : List X × List ℕ) where
    -- in a block so far: as many rows and codes as questions, and those in front of a place have their answers
    pub record AreAnsweredFrom (n to : ℕ) (lists : List X × List ℕ) : Type 0 where
      pub reached : (from ≤ n) × (n ≤ to)
      pub as_many : AreAsMany asked lists
      pub answers : AnswersFrom Answers asked from n old lists

    pub none_more : (to : ℕ) → from ≤ to → AreAsMany asked old → AreAnsweredFrom from to old
    none_more to low as_many = record { reached = (omega arith, low); as_many = as_many; answers = λ before first. first }

    pub one_more : (rows : List X) (codes : List ℕ) (n to : ℕ) (question asks : Q) (row new : X) (code : ℕ) → AreAnsweredFrom n to (rows, codes) → n < to → to ≤ length asked
        → asks ≡ get_or asked n question → Answers asks (get_or rows n row) (code, new) → AreAnsweredFrom (n + 1) to (set rows n new, set codes n code)
    one_more rows codes n to question asks row new code so_far below room asked_here is = record {
      reached = (omega (arith, so_far.reached.0), omega arith);
      as_many = (length-set rows n new ∙ so_far.as_many.0, length-set codes n code ∙ so_far.as_many.1);
      answers = λ before first. one_answered before rows codes n question row new code (so_far.answers before first) (omega arith) (subst (λ q. Answers q (get_or rows n row) (code, new)) asked_here is);
    }

    -- at the end of the block all have them
    pub all_more : (n to : ℕ) (lists : List X × List ℕ) → AreAnsweredFrom n to lists → to ≤ n → AnswersFrom Answers asked from to old lists
    all_more n to lists so_far past = let same : n ≡ to = omega (arith, so_far.reached.1) in subst (λ k. AnswersFrom Answers asked from k old lists) same so_far.answers

-- some element of a list that has one
an_element : {A : Type 0} (xs : List A) → 0 < length xs → A
an_element [] some = absurd (omega arith)
an_element (x ∷ xs) some = x

-- rows and codes of what was found, written place by place
module _ {Q F X : Type 0} (told : Q → X → F → ℕ × X) (asked : List Q) (found : List F) (from : ℕ) (old : List X × List ℕ) where
  pub none_written : AreAsMany asked old → AreWritten told asked found from old old from
  none_written as_many = record { as_many = as_many; behind = λ k row below. (refl, refl); here = λ k question one row least near. absurd (omega arith); ahead = λ k row past. refl }

  pub one_written : (rows : List X) (codes : List ℕ) (n code : ℕ) (question : Q) (one : F) (row new : X) → AreWritten told asked found from old (rows, codes) n → from ≤ n → n < length asked → n - from < length found
      → (code, new) ≡ told (get_or asked n question) (get_or rows n row) (get_or found (n - from) one) → AreWritten told asked found from old (set rows n new, set codes n code) (n + 1)
  one_written rows codes n code question one row new so_far low below there is = record {
    as_many = (length-set rows n new ∙ so_far.as_many.0, length-set codes n code ∙ so_far.as_many.1);
    behind = λ k r near.
        let other : ¬ (k ≡ n) = λ e. absurd (omega arith) in
        (get_or-set_other codes n k code 0 other ∙ (so_far.behind k r near).0, get_or-set_other rows n k new r other ∙ (so_far.behind k r near).1);
    here = λ k q o r least near. elim (cases_eq k n) [
      | inl same ↦
          let asked_here = get_or_default asked n q question below in
          let was_here = sym (so_far.ahead n r (omega arith)) ∙ get_or_default rows n r row (omega (arith, so_far.as_many.0, below)) in
          let found_here = get_or_default found (n - from) o one there in
          rw (same, asked_here, was_here, found_here, get_or-set_same codes n code 0 (omega (arith, so_far.as_many.1, below)), get_or-set_same rows n new r (omega (arith, so_far.as_many.0, below))) (sym is)
      | inr other ↦ rw (get_or-set_other codes n k code 0 other, get_or-set_other rows n k new r other) (so_far.here k q o r least (omega arith))
    ];
    ahead = λ k r past. get_or-set_other rows n k new r (λ e. absurd (omega arith)) ∙ so_far.ahead k r (omega arith);
  }

  -- so the questions have their answers, if each answer is what is told of what was found
  pub written_answers : (Answers : Q → X → ℕ × X → Type 0) (new : List X × List ℕ) (to : ℕ) → AreWritten told asked found from old new to → from ≤ to → length found ≡ to - from
      → ((k : ℕ) (question : Q) (one : F) (row : X) → from ≤ k → k < to → Answers (get_or asked k question) row (told (get_or asked k question) row (get_or found (k - from) one))) → AnswersFrom Answers asked from to old new
  written_answers Answers new to written reach many answers = λ before first. record {
    as_many = written.as_many;
    here = λ k question row near. elim (cases_lt k from) [
      | inl below ↦ rw ((written.behind k row below).0, (written.behind k row below).1) (first.here k question row below)
      | inr least ↦
          let one = an_element found (omega (arith, many, least, near)) in
          subst (Answers (get_or asked k question) (get_or before k row)) (written.here k question one row least near)
          (subst (λ r. Answers (get_or asked k question) (get_or before k row) (told (get_or asked k question) r (get_or found (k - from) one))) (sym (first.ahead k row least)) (answers k question one (get_or before k row) least near))
    ];
    ahead = λ k row past. written.ahead k row past ∙ first.ahead k row (omega arith);
  }

-- so a block has its answers from what was found for it
module _ {S Q F X : Type 0} (IsRead : Q → X → S → ℕ × X → S → Type 0) (told : Q → X → F → ℕ × X) (of : S) (asked : List Q) (from to : ℕ) (found : List F)
    (are : AreTold IsRead told of (take (to - from) (drop from asked)) found) (block : IsBlock from to (length asked)) where
  pub told_length : length found ≡ to - from
  told_length = are.as_many ∙ block_length asked from to block.1

  pub told_answers : (old new : List X × List ℕ) → AreWritten told asked found from old new to → AnswersFrom (λ question row answer. IsRead question row of answer of) asked from to old new
  told_answers old new written = written_answers told asked found from old (λ question row answer. IsRead question row of answer of) new to written block.0 told_length
      (λ k question one row least near.
      let here = in_block asked from to k question least near in
      rw here at (are.each (k - from) question one row (omega (arith, block_length asked from to block.1, least, near))))
