-- Pages of ordered rows: each goes on behind the last row of the one before.
use Rattle.std.proofs.Common.{◌≡◌, ◌∙◌, refl, sym, ap, subst, ℕ, ◌+◌, ◌-◌, ◌<◌, ◌≤◌, true, false, List, [], ◌∷◌, ◌++◌, append_assoc, arith, length, length-append, take, drop, min, get_or, inl, inr, ◌==◌, nat_lt, nat_le}
use Rattle.std.proofs.lemmas.Bool.{cases_lt}
use Rattle.std.proofs.lemmas.List.{length-take, length-drop, take_all, take-append-drop, take-append-le, take_more}
use Rattle.std.proofs.lemmas.List.Elements.{filter-append}
use Rattle.std.specs.List.{AllByRecursion, filter}
use Rattle.tatp_rows.proofs.AppendLemmas.{each-left, each-right, ordered-right}
use Rattle.tatp_rows.proofs.Common.{nat_tests}
use Rattle.tatp_rows.proofs.OrderedLemmas.{by_test, each_from_two, filter_all, filter_none}
use Rattle.tatp_rows.proofs.SpanLemmas.{ordered_front}
use Rattle.tatp_rows.specs.Ordered.{IsOrderedBy}
use Rattle.tatp_actions.specs.Listed.{AreFilled, IsListed, is_from, rows_listed}
use Rattle.tatp_actions.specs.declared.listed.KeyFields.{KeyFields}
use Rattle.hlr_kept.specs.Draft.{AreKeyed, behind, packed_key}

-- the keys from behind the last one on are those above it
behind_last : (last fields : KeyFields) (j k : ℕ) → IsListed last j → IsListed fields k → j < k → is_from (behind last) fields ≡ true
behind_last last fields j k was is above =
    let j_is = was.key_is in
    let k_is = is.key_is in
    let kind_small = is.kind_small in
    let start_small = is.start_time_small in
    let kind_small2 = was.kind_small in
    let start_small2 = was.start_time_small in
    by_test (nat_lt last.s_id fields.s_id)
    (λ a. rw a refl)
    (λ a.
    let least : fields.s_id ≤ last.s_id = grind (arith, nat_tests) in
    let same : last.s_id ≡ fields.s_id = omega arith in
    let b : (last.s_id == fields.s_id) ≡ true = grind (arith, nat_tests) in
    by_test (nat_lt last.kind fields.kind)
    (λ c. rw (a, b, c) refl)
    (λ c.
    let least_kind : fields.kind ≤ last.kind = grind (arith, nat_tests) in
    let same_kind : last.kind ≡ fields.kind = omega arith in
    let d : (last.kind == fields.kind) ≡ true = grind (arith, nat_tests) in
    let e : nat_le (last.start_time + 1) fields.start_time ≡ true = grind (arith, nat_tests) in
    rw (a, b, c, d, e) refl))

not_behind : (last fields : KeyFields) (j k : ℕ) → IsListed last j → IsListed fields k → k ≤ j → is_from (behind last) fields ≡ false
not_behind last fields j k was is below =
    let j_is = was.key_is in
    let k_is = is.key_is in
    let kind_small = is.kind_small in
    let start_small = is.start_time_small in
    let kind_small2 = was.kind_small in
    let start_small2 = was.start_time_small in
    let a : nat_lt last.s_id fields.s_id ≡ false = (let least : fields.s_id ≤ last.s_id = omega arith in grind (arith, nat_tests)) in
    by_test (last.s_id == fields.s_id)
    (λ b.
    let same : last.s_id ≡ fields.s_id = grind (arith, nat_tests) in
    let c : nat_lt last.kind fields.kind ≡ false = (let least : fields.kind ≤ last.kind = omega arith in grind (arith, nat_tests)) in
    by_test (last.kind == fields.kind)
    (λ d.
    let same_kind : last.kind ≡ fields.kind = grind (arith, nat_tests) in
    let e : nat_le (last.start_time + 1) fields.start_time ≡ false = (let more : fields.start_time < last.start_time + 1 = omega arith in grind (arith, nat_tests)) in
    rw (a, b, c, d, e) refl)
    (λ d. rw (a, b, c, d) refl))
    (λ b. rw (a, b) refl)

-- a page has the next rows, as many as it has places for
pub record IsPage {X : Type 0} (rest : List X) (count : ℕ) (page : List X) : Type 0 where
  pub many : count ≡ min (length rest) (length page)
  pub rows : take count page ≡ take count rest

pub page_filled : {X : Type 0} (rest before : List X) (count : ℕ) (page : List X) → AreFilled rest before count page → (length page ≡ length before) × IsPage rest count page
page_filled rest before count page filled =
    let cut = length-take (length before) rest in
    let long : length page ≡ length before =
    ap length filled.rows ∙ length-append (take (length before) rest) (drop (length rest) before) ∙ elim (cases_lt (length rest) (length before)) [
      | inl less ↦ omega (arith, cut, length-drop (length rest) before)
      | inr more ↦ omega (arith, cut, length-drop (length rest) before)
    ] in
    let many = filled.count in
    let front : take count (take (length before) rest) ≡ take count rest = elim (cases_lt (length rest) (length before)) [
      | inl less ↦ ap (take count) (take_all (length before) rest (omega (arith, less)))
      | inr more ↦ (let same : count ≡ length before = omega (arith, more, many) in rw same (take_all (length before) (take (length before) rest) (omega (arith, cut))))
    ] in (
      long,
      record {
        many = omega (arith, many, long);
        rows = ap (take count) filled.rows ∙ take-append-le count (take (length before) rest) (drop (length rest) before) (omega (arith, many, cut)) ∙ front;
      },
    )

pub page_none : {X : Type 0} (rest : List X) (count : ℕ) (page : List X) → IsPage rest count page → 0 < length page → count ≡ 0 → rest ≡ []
page_none [] count page is some none = refl
page_none (x ∷ rest) count page is some none = absurd (let many = is.many in omega (arith, many, some, none))

module _ {X : Type 0} (fields : X → KeyFields) (whole : List X) (keyed : AreKeyed fields whole) where
  after_last : (front : List X) (last : X) (rest : List X) → whole ≡ front ++ last ∷ rest → rows_listed fields (behind (fields last)) whole ≡ rest
  after_last front last rest split =
      let ordered : IsOrderedBy (packed_key fields) (front ++ last ∷ rest) = subst (IsOrderedBy (packed_key fields)) split keyed.ordered in
      let listed : AllByRecursion (λ row. IsListed (fields row) (packed_key fields row)) (front ++ last ∷ rest) = subst (AllByRecursion (λ row. IsListed (fields row) (packed_key fields row))) split keyed.listed in
      let own = (each-right (λ row. IsListed (fields row) (packed_key fields row)) front (last ∷ rest) listed).0 in
      let none : filter (λ row. is_from (behind (fields last)) (fields row)) front ≡ [] =
      filter_none (λ row. is_from (behind (fields last)) (fields row)) front
      (each_from_two {P = λ row. packed_key fields row < packed_key fields last} {Q = λ row. IsListed (fields row) (packed_key fields row)} {R = λ row. is_from (behind (fields last)) (fields row) ≡ false}
      (λ row below is. not_behind (fields last) (fields row) (packed_key fields last) (packed_key fields row) own is (omega (arith, below))) front
      (ordered_front (packed_key fields) front last rest ordered)
      (each-left (λ row. IsListed (fields row) (packed_key fields row)) front (last ∷ rest) listed)) in
      let itself : is_from (behind (fields last)) (fields last) ≡ false = not_behind (fields last) (fields last) (packed_key fields last) (packed_key fields last) own own (omega arith) in
      let all : filter (λ row. is_from (behind (fields last)) (fields row)) rest ≡ rest =
      filter_all (λ row. is_from (behind (fields last)) (fields row)) rest
      (each_from_two {P = λ row. packed_key fields last < packed_key fields row} {Q = λ row. IsListed (fields row) (packed_key fields row)} {R = λ row. is_from (behind (fields last)) (fields row) ≡ true}
      (λ row above is. behind_last (fields last) (fields row) (packed_key fields last) (packed_key fields row) own is above) rest
      (ordered-right (packed_key fields) front (last ∷ rest) ordered).0
      (each-right (λ row. IsListed (fields row) (packed_key fields row)) front (last ∷ rest) listed).1) in
      ap (filter (λ row. is_from (behind (fields last)) (fields row))) split
      ∙ filter-append (λ row. is_from (behind (fields last)) (fields row)) front (last ∷ rest)
      ∙ rw (none, itself) all

  -- the page that comes next: what was read is more, and what is left is less
  pub record IsTurned (done : List X) (from : KeyFields) (count : ℕ) (page : List X) (last : X) : Type 0 where
    pub split : whole ≡ (done ++ take count page) ++ rows_listed fields (behind (fields last)) whole
    pub fewer : length (rows_listed fields (behind (fields last)) whole) < length (rows_listed fields from whole)

  pub turned : (done : List X) (from : KeyFields) (count : ℕ) (page : List X) (last : X) → whole ≡ done ++ rows_listed fields from whole → IsPage (rows_listed fields from whole) count page
      → 0 < count → last ≡ get_or page (count - 1) last → IsTurned done from count page last
  turned done from count page last split is some at =
      let rest = rows_listed fields from whole in
      let many = is.many in
      let ends : take count page ≡ take (count - 1) page ++ last ∷ [] =
      ap (λ (n : ℕ). take n page) (sym (let n : count - 1 + 1 ≡ count = omega (arith, some) in n)) ∙ take_more page (count - 1) last (omega (arith, many, some)) ∙ ap (λ (x : X). take (count - 1) page ++ x ∷ []) (sym at) in
      let parts : rest ≡ take count page ++ drop count rest = sym (take-append-drop count rest) ∙ ap (λ (l : List X). l ++ drop count rest) (sym is.rows) in
      let read : whole ≡ (done ++ take count page) ++ drop count rest =
      split ∙ ap (λ (l : List X). done ++ l) parts ∙ sym (append_assoc done (take count page) (drop count rest)) in
      let front : whole ≡ (done ++ take (count - 1) page) ++ last ∷ drop count rest =
      read ∙ ap (λ (l : List X). (done ++ l) ++ drop count rest) ends ∙ ap (λ (l : List X). l ++ drop count rest) (sym (append_assoc done (take (count - 1) page) (last ∷ []))) ∙ append_assoc (done ++ take (count - 1) page) (last ∷ []) (drop count rest) in
      let next = after_last (done ++ take (count - 1) page) last (drop count rest) front in
      record {
        split = read ∙ ap (λ (l : List X). (done ++ take count page) ++ l) (sym next);
        fewer = omega (arith, ap length next, length-drop count rest, many, some);
      }
