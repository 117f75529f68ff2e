-- The rows of a table are read page by page, and their lines put behind others.
use Rattle.std.proofs.Common.{◌≡◌, ◌∙◌, refl, sym, ap, subst, ℕ, ◌-◌, ◌<◌, ◌==◌, nat_lt, nat_le, true, List, [], ◌∷◌, ◌++◌, append_assoc, arith, length, take, drop, get_or}
use Rattle.std.proofs.lemmas.List.{append-nil, map-append, take_all, take-append-drop, take-append-le}
use Rattle.std.specs.List.{AllByRecursion}
use Rattle.std.specs.Prelude.{map}
use Rattle.tatp_rows.proofs.AppendLemmas.{each-left, each-right}
use Rattle.tatp_rows.proofs.Common.{nat_tests}
use Rattle.tatp_rows.proofs.OrderedLemmas.{by_test, filter_all}
use Rattle.tatp_actions.specs.Listed.{AreFilled, is_from, rows_listed}
use Rattle.tatp_actions.specs.declared.listed.KeyFields.{KeyFields}
use Rattle.edit_lines.specs.Lines.{line_of}
use Rattle.hlr_core.specs.declared.event.Event.{Event}
use Rattle.hlr_kept.specs.Draft.{AreKeyed, behind, draft_lines}
use Rattle.hlr_kept.specs.declared.draft.Draft.{Draft}
use Rattle.hlr_kept.proofs.DraftLemmas.{HasLines}
use Rattle.hlr_kept.proofs.PageLemmas.{IsPage, page_filled, page_none, turned}

-- what is copied as it is stays the same list
same_map : {X : Type 0} (f : X → X) → ((x : X) → f x ≡ x) → (xs : List X) → map f xs ≡ xs
same_map f same [] = refl
same_map f same (x ∷ xs) = ap (λ (y : _). y ∷ map f xs) (same x) ∙ ap (λ (l : List _). x ∷ l) (same_map f same xs)

-- what holds of each element holds of the first so many
each-take : {X : Type 0} (P : X → Type 0) (n : ℕ) (xs : List X) → AllByRecursion P xs → AllByRecursion P (take n xs)
each-take P n xs each = each-left P (take n xs) (drop n xs) (subst (AllByRecursion P) (sym (take-append-drop n xs)) each)

-- no key is below the first one
first_key : (fields : KeyFields) → is_from (record { s_id = 0; kind = 0; start_time = 0 }) fields ≡ true
first_key fields =
    by_test (nat_lt 0 fields.s_id) (λ a. rw a refl)
    (λ a. let b : (0 == fields.s_id) ≡ true = grind (arith, nat_tests) in
    by_test (nat_lt 0 fields.kind) (λ c. rw (a, b, c) refl)
    (λ c. let d : (0 == fields.kind) ≡ true = grind (arith, nat_tests) in let e : nat_le 0 fields.start_time ≡ true = grind (arith, nat_tests) in rw (a, b, c, d, e) refl))

each_from_first : {X : Type 0} (fields : X → KeyFields) (rows : List X) → AllByRecursion (λ row. is_from (record { s_id = 0; kind = 0; start_time = 0 }) (fields row) ≡ true) rows
each_from_first fields [] = tt
each_from_first fields (row ∷ rows) = (first_key (fields row), each_from_first fields rows)

module _ {X D : Type 0} (fields : X → KeyFields) (event : X → Event) (seen : D → List ℕ) (may_leave : D → List ℕ → Type 0) (whole : List X) (start : List (List ℕ)) where
  -- The lines of the rows in front of a key are behind those from the start.
  pub record IsReading (from : KeyFields) (draft : Draft D) : Type 0 where
    pub done : List X
    pub split : whole ≡ done ++ rows_listed fields from whole
    pub lines : HasLines seen may_leave (start ++ map line_of (map event done)) draft

  pub reading_starts : (draft : Draft D) → HasLines seen may_leave start draft → IsReading (record { s_id = 0; kind = 0; start_time = 0 }) draft
  reading_starts draft has = record {
    done = [];
    split = sym (filter_all (λ row. is_from (record { s_id = 0; kind = 0; start_time = 0 }) (fields row)) whole (each_from_first fields whole));
    lines = subst (λ (l : List (List ℕ)). HasLines seen may_leave l draft) (sym (append-nil start)) has;
  }

  -- the rows of a page are among those of the table
  pub reading_each : (P : X → Type 0) (from : KeyFields) (count : ℕ) (page : List X) (draft : Draft D) → AllByRecursion P whole → IsReading from draft → IsPage (rows_listed fields from whole) count page
      → AllByRecursion P (take count page)
  reading_each P from count page draft each was is =
      let rest = rows_listed fields from whole in
      subst (AllByRecursion P) (sym is.rows) (each-take P count rest (each-right P was.done rest (subst (AllByRecursion P) was.split each)))

  -- the key behind a page
  pub record IsFurther (from next : KeyFields) (draft : Draft D) : Type 0 where
    pub reading : IsReading next draft
    pub fewer : length (rows_listed fields next whole) < length (rows_listed fields from whole)

  pub reading_next : AreKeyed fields whole → (from next : KeyFields) (count : ℕ) (page : List X) (last : X) (draft now : Draft D) → IsReading from draft → IsPage (rows_listed fields from whole) count page
      → 0 < count → last ≡ get_or page (count - 1) last → next ≡ behind (fields last)
      → HasLines seen may_leave (draft_lines seen draft ++ map line_of (map event (take count page))) now → IsFurther from next now
  reading_next keyed from next count page last draft now was page_is some at is has =
      let turn = turned fields whole keyed was.done from count page last was.split page_is some at in
      let rows = take count page in
      let lines_are : draft_lines seen draft ++ map line_of (map event rows) ≡ start ++ map line_of (map event (was.done ++ rows)) =
      ap (λ (l : List (List ℕ)). l ++ map line_of (map event rows)) was.lines.lines
      ∙ append_assoc start (map line_of (map event was.done)) (map line_of (map event rows))
      ∙ ap (λ (l : List (List ℕ)). start ++ l) (sym (ap (map line_of) (map-append event was.done rows) ∙ map-append line_of (map event was.done) (map event rows))) in
      record {
        reading = record {
          done = was.done ++ rows;
          split = subst (λ (k : KeyFields). whole ≡ (was.done ++ rows) ++ rows_listed fields k whole) (sym is) turn.split;
          lines = subst (λ (l : List (List ℕ)). HasLines seen may_leave l now) lines_are has;
        };
        fewer = subst (λ (k : KeyFields). length (rows_listed fields k whole) < length (rows_listed fields from whole)) (sym is) turn.fewer;
      }

  -- no row is left
  pub reading_ends : (from : KeyFields) (count : ℕ) (page : List X) (draft : Draft D) → IsReading from draft → IsPage (rows_listed fields from whole) count page → 0 < length page → count ≡ 0
      → HasLines seen may_leave (start ++ map line_of (map event whole)) draft
  reading_ends from count page draft was is room none =
      let nothing = page_none (rows_listed fields from whole) count page is room none in
      let all : was.done ≡ whole = sym (was.split ∙ ap (λ (l : List X). was.done ++ l) nothing ∙ append-nil was.done) in
      subst (λ (l : List X). HasLines seen may_leave (start ++ map line_of (map event l)) draft) all was.lines

-- a page that was read
pub page_read : {X : Type 0} (copied : X → X) → ((row : X) → copied row ≡ row) → (rest before : List X) (count : ℕ) (page : List X) → AreFilled (map copied rest) before count page
    → (length page ≡ length before) × IsPage rest count page
page_read copied same rest before count page filled =
    page_filled rest before count page (subst (λ (l : List _). AreFilled l before count page) (same_map copied same rest) filled)

-- a page that was written whole has nothing of what it had before
pub page_whole : {X : Type 0} (len : ℕ) (rows items : List X) → len ≡ length items → length rows ≡ length items → take len (rows ++ drop (length rows) items) ≡ rows
page_whole len rows items long same = take-append-le len rows (drop (length rows) items) (omega (arith, long, same)) ∙ take_all len rows (omega (arith, long, same))
