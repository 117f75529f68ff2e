-- The lines of a report, one after another.
use Rattle.hlr.proofs.Common.{◌≡◌, refl, sym, ap, ◌∙◌, subst, ℕ, zero, suc, ◌+◌, ◌-◌, ◌*◌, ◌^◌, ◌<◌, ◌≤◌, ◌==◌, min, List, [], ◌∷◌, ◌++◌, length, drop, get_or, Bool, true, false, Option, append_assoc, arith, ℤ, nat_le, AllByRecursion, filter, flat_map, range_with_len, nat_tests, append-nil, drop_more, length-append, flat_map-append, by_test, each-weaker, filter_all, IsOrderedBy, keys_from, IsNumber, each-left, key_of_pair, IsPage, is_emptied, ArePairs, CELLS, total_line, rows_line, is_counted, is_standing, scan_text, standing_line, views_text, AddsFront, AddsWhole, Outgoing, outgoing}
use Rattle.hlr.specs.Reports.{cells_where, report_text}
use Rattle.hlr.proofs.LineFacts.{put_both}
use Rattle.hlr.proofs.SinkFacts.{adds_both, adds_front_after, adds_front_wider, adds_grown, adds_none}

-- a list from a place on begins with what stands there
pub drop_item : {X : Type 0} (xs : List X) (i : ℕ) (x : X) → i < length xs → x ≡ get_or xs i x → drop i xs ≡ x ∷ drop (i + 1) xs
drop_item xs i x low is = drop_more xs i x low ∙ ap (λ y. y ∷ drop (i + 1) xs) (sym is)

-- the lines of all but the rest were added
pub record ReportTo {X : Type 0} (line : X → List ℕ) (all rest : List X) (old new : Outgoing) : Type 0 where
  pub shown : List X
  pub all_is : all ≡ shown ++ rest
  pub grew : AddsWhole (flat_map line shown) old new

module _ {X : Type 0} (line : X → List ℕ) (all : List X) where
  -- no line was added yet
  pub report_started : (rest : List X) (old : Outgoing) → all ≡ rest → ReportTo line all rest old old
  report_started rest old e = record { shown = []; all_is = e; grew = adds_none old }

  -- the lines of a front of the rest
  pub report_goes_on_by : (rest left more : List X) (old mid new : Outgoing) → ReportTo line all rest old mid → rest ≡ more ++ left → AddsWhole (flat_map line more) mid new → ReportTo line all left old new
  report_goes_on_by rest left more old mid new to front added = record {
    shown = to.shown ++ more;
    all_is = to.all_is ∙ ap (λ xs. to.shown ++ xs) front ∙ sym (append_assoc to.shown more left);
    grew = rw (flat_map-append line to.shown more) (adds_both _ _ old mid new to.grew added);
  }

  -- one line more, once there was room for it
  pub report_goes_on : (rest left : List X) (x : X) (page grown : List ℕ) (taken : Option (List ℕ)) (old mid : Outgoing) → ReportTo line all rest old mid → rest ≡ x ∷ left
      → AddsWhole [] mid (outgoing page taken) → grown ≡ page ++ line x → ReportTo line all left old (outgoing grown taken)
  report_goes_on rest left x page grown taken old mid to first room is =
      report_goes_on_by rest left (x ∷ []) old mid (outgoing grown taken) to first
      (rw (append-nil (line x)) (adds_both [] (line x) mid (outgoing page taken) (outgoing grown taken) room (adds_grown (line x) page grown taken is)))

  -- the sink failed in the lines of a front of the rest
  pub lines_stop_by : (rest left more : List X) (old mid new : Outgoing) → ReportTo line all rest old mid → rest ≡ more ++ left → AddsFront (flat_map line more) mid new → AddsFront (flat_map line all) old new
  lines_stop_by rest left more old mid new to front cut =
      let whole : flat_map line all ≡ flat_map line to.shown ++ (flat_map line more ++ flat_map line left) =
      ap (flat_map line) (to.all_is ∙ ap (λ xs. to.shown ++ xs) front) ∙ flat_map-append line to.shown (more ++ left)
      ∙ ap (λ bytes. flat_map line to.shown ++ bytes) (flat_map-append line more left) in
      rw whole (adds_front_after _ _ old mid new to.grew (adds_front_wider (flat_map line more) _ mid new cut))

  pub report_stops_by : (word : List ℕ) (rest left more : List X) (old mid new : Outgoing) → ReportTo line all rest old mid → rest ≡ more ++ left → AddsFront (flat_map line more) mid new
      → AddsFront (report_text word line all) old new
  unfolding report_text
  report_stops_by word rest left more old mid new to front cut = adds_front_wider (flat_map line all) _ old new (lines_stop_by rest left more old mid new to front cut)

  -- all lines were added
  pub report_whole : (rest : List X) (old new : Outgoing) → ReportTo line all rest old new → rest ≡ [] → AddsWhole (flat_map line all) old new
  report_whole rest old new to none =
      let whole : all ≡ to.shown = to.all_is ∙ ap (λ xs. to.shown ++ xs) none ∙ append-nil to.shown in rw whole to.grew

  -- and then the last one
  pub report_ends : (word : List ℕ) (rest : List X) (page grown : List ℕ) (taken : Option (List ℕ)) (old mid : Outgoing) (total : ℕ) → ReportTo line all rest old mid → rest ≡ []
      → total ≡ length all → AddsWhole [] mid (outgoing page taken) → grown ≡ page ++ total_line word total → AddsWhole (report_text word line all) old (outgoing grown taken)
  unfolding report_text
  report_ends word rest page grown taken old mid total to none total_is room is =
      adds_both (flat_map line all) (total_line word (length all)) old mid (outgoing grown taken) (report_whole rest old mid to none)
      (adds_both [] (total_line word (length all)) mid (outgoing page taken) (outgoing grown taken) room (adds_grown _ page grown taken (rw total_is at is)))

  -- all lines stand behind a line, and then the last one
  pub report_built : (word old mid new : List ℕ) (total : ℕ) → mid ≡ old ++ flat_map line all → total ≡ length all → new ≡ mid ++ total_line word total → new ≡ old ++ report_text word line all
  unfolding report_text
  report_built word old mid new total lines total_is is = put_both old mid new (flat_map line all) (total_line word (length all)) lines (rw total_is at is)

-- the pairs from a number on
abbrev pub pairs_from : ℕ → List (ℕ × ℕ) → List (ℕ × ℕ)
pairs_from from pairs = keys_from key_of_pair from pairs

-- where some pair is the first from a number on: the others are those after it
pairs_next : (from : ℕ) (pairs : List (ℕ × ℕ)) (pair : ℕ × ℕ) (left : List (ℕ × ℕ)) → IsOrderedBy key_of_pair pairs → pairs_from from pairs ≡ pair ∷ left
    → (left ≡ pairs_from (pair.0 + 1) pairs) × (from ≤ pair.0)
pairs_next from [] pair left rises first = absurd cc
pairs_next from (x ∷ xs) pair left rises first =
    by_test (nat_le from x.0)
    (λ e.
    let above : from ≤ x.0 = grind (arith, nat_tests) in
    let all_from : pairs_from from xs ≡ xs = filter_all _ xs (each-weaker (λ y less. grind (arith, nat_tests)) xs rises.0) in
    let all_after : pairs_from (x.0 + 1) xs ≡ xs = filter_all _ xs (each-weaker (λ y less. grind (arith, nat_tests)) xs rises.0) in
    let not_itself : nat_le (x.0 + 1) x.0 ≡ false = grind (arith, nat_tests) in
    let here : x ∷ xs ≡ pair ∷ left = ap (λ ys. x ∷ ys) (sym all_from) ∙ (rw e at first) in
    let same : x ≡ pair = cc in
    let rest : xs ≡ left = cc in
    let after : pairs_from (x.0 + 1) (x ∷ xs) ≡ xs = rw not_itself all_after in
    subst (λ (q : ℕ × ℕ). (left ≡ pairs_from (q.0 + 1) (x ∷ xs)) × (from ≤ q.0)) same (sym rest ∙ sym after, above))
    (λ e.
    let next = pairs_next from xs pair left rises.1 (rw e at first) in
    let above = next.1 in
    let passed : nat_le (pair.0 + 1) x.0 ≡ false = grind (arith, nat_tests) in
    (rw passed next.0, above))

-- the number after that of the last of some pairs
abbrev pub number_after : List (ℕ × ℕ) → ℕ
number_after pairs = (get_or pairs (length pairs - 1) (0, 0)).0 + 1

after_more : (x y : ℕ × ℕ) (page : List (ℕ × ℕ)) → number_after (y ∷ page) ≡ number_after (x ∷ y ∷ page)
after_more x y page =
    let short : length (y ∷ page) - 1 ≡ length page = omega arith in
    let long : length (x ∷ y ∷ page) - 1 ≡ suc (length page) = omega arith in
    ap (λ i. (get_or (y ∷ page) i (0, 0)).0 + 1) short ∙ sym (ap (λ i. (get_or (x ∷ y ∷ page) i (0, 0)).0 + 1) long)

-- what follows a page of pairs from a number on is the pairs after its last one
pub pages_next : (from : ℕ) (pairs : List (ℕ × ℕ)) (x : ℕ × ℕ) (page rest : List (ℕ × ℕ)) → IsOrderedBy key_of_pair pairs → pairs_from from pairs ≡ (x ∷ page) ++ rest
    → rest ≡ pairs_from (number_after (x ∷ page)) pairs
pages_next from pairs x [] rest rises front = (pairs_next from pairs x rest rises front).0
pages_next from pairs x (y ∷ page) rest rises front =
    let next = pairs_next from pairs x ((y ∷ page) ++ rest) rises front in
    pages_next (x.0 + 1) pairs y page rest rises (sym next.0) ∙ ap (λ n. pairs_from n pairs) (after_more x y page)

-- what each element has, those have that pass a test, and the one at a place
filter_each : {X : Type 0} (P : X → Type 0) (test : X → Bool) (xs : List X) → AllByRecursion P xs → AllByRecursion P (filter test xs)
filter_each P test [] each = tt
filter_each P test (x ∷ xs) each = by_test (test x) (λ e. rw e (each.0, filter_each P test xs each.1)) (λ e. rw e (filter_each P test xs each.1))

at_each : {X : Type 0} (P : X → Type 0) (xs : List X) (i : ℕ) (blank : X) → AllByRecursion P xs → i < length xs → P (get_or xs i blank)
at_each P [] i blank each within = absurd (omega arith)
at_each P (x ∷ xs) zero blank each within = each.0
at_each P (x ∷ xs) (suc i) blank each within = at_each P xs i blank each.1 (omega arith)

-- a page of pairs, and those that follow it
pub record IsPageStep (from after : ℕ) (pairs page : List (ℕ × ℕ)) : Type 0 where
  pub front : pairs_from from pairs ≡ page ++ pairs_from after pairs
  pub less : length (pairs_from after pairs) < length (pairs_from from pairs)

pub page_step : (from after : ℕ) (pairs page : List (ℕ × ℕ)) (test : Bool) → ArePairs pairs → IsPage from pairs page → test ≡ (length page == 0) → test ≡ false
    → after ≡ min (2 ^ 64 - 1) (number_after page) → IsPageStep from after pairs page
page_step from after pairs [] test are is_page is e at = absurd (let wrong : test ≡ true = is in cc)
page_step from after pairs (x ∷ page) test are is_page is e at =
    let numbers : AllByRecursion (λ (p : ℕ × ℕ). IsNumber p.0) (x ∷ page) =
    each-left _ (x ∷ page) is_page.rest (subst (AllByRecursion (λ (p : ℕ × ℕ). IsNumber p.0)) is_page.front (filter_each (λ (p : ℕ × ℕ). IsNumber p.0) _ pairs are.1)) in
    let last : IsNumber (get_or (x ∷ page) (length (x ∷ page) - 1) (0, 0)).0 = at_each (λ (p : ℕ × ℕ). IsNumber p.0) (x ∷ page) (length (x ∷ page) - 1) (0, 0) numbers (omega arith) in
    let same : after ≡ number_after (x ∷ page) = omega (arith, at, last) in
    let rest = pages_next from pairs x page is_page.rest are.0 is_page.front in
    let front : pairs_from from pairs ≡ (x ∷ page) ++ pairs_from after pairs = is_page.front ∙ ap (λ r. (x ∷ page) ++ r) (rest ∙ ap (λ n. pairs_from n pairs) (sym same)) in
    let long : length (pairs_from from pairs) ≡ length (x ∷ page) + length (pairs_from after pairs) = ap length front ∙ length-append (x ∷ page) (pairs_from after pairs) in
    record { front = front; less = omega (arith, long) }

-- a page that isn't empty has some
pub page_some : (page : List (ℕ × ℕ)) (test : Bool) → test ≡ (length page == 0) → test ≡ false → 0 < length page
page_some [] test is e = absurd (let wrong : test ≡ true = is in cc)
page_some (x ∷ page) test is e = omega arith

-- an empty page: there are no more pairs
pub page_none : (from : ℕ) (pairs page : List (ℕ × ℕ)) (test : Bool) → IsPage from pairs page → test ≡ (length page == 0) → test ≡ true → pairs_from from pairs ≡ []
page_none from pairs page test is_page is e =
    let none = is_emptied page test is e in is_page.front ∙ ap (λ p. p ++ is_page.rest) none ∙ is_page.some none

-- no pair is left out from 0 on
pub pairs_all : (pairs : List (ℕ × ℕ)) → pairs ≡ pairs_from 0 pairs
pairs_all pairs = sym (filter_all _ pairs (each_any pairs))
  where
    each_any : (xs : List (ℕ × ℕ)) → AllByRecursion (λ (p : ℕ × ℕ). nat_le 0 p.0 ≡ true) xs
    each_any [] = tt
    each_any (x ∷ xs) = (grind (arith, nat_tests), each_any xs)

-- the cells that have a mark, from a cell on
pub cells_left : (ℕ → Bool) → ℕ → List ℕ
cells_left mark c = filter mark (range_with_len c (CELLS - c))

-- of the first n cells
marked_next : (mark : ℕ → Bool) (c n : ℕ) → c < n → (mark c ≡ true → filter mark (range_with_len c (n - c)) ≡ c ∷ filter mark (range_with_len (c + 1) (n - (c + 1))))
    × (mark c ≡ false → filter mark (range_with_len c (n - c)) ≡ filter mark (range_with_len (c + 1) (n - (c + 1))))
marked_next mark c n below =
    let more : n - c ≡ suc (n - (c + 1)) = omega arith in
    (λ e. rw (more, e) refl, λ e. rw (more, e) refl)

pub cells_next : (mark : ℕ → Bool) (c : ℕ) → c < CELLS → mark c ≡ true → cells_left mark c ≡ c ∷ cells_left mark (c + 1)
unfolding cells_left
cells_next mark c below e = (marked_next mark c CELLS below).0 e

pub cells_skip : (mark : ℕ → Bool) (c : ℕ) → c < CELLS → mark c ≡ false → cells_left mark c ≡ cells_left mark (c + 1)
unfolding cells_left
cells_skip mark c below e = (marked_next mark c CELLS below).1 e

pub cells_none : (mark : ℕ → Bool) → cells_left mark CELLS ≡ []
unfolding cells_left
cells_none mark = refl

pub cells_all : (mark : ℕ → Bool) → cells_where mark ≡ cells_left mark 0
unfolding cells_left cells_where
cells_all mark = refl

-- the lines of the cells before one stand behind a line
pub record AreBuilt (line : ℕ → List ℕ) (mark : ℕ → Bool) (old : List ℕ) (c : ℕ) (items : List ℕ) (count : ℕ) : Type 0 where
  pub lines : items ++ flat_map line (cells_left mark c) ≡ old ++ flat_map line (cells_where mark)
  pub count_is : count + length (cells_left mark c) ≡ length (cells_where mark)
  pub few : count ≤ c
  pub within : c ≤ CELLS
  pub room : length items ≤ length old + 70 * c

module _ (line : ℕ → List ℕ) (mark : ℕ → Bool) (old : List ℕ) where
  -- none yet
  pub built_none : AreBuilt line mark old 0 old 0
  built_none = record {
    lines = sym (ap (λ cs. old ++ flat_map line cs) (cells_all mark));
    count_is = let all = ap length (cells_all mark) in omega arith;
    few = omega arith;
    within = omega arith;
    room = omega arith;
  }

  -- the line of the next cell
  pub built_more : (c : ℕ) (items after : List ℕ) (count : ℕ) → c < CELLS → AreBuilt line mark old c items count → mark c ≡ true → after ≡ items ++ line c
      → length after ≤ length items + 70 → AreBuilt line mark old (c + 1) after (count + 1)
  built_more c items after count below built e is few =
      let next = cells_next mark c below e in
      let more : length (cells_left mark c) ≡ 1 + length (cells_left mark (c + 1)) = ap length next ∙ omega arith in
      record {
        lines = ap (λ ys. ys ++ flat_map line (cells_left mark (c + 1))) is ∙ append_assoc items (line c) (flat_map line (cells_left mark (c + 1)))
            ∙ ap (λ cs. items ++ flat_map line cs) (sym next) ∙ built.lines;
        count_is = omega (arith, built.count_is, more);
        few = omega (arith, built.few);
        within = omega arith;
        room = omega (arith, built.room, few);
      }

  -- the next cell has no line
  pub built_skip : (c : ℕ) (items : List ℕ) (count : ℕ) → c < CELLS → AreBuilt line mark old c items count → mark c ≡ false → AreBuilt line mark old (c + 1) items count
  built_skip c items count below built e =
      let next = cells_skip mark c below e in
      record {
        lines = ap (λ cs. items ++ flat_map line cs) (sym next) ∙ built.lines;
        count_is = ap (λ cs. count + length cs) (sym next) ∙ built.count_is;
        few = omega (arith, built.few);
        within = omega arith;
        room = omega (arith, built.room);
      }

  module _ (c : ℕ) (items : List ℕ) (count : ℕ) (end : CELLS ≤ c) (built : AreBuilt line mark old c items count) where
    none_left : cells_left mark c ≡ []
    none_left = let within = built.within in let last : c ≡ CELLS = omega arith in ap (cells_left mark) last ∙ cells_none mark

    -- all of them
    pub built_lines : items ≡ old ++ flat_map line (cells_where mark)
    built_lines = sym (append-nil items) ∙ ap (λ cs. items ++ flat_map line cs) (sym none_left) ∙ built.lines

    pub built_count : count ≡ length (cells_where mark)
    built_count = let none = ap length none_left in omega (arith, built.count_is, none)

    pub built_len : length items ≤ length old + 70 * CELLS
    built_len = omega (arith, built.room, built.within)

-- cells with the same marks and the same lines make the same report
marks_same : (p q : ℕ → Bool) (a n : ℕ) → ((c : ℕ) → c < a + n → p c ≡ q c) → filter p (range_with_len a n) ≡ filter q (range_with_len a n)
marks_same p q a zero same = refl
marks_same p q a (suc n) same = rw (same a (omega arith), marks_same p q (a + 1) n (λ c below. same c (omega arith))) refl

lines_same : (f g : ℕ → List ℕ) (p : ℕ → Bool) (a n : ℕ) → ((c : ℕ) → c < a + n → f c ≡ g c) → flat_map f (filter p (range_with_len a n)) ≡ flat_map g (filter p (range_with_len a n))
lines_same f g p a zero same = refl
lines_same f g p a (suc n) same =
    let rest = lines_same f g p (a + 1) n (λ c below. same c (omega arith)) in
    by_test (p a) (λ e. rw (e, same a (omega arith), rest) refl) (λ e. rw (e, rest) refl)

pub cells_same : (word : List ℕ) (f g : ℕ → List ℕ) (p q : ℕ → Bool) → ((c : ℕ) → c < CELLS → f c ≡ g c) → ((c : ℕ) → c < CELLS → p c ≡ q c)
    → report_text word f (cells_where p) ≡ report_text word g (cells_where q)
unfolding report_text cells_where
cells_same word f g p q lines marks =
    rw (marks_same p q 0 CELLS (λ c below. marks c (omega arith)), lines_same f g q 0 CELLS (λ c below. lines c (omega arith))) refl

pub views_same : (p q u v : ℕ → ℤ) → ((c : ℕ) → c < CELLS → p c ≡ q c) → ((c : ℕ) → c < CELLS → u c ≡ v c) → views_text p u ≡ views_text q v
views_same p q u v first second =
    cells_same _ (standing_line p u) (standing_line q v) (is_standing p u) (is_standing q v) (λ c below. rw (first c below, second c below) refl) (λ c below. rw (first c below, second c below) refl)

pub scan_same : (m n : ℕ → ℕ) → ((c : ℕ) → c < CELLS → m c ≡ n c) → scan_text m ≡ scan_text n
scan_same m n same = cells_same _ (rows_line m) (rows_line n) (is_counted m) (is_counted n) (λ c below. rw (same c below) refl) (λ c below. rw (same c below) refl)
