-- What the notes of a change say of each cell.
use Rattle.tatp_actions.proofs.Common.{◌≡◌, ℕ, ◌+◌, ◌<◌, ◌==◌, refl, arith, Bool, true, false, List, [], ◌∷◌, ◌++◌, if◌then◌else◌, subst, ℤ, pos, negsuc, ◌+ℤ◌, nat_tests, ints, by_test, change_at, area_moved, subscriber_added, signed, row_moved, FIRST_AREA, FIRST_ZONE}

-- one for a test that holds, and none for one that doesn't
abbrev pub one : Bool → ℕ
one b = if b then 1 else 0

-- a note of another cell leaves a cell
pub note_other : (k c : ℕ) (z : ℤ) → (k ≡ c → ⊥) → (if k == c then z else pos 0) ≡ pos 0
note_other k c z other = by_test (k == c) (λ e. absurd (other (grind (arith, nat_tests)))) (λ e. rw e refl)

-- a note of a cell moves it
pub note_same : (k c : ℕ) (z : ℤ) → k ≡ c → (if k == c then z else pos 0) ≡ z
note_same k c z same = by_test (k == c) (λ e. rw e refl) (λ e. absurd (grind (arith, nat_tests)))

-- the notes of a move between areas leave the hours and the zones
pub area_moved-low : (from to c : ℕ) → c < FIRST_AREA → change_at (area_moved from to) c ≡ pos 0
area_moved-low from to c low =
    by_test (from == to)
    (λ e. rw e refl)
    (λ e. rw (e, note_other (FIRST_AREA + from) c (negsuc 0) (λ h. omega arith), note_other (FIRST_AREA + to) c (pos 1) (λ h. omega arith)) refl)

pub area_moved-zone : (from to z : ℕ) → from < 16 → to < 16 → change_at (area_moved from to) (FIRST_ZONE + z) ≡ pos 0
area_moved-zone from to z small small' =
    by_test (from == to)
    (λ e. rw e refl)
    (λ e. rw (e, note_other (FIRST_AREA + from) (FIRST_ZONE + z) (negsuc 0) (λ h. omega arith), note_other (FIRST_AREA + to) (FIRST_ZONE + z) (pos 1) (λ h. omega arith)) refl)

-- the notes of a move between areas are what the counts of an area show
pub area_moved-area : (from to a n m : ℕ) → n + one (from == a) ≡ m + one (to == a) → pos n ≡ pos m +ℤ change_at (area_moved from to) (FIRST_AREA + a)
area_moved-area from to a n m counted =
    by_test (from == to)
    (λ e. let same : from ≡ to = grind (arith, nat_tests) in
    let counts : n + one (to == a) ≡ m + one (to == a) = subst (λ (f : ℕ). n + one (f == a) ≡ m + one (to == a)) same counted in
    rw e (omega (arith, ints)))
    (λ e. by_test (from == a)
    (λ f. by_test (to == a) (λ g. absurd (grind (arith, nat_tests)))
    (λ g. let counts : n + 1 ≡ m + 0 = rw (f, g) at counted in
    rw (e, note_same (FIRST_AREA + from) (FIRST_AREA + a) (negsuc 0) (grind (arith, nat_tests)), note_other (FIRST_AREA + to) (FIRST_AREA + a) (pos 1) (λ h. grind (arith, nat_tests))) (omega (arith, ints))))
    (λ f. by_test (to == a)
    (λ g. let counts : n + 0 ≡ m + 1 = rw (f, g) at counted in
    rw (e, note_other (FIRST_AREA + from) (FIRST_AREA + a) (negsuc 0) (λ h. grind (arith, nat_tests)), note_same (FIRST_AREA + to) (FIRST_AREA + a) (pos 1) (grind (arith, nat_tests))) (omega (arith, ints)))
    (λ g. let counts : n + 0 ≡ m + 0 = rw (f, g) at counted in
    rw (e, note_other (FIRST_AREA + from) (FIRST_AREA + a) (negsuc 0) (λ h. grind (arith, nat_tests)), note_other (FIRST_AREA + to) (FIRST_AREA + a) (pos 1) (λ h. grind (arith, nat_tests))) (omega (arith, ints)))))

-- the notes of a new subscriber: none for an hour, one for its area, one for its zone
pub subscriber_added-low : (area zone c : ℕ) → c < FIRST_AREA → change_at (subscriber_added area zone) c ≡ pos 0
subscriber_added-low area zone c low =
    rw (note_other (FIRST_AREA + area) c (pos 1) (λ h. omega arith), note_other (FIRST_ZONE + zone) c (pos 1) (λ h. omega arith)) refl

pub subscriber_added-area : (area zone a n m : ℕ) → a < 16 → n ≡ one (area == a) + m → pos n ≡ pos m +ℤ change_at (subscriber_added area zone) (FIRST_AREA + a)
subscriber_added-area area zone a n m small counted =
    by_test (area == a)
    (λ e. let counts : n ≡ 1 + m = rw e at counted in
    rw (note_same (FIRST_AREA + area) (FIRST_AREA + a) (pos 1) (grind (arith, nat_tests)), note_other (FIRST_ZONE + zone) (FIRST_AREA + a) (pos 1) (λ h. omega arith)) (omega (arith, ints)))
    (λ e. let counts : n ≡ 0 + m = rw e at counted in
    rw (note_other (FIRST_AREA + area) (FIRST_AREA + a) (pos 1) (λ h. grind (arith, nat_tests)), note_other (FIRST_ZONE + zone) (FIRST_AREA + a) (pos 1) (λ h. omega arith)) (omega (arith, ints)))

pub subscriber_added-zone : (area zone z n m : ℕ) → area < 16 → n ≡ one (zone == z) + m → pos n ≡ pos m +ℤ change_at (subscriber_added area zone) (FIRST_ZONE + z)
subscriber_added-zone area zone z n m small counted =
    by_test (zone == z)
    (λ e. let counts : n ≡ 1 + m = rw e at counted in
    rw (note_other (FIRST_AREA + area) (FIRST_ZONE + z) (pos 1) (λ h. omega arith), note_same (FIRST_ZONE + zone) (FIRST_ZONE + z) (pos 1) (grind (arith, nat_tests))) (omega (arith, ints)))
    (λ e. let counts : n ≡ 0 + m = rw e at counted in
    rw (note_other (FIRST_AREA + area) (FIRST_ZONE + z) (pos 1) (λ h. omega arith), note_other (FIRST_ZONE + zone) (FIRST_ZONE + z) (pos 1) (λ h. grind (arith, nat_tests))) (omega (arith, ints)))

-- the notes of two lists move a cell by the sum
pub change_at-append : (xs ys : List (ℕ × ℤ)) (c : ℕ) → change_at (xs ++ ys) c ≡ change_at xs c +ℤ change_at ys c
change_at-append [] ys c = omega (arith, ints)
change_at-append (x ∷ xs) ys c = let rest = change_at-append xs ys c in omega (arith, ints)

-- a count that rises, or falls, by an amount
abbrev pub Moved : Bool → ℕ → ℕ → ℕ → Type 0
Moved true after before n = after ≡ n + before
Moved false after before n = after + n ≡ before

-- a count that moves by so many, and by one where a test holds
pub moved_by : (up : Bool) (after before n : ℕ) → Moved up after before n → pos after ≡ pos before +ℤ signed up n
moved_by true after before n moved = omega (arith, ints)
moved_by false after before n moved = omega (arith, ints)

pub moved_by_one : (up test : Bool) (after before : ℕ) → Moved up after before (one test) → pos after ≡ pos before +ℤ (if test then signed up 1 else pos 0)
moved_by_one up true after before moved = moved_by up after before 1 moved
moved_by_one true false after before moved = omega (arith, ints)
moved_by_one false false after before moved = omega (arith, ints)

-- and one that doesn't
pub not_moved : (after before : ℕ) → after ≡ before → pos after ≡ pos before +ℤ pos 0
not_moved after before same = omega (arith, ints)

-- the notes of a row of another table: none for an hour or an area, one for its zone
pub row_moved-low : (up : Bool) (zone c : ℕ) → c < FIRST_ZONE → change_at (row_moved up zone) c ≡ pos 0
row_moved-low up zone c low = rw (note_other (FIRST_ZONE + zone) c (signed up 1) (λ h. omega arith)) refl

pub row_moved-zone : (up : Bool) (zone z : ℕ) → change_at (row_moved up zone) (FIRST_ZONE + z) ≡ (if zone == z then signed up 1 else pos 0)
row_moved-zone up zone z =
    by_test (zone == z)
    (λ e. rw (note_same (FIRST_ZONE + zone) (FIRST_ZONE + z) (signed up 1) (grind (arith, nat_tests)), e) (omega (arith, ints)))
    (λ e. rw (note_other (FIRST_ZONE + zone) (FIRST_ZONE + z) (signed up 1) (λ h. grind (arith, nat_tests)), e) refl)
