-- What a cut of a part's region keeps.
use Rattle.part_table.proofs.Common.{◌≡◌, refl, ap, ℕ, zero, suc, ◌+◌, ◌<◌, List, [], ◌∷◌, ◌++◌, true, false, length, get_or, set, arith, Some, ◌==◌, find, insert, position, AllByRecursion, IsDistinct, list_any, position-Some, IsDistinct-cons, IsDistinct-head, IsDistinct-tail, by_test, cut, halves, is_part, is_part_place, part_number, piece_number, AreRegions, IsConsecutive, IsPieceNumber, parts_of, pieces_of, Place, Part, Piece, Region, Side, Low, High}
use Rattle.part_table.proofs.NumberLemmas.{each_differs, each_with}

-- a part's region cut in two, in its place
cut_at : (p n : ℕ) (side : Side) (at : ℕ) (regions : List Region) (i : ℕ) (low high d : Region) → i < length regions → is_part p (get_or regions i d) ≡ true
    → ((k : ℕ) → k < i → is_part p (get_or regions k d) ≡ false) → low ∷ high ∷ [] ≡ halves n side at (get_or regions i d) → insert (set regions i low) (i + 1) high ≡ cut p n side at regions
cut_at p n side at [] i low high d within here before two = absurd (omega arith)
cut_at p n side at (region ∷ regions) zero low high d within here before two = rw (here, ← two) refl
cut_at p n side at (region ∷ regions) (suc i) low high d within here before two =
    let e : is_part p region ≡ false = before 0 (omega arith) in
    let more : suc i + 1 ≡ suc (i + 1) = omega arith in
    rw (e, more) (ap (λ rest. region ∷ rest) (cut_at p n side at regions i low high d (omega arith) here (λ k below. before (suc k) (omega arith)) two))

-- the place of the part that was found
pub cut_found : (p n : ℕ) (side : Side) (at : ℕ) (regions : List Region) (i : ℕ) (low high d : Region) → position (is_part p) regions ≡ Some i
    → low ∷ high ∷ [] ≡ halves n side at (get_or regions i d) → insert (set regions i low) (i + 1) high ≡ cut p n side at regions
cut_found p n side at regions i low high d found two =
    let is = position-Some (is_part p) regions i d found in cut_at p n side at regions i low high d is.0 is.1 is.2 two

-- the halves of a region follow one another
consecutive_halves : (n : ℕ) (side : Side) (at from : ℕ) (region : Region) (regions : List Region) → region.lo < at → at < region.hi → IsConsecutive from (region ∷ regions)
    → IsConsecutive from (halves n side at region ++ regions)
consecutive_halves n Low at from region regions above below consecutive = (consecutive.0, above, (refl, below, consecutive.2))
consecutive_halves n High at from region regions above below consecutive = (consecutive.0, above, (refl, below, consecutive.2))

-- so the regions still do
pub consecutive-cut : (p n : ℕ) (side : Side) (at from : ℕ) (regions : List Region) (part : Region) → find (is_part p) regions ≡ Some part → part.lo < at → at < part.hi
    → IsConsecutive from regions → IsConsecutive from (cut p n side at regions)
consecutive-cut p n side at from [] part found above below consecutive = absurd cc
consecutive-cut p n side at from (region ∷ regions) part found above below consecutive =
    by_test (is_part p region)
    (λ e. let one : Some region ≡ Some part = rw e at found in
    let same : region ≡ part = cc in
    rw e (consecutive_halves n side at from region regions (rw same above) (rw same below) consecutive))
    (λ e. rw e (consecutive.0, consecutive.1, consecutive-cut p n side at region.hi regions part (rw e at found) above below consecutive.2))

-- the halves have the part's number
parts_of_halves : (n : ℕ) (side : Side) (at : ℕ) (region : Region) (regions : List Region) → parts_of (halves n side at region ++ regions) ≡ parts_of (region ∷ regions)
parts_of_halves n Low at region regions = refl
parts_of_halves n High at region regions = refl

pub parts_of-cut : (p n : ℕ) (side : Side) (at : ℕ) (regions : List Region) → parts_of (cut p n side at regions) ≡ parts_of regions
parts_of-cut p n side at [] = refl
parts_of-cut p n side at (region ∷ regions) =
    by_test (is_part p region)
    (λ e. rw e (parts_of_halves n side at region regions))
    (λ e. rw e (ap (λ rest. part_number region.place ++ rest) (parts_of-cut p n side at regions)))

-- the halves have the piece's number, and that of no other piece
no_piece : (p : ℕ) (place : Place) → is_part_place p place ≡ true → piece_number place ≡ []
no_piece p (Part number) is = refl
no_piece p (Piece number) is = absurd cc

pub pieces_of_halves : (p n : ℕ) (side : Side) (at : ℕ) (region : Region) (regions : List Region) → is_part p region ≡ true → pieces_of (halves n side at region ++ regions) ≡ n ∷ pieces_of regions
pieces_of_halves p n Low at region regions is = let none = no_piece p region.place is in rw none refl
pieces_of_halves p n High at region regions is = let none = no_piece p region.place is in rw none refl

-- what holds of the new piece's number and of each other holds of all
pub each-cut : (P : ℕ → Type 0) (p n : ℕ) (side : Side) (at : ℕ) (regions : List Region) → P n → AllByRecursion P (pieces_of regions) → AllByRecursion P (pieces_of (cut p n side at regions))
each-cut P p n side at [] new each = tt
each-cut P p n side at (region ∷ regions) new each =
    by_test (is_part p region)
    (λ e. let numbers = pieces_of_halves p n side at region regions e in
    let none = no_piece p region.place e in
    rw (e, numbers) (new, rw none at each))
    (λ e. rw e (each_with P region.place (pieces_of regions) (pieces_of (cut p n side at regions)) each (each-cut P p n side at regions new)))

-- a free number stands once
distinct_with : (place : Place) (n : ℕ) (ns ms : List ℕ) → list_any (λ m. m == n) (piece_number place ++ ns) ≡ false → IsDistinct ◌==◌ (piece_number place ++ ns)
    → ((P : ℕ → Type 0) → P n → AllByRecursion P ns → AllByRecursion P ms) → (list_any (λ m. m == n) ns ≡ false → IsDistinct ◌==◌ ns → IsDistinct ◌==◌ ms)
    → IsDistinct ◌==◌ (piece_number place ++ ms)
distinct_with (Part number) n ns ms fresh distinct each more = more fresh distinct
distinct_with (Piece number) n ns ms fresh distinct each more =
    by_test (number == n)
    (λ e. let no : true ≡ false = rw e at fresh in absurd cc)
    (λ e. IsDistinct-cons ◌==◌ number ms
    (each (λ m. (number == m) ≡ false) e (IsDistinct-head ◌==◌ number ns distinct))
    (more (rw e at fresh) (IsDistinct-tail ◌==◌ number ns distinct)))

pub distinct-cut : (p n : ℕ) (side : Side) (at : ℕ) (regions : List Region) → list_any (λ m. m == n) (pieces_of regions) ≡ false → IsDistinct ◌==◌ (pieces_of regions)
    → IsDistinct ◌==◌ (pieces_of (cut p n side at regions))
distinct-cut p n side at [] fresh distinct = distinct
distinct-cut p n side at (region ∷ regions) fresh distinct =
    by_test (is_part p region)
    (λ e. let numbers = pieces_of_halves p n side at region regions e in
    let none = no_piece p region.place e in
    rw (e, numbers) (IsDistinct-cons ◌==◌ n (pieces_of regions) (each_differs n (pieces_of regions) (rw none at fresh)) (rw none at distinct)))
    (λ e. rw e (distinct_with region.place n (pieces_of regions) (pieces_of (cut p n side at regions)) fresh distinct
    (λ P new each. each-cut P p n side at regions new each)
    (distinct-cut p n side at regions)))

-- a cut of a part, strictly inside it, leaves regions of all s_ids
pub regions-cut : (p n : ℕ) (side : Side) (at : ℕ) (regions : List Region) (part : Region) → find (is_part p) regions ≡ Some part → part.lo < at → at < part.hi
    → IsPieceNumber n → list_any (λ m. m == n) (pieces_of regions) ≡ false → AreRegions regions → AreRegions (cut p n side at regions)
regions-cut p n side at regions part found above below number fresh are =
    let parts = parts_of-cut p n side at regions in
    record {
      consecutive = consecutive-cut p n side at 1 regions part found above below are.consecutive;
      in_order = rw parts are.in_order;
      some_part = rw parts are.some_part;
      few_parts = rw parts are.few_parts;
      numbered = each-cut IsPieceNumber p n side at regions number are.numbered;
      distinct = distinct-cut p n side at regions fresh are.distinct;
    }
