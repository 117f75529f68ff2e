-- A give by the index of the part's region.
use Rattle.part_table.proofs.Common.{◌≡◌, ◌∙◌, refl, sym, ap, ℕ, zero, suc, ◌+◌, ◌<◌, List, [], ◌∷◌, length, get_or, set, arith, Some, None, Err, insert, position, position-Some, NoPart, answer_of_part, cut, give_answer, piece_index, is_part, Piece, Region, Side, Low, High}
use Rattle.part_table.proofs.CutLemmas.{cut_found}
use Rattle.part_table.proofs.FirstLemmas.{find_index, find_none}
use Rattle.part_table.proofs.PlaceLemmas.{blank}

-- the part's answer is that of its region
pub answer_at : (p : ℕ) (side : Side) (at : ℕ) (regions : List Region) (i : ℕ) (d : Region) → position (is_part p) regions ≡ Some i
    → give_answer p side at regions ≡ answer_of_part (Some (get_or regions i d)) side at regions
answer_at p side at regions i d index = ap (λ found. answer_of_part found side at regions) (find_index (is_part p) regions i d index)

pub answer_none : (p : ℕ) (side : Side) (at : ℕ) (regions : List Region) → position (is_part p) regions ≡ None → give_answer p side at regions ≡ Err NoPart
answer_none p side at regions none = ap (λ found. answer_of_part found side at regions) (find_none (is_part p) regions none)

-- the halves of a region: the piece's, and the part's
abbrev pub piece_half : ℕ → Side → ℕ → Region → Region
piece_half n Low at region = record { lo = region.lo; hi = at; place = Piece n }
piece_half n High at region = record { lo = at; hi = region.hi; place = Piece n }

abbrev pub part_half : Side → ℕ → Region → Region
part_half Low at region = record { lo = at; hi = region.hi; place = region.place }
part_half High at region = record { lo = region.lo; hi = at; place = region.place }

-- two edits beside each other, in either order
insert_before : {X : Type 0} (xs : List X) (i : ℕ) (a b : X) → i < length xs → insert (set xs i a) i b ≡ insert (set xs i b) (i + 1) a
insert_before [] i a b within = absurd (omega arith)
insert_before (x ∷ xs) zero a b within = refl
insert_before (x ∷ xs) (suc i) a b within = let more : suc i + 1 ≡ suc (i + 1) = omega arith in rw more (ap (λ rest. x ∷ rest) (insert_before xs i a b (omega arith)))

-- a cut exchanges the part's region for its half, and puts the piece's in beside it
pub cut_edit : (p n : ℕ) (side : Side) (at : ℕ) (regions : List Region) (i : ℕ) → position (is_part p) regions ≡ Some i
    → cut p n side at regions ≡ insert (set regions i (part_half side at (get_or regions i blank))) (piece_index side i) (piece_half n side at (get_or regions i blank))
cut_edit p n Low at regions i index =
    let region = get_or regions i blank in
    sym (cut_found p n Low at regions i (piece_half n Low at region) (part_half Low at region) blank index refl)
    ∙ sym (insert_before regions i (part_half Low at region) (piece_half n Low at region) (position-Some (is_part p) regions i blank index).0)
cut_edit p n High at regions i index =
    let region = get_or regions i blank in
    sym (cut_found p n High at regions i (part_half High at region) (piece_half n High at region) blank index refl)
