-- Ranges of parts and loose pieces, numbered in their order.
use Rattle.part_table.proofs.Common.{◌≡◌, ◌∙◌, refl, sym, ap, ℕ, zero, suc, ◌+◌, ◌<◌, ◌≤◌, List, [], ◌∷◌, ◌++◌, length, drop, get_or, Bool, true, false, arith, ◌==◌, nat_lt, AllByRecursion, range_with_len, drop-cons, nat_tests, append_assoc, append-nil, drop_all, length-range_with_len, by_test, place_numbered, part_after, piece_after, numbered, do_follow, part_number, piece_number, AreRegions, IsConsecutive, IsPieceNumber, parts_of, pieces_of, Place, Part, Piece, Region, END, MOST_PARTS, MOST_PIECES}
use Rattle.part_table.proofs.NumberLemmas.{range_distinct}

-- the parts are numbered from a number on
place_parts : (p n : ℕ) (place : Place) (parts : List ℕ) (rest : List ℕ) → rest ≡ range_with_len (part_after p place) (length parts)
    → part_number (place_numbered p n place) ++ rest ≡ range_with_len p (length (part_number place ++ parts))
place_parts p n (Part number) parts rest is = ap (λ (ns : List ℕ). p ∷ ns) is
place_parts p n (Piece number) parts rest is = is

pub parts-numbered : (p n : ℕ) (ranges : List Region) → parts_of (numbered p n ranges) ≡ range_with_len p (length (parts_of ranges))
parts-numbered p n [] = refl
parts-numbered p n (range ∷ ranges) = place_parts p n range.place (parts_of ranges) _ (parts-numbered (part_after p range.place) (piece_after n range.place) ranges)

-- and the pieces
place_pieces : (p n : ℕ) (place : Place) (pieces : List ℕ) (rest : List ℕ) → rest ≡ range_with_len (piece_after n place) (length pieces)
    → piece_number (place_numbered p n place) ++ rest ≡ range_with_len n (length (piece_number place ++ pieces))
place_pieces p n (Part number) pieces rest is = is
place_pieces p n (Piece number) pieces rest is = ap (λ (ns : List ℕ). n ∷ ns) is

pub pieces-numbered : (p n : ℕ) (ranges : List Region) → pieces_of (numbered p n ranges) ≡ range_with_len n (length (pieces_of ranges))
pieces-numbered p n [] = refl
pieces-numbered p n (range ∷ ranges) = place_pieces p n range.place (pieces_of ranges) _ (pieces-numbered (part_after p range.place) (piece_after n range.place) ranges)

-- ranges that follow one another are consecutive regions
pub consecutive : (from p n : ℕ) (ranges : List Region) → do_follow from ranges ≡ true → IsConsecutive from (numbered p n ranges)
consecutive from p n [] follow = grind (arith, nat_tests, follow)
consecutive from p n (range ∷ ranges) follow =
    by_test (range.lo == from)
    (λ begins. by_test (nat_lt range.lo range.hi)
    (λ some.
    let rest : do_follow range.hi ranges ≡ true = rw (begins, some) at follow in
    (grind (arith, nat_tests, begins), grind (arith, nat_tests, some), consecutive range.hi (part_after p range.place) (piece_after n range.place) ranges rest))
    (λ none. absurd (let no : false ≡ true = rw (begins, none) at follow in cc)))
    (λ gap. absurd (let no : false ≡ true = rw gap at follow in cc))

-- numbers from one on are a piece's where they are few
piece_numbers : (a k : ℕ) → 1 ≤ a → a + k ≤ 17 → AllByRecursion IsPieceNumber (range_with_len a k)
piece_numbers a zero from to = tt
piece_numbers a (suc k) from to = ((omega arith, omega arith), piece_numbers (a + 1) k (omega arith) (omega arith))

pub are_regions : (ranges : List Region) → do_follow 1 ranges ≡ true → 1 ≤ length (parts_of ranges) → length (parts_of ranges) ≤ MOST_PARTS → length (pieces_of ranges) ≤ MOST_PIECES → AreRegions (numbered 0 1 ranges)
are_regions ranges follow some parts pieces =
    let named = parts-numbered 0 1 ranges in
    let loose = pieces-numbered 0 1 ranges in
    let count : length (parts_of (numbered 0 1 ranges)) ≡ length (parts_of ranges) = ap length named ∙ length-range_with_len 0 (length (parts_of ranges)) in
    record {
      consecutive = consecutive 1 0 1 ranges follow;
      in_order = named ∙ ap (λ k. range_with_len 0 k) (sym count);
      some_part = rw count some;
      few_parts = rw count parts;
      numbered = rw loose (piece_numbers 1 (length (pieces_of ranges)) (omega arith) (omega arith));
      distinct = rw loose (range_distinct 1 (length (pieces_of ranges)));
    }

-- a part or a piece more is numbered
part_next : (p : ℕ) (place : Place) (parts : List ℕ) → p + length (part_number place ++ parts) ≡ part_after p place + length parts
part_next p (Part number) parts = omega arith
part_next p (Piece number) parts = refl

piece_next : (n : ℕ) (place : Place) (pieces : List ℕ) → n + length (piece_number place ++ pieces) ≡ piece_after n place + length pieces
piece_next n (Part number) pieces = refl
piece_next n (Piece number) pieces = omega arith

module _ (ranges : List Region) (i p n from : ℕ) (d : Region) (below : i < length ranges) where
  here : drop i ranges ≡ get_or ranges i d ∷ drop (i + 1) ranges
  here = let next : suc i ≡ i + 1 = omega arith in drop-cons ranges i d below ∙ ap (λ k. get_or ranges i d ∷ drop k ranges) next

  pub one_numbered : (list whole : List Region) → list ++ numbered p n (drop i ranges) ≡ whole
      → (list ++ record { lo = (get_or ranges i d).lo; hi = (get_or ranges i d).hi; place = place_numbered p n (get_or ranges i d).place } ∷ [])
      ++ numbered (part_after p (get_or ranges i d).place) (piece_after n (get_or ranges i d).place) (drop (i + 1) ranges) ≡ whole
  one_numbered list whole so_far = append_assoc list _ _ ∙ rw here at so_far

  pub one_follows : (answer : Bool) → do_follow from (drop i ranges) ≡ answer → (get_or ranges i d).lo ≡ from → (get_or ranges i d).lo < (get_or ranges i d).hi
      → do_follow (get_or ranges i d).hi (drop (i + 1) ranges) ≡ answer
  one_follows answer so_far begins some =
      let first : ((get_or ranges i d).lo == from) ≡ true = grind (arith, nat_tests, begins) in
      let next : nat_lt (get_or ranges i d).lo (get_or ranges i d).hi ≡ true = grind (arith, nat_tests, some) in
      rw (here, first, next) at so_far

  pub one_part : (count : ℕ) → p + length (parts_of (drop i ranges)) ≡ count → part_after p (get_or ranges i d).place + length (parts_of (drop (i + 1) ranges)) ≡ count
  one_part count so_far = sym (part_next p (get_or ranges i d).place (parts_of (drop (i + 1) ranges))) ∙ rw here at so_far

  pub one_piece : (count : ℕ) → n + length (pieces_of (drop i ranges)) ≡ count → piece_after n (get_or ranges i d).place + length (pieces_of (drop (i + 1) ranges)) ≡ count
  one_piece count so_far = sym (piece_next n (get_or ranges i d).place (pieces_of (drop (i + 1) ranges))) ∙ rw here at so_far

-- behind the last range all are numbered
pub all_numbered : (ranges list : List Region) (i p n : ℕ) → length ranges ≤ i → list ++ numbered p n (drop i ranges) ≡ numbered 0 1 ranges → list ≡ numbered 0 1 ranges
all_numbered ranges list i p n past so_far = let all : list ++ [] ≡ numbered 0 1 ranges = rw (drop_all i ranges past) at so_far in sym (append-nil list) ∙ all

-- and they follow one another where the last one ended behind all s_ids
pub all_follow : (ranges : List Region) (i from : ℕ) → length ranges ≤ i → do_follow from (drop i ranges) ≡ do_follow 1 ranges → (from == END) ≡ do_follow 1 ranges
all_follow ranges i from past so_far = rw (drop_all i ranges past) at so_far
