-- Regions whose parts' numbers change.
use Rattle.part_table.proofs.Common.{◌≡◌, refl, sym, ap, subst, ℕ, suc, ◌+◌, ◌-◌, ◌<◌, List, [], ◌∷◌, ◌++◌, length, get_or, set, drop, map, arith, AllByRecursion, drop-cons, drop-set-lt, map-append, each-left, each-right, lowered, place_lowered, place_raised, raised, part_number, piece_number, IsConsecutive, parts_of, pieces_of, Place, Part, Piece, Region}

module _ (g : Place → Place) where
  -- regions with other places
  abbrev pub renumbered : List Region → List Region
  renumbered regions = map (λ (region : Region). record region { place = g region.place }) regions

  -- their ranges stay
  pub consecutive-renumbered : (from : ℕ) (regions : List Region) → IsConsecutive from regions → IsConsecutive from (renumbered regions)
  consecutive-renumbered from [] consecutive = consecutive
  consecutive-renumbered from (region ∷ regions) consecutive = (consecutive.0, consecutive.1, consecutive-renumbered region.hi regions consecutive.2)

  -- the numbers of the parts, and those of the pieces
  pub parts_of-renumbered : (h : ℕ → ℕ) (each : (place : Place) → part_number (g place) ≡ map h (part_number place)) (regions : List Region) → parts_of (renumbered regions) ≡ map h (parts_of regions)
  parts_of-renumbered h each [] = refl
  parts_of-renumbered h each (region ∷ regions) = rw (each region.place, parts_of-renumbered h each regions) (sym (map-append h (part_number region.place) (parts_of regions)))

  pub pieces_of-renumbered : (each : (place : Place) → piece_number (g place) ≡ piece_number place) (regions : List Region) → pieces_of (renumbered regions) ≡ pieces_of regions
  pieces_of-renumbered each [] = refl
  pieces_of-renumbered each (region ∷ regions) = rw (each region.place, pieces_of-renumbered each regions) refl

-- numbers that rise
abbrev pub region_raised : Region → Region
region_raised region = record region { place = place_raised region.place }

raised_part : (place : Place) → part_number (place_raised place) ≡ map (λ p. p + 1) (part_number place)
raised_part (Part number) = refl
raised_part (Piece number) = refl

pub raised_piece : (place : Place) → piece_number (place_raised place) ≡ piece_number place
raised_piece (Part number) = refl
raised_piece (Piece number) = refl

pub parts_of-raised : (regions : List Region) → parts_of (raised regions) ≡ map (λ p. p + 1) (parts_of regions)
parts_of-raised regions = parts_of-renumbered place_raised (λ p. p + 1) raised_part regions

pub pieces_of-raised : (regions : List Region) → pieces_of (raised regions) ≡ pieces_of regions
pieces_of-raised regions = pieces_of-renumbered place_raised raised_piece regions

-- numbers that fall
abbrev pub region_lowered : Region → Region
region_lowered region = record region { place = place_lowered region.place }

lowered_part : (place : Place) → part_number (place_lowered place) ≡ map (λ p. p - 1) (part_number place)
lowered_part (Part number) = refl
lowered_part (Piece number) = refl

pub lowered_piece : (place : Place) → piece_number (place_lowered place) ≡ piece_number place
lowered_piece (Part number) = refl
lowered_piece (Piece number) = refl

pub parts_of-lowered : (regions : List Region) → parts_of (lowered regions) ≡ map (λ p. p - 1) (parts_of regions)
parts_of-lowered regions = parts_of-renumbered place_lowered (λ p. p - 1) lowered_part regions

pub pieces_of-lowered : (regions : List Region) → pieces_of (lowered regions) ≡ pieces_of regions
pieces_of-lowered regions = pieces_of-renumbered place_lowered lowered_piece regions

-- what holds of each part's number from one region on holds of its own, and of those behind it
pub each_number : (P : ℕ → Type 0) (regions : List Region) (i : ℕ) (d : Region) → i < length regions → AllByRecursion P (parts_of (drop i regions))
    → AllByRecursion P (part_number (get_or regions i d).place) × AllByRecursion P (parts_of (drop (i + 1) regions))
each_number P regions i d lt each =
    let next : suc i ≡ i + 1 = omega arith in
    let here : parts_of (drop i regions) ≡ part_number (get_or regions i d).place ++ parts_of (drop (i + 1) regions) = ap parts_of (rw next at (drop-cons regions i d lt)) in
    let all = subst (AllByRecursion P) here each in
    (each-left P (part_number (get_or regions i d).place) (parts_of (drop (i + 1) regions)) all, each-right P (part_number (get_or regions i d).place) (parts_of (drop (i + 1) regions)) all)

-- and of those behind it also where it is exchanged
pub each_behind : (P : ℕ → Type 0) (regions : List Region) (i : ℕ) (d other : Region) → i < length regions → AllByRecursion P (parts_of (drop i regions)) → AllByRecursion P (parts_of (drop (i + 1) (set regions i other)))
each_behind P regions i d other lt each = rw (drop-set-lt (i + 1) regions i other (omega arith)) (each_number P regions i d lt each).1
