-- Who is at home: all parts, the part with a number, and whoever has an s_id.
use Rattle.hlr_owners.proofs.Common.{by_test, ◌≡◌, refl, ℕ, zero, suc, ◌<◌, List, [], ◌∷◌, Bool, true, length, get_or, drop, arith, Some, ◌-◌, false, Option, position, IfOk, ◌↔◌, IsTrue, AllByRecursion, list_all, get_or_past, position-Some, Refusal, each_at, recut_answer, lies_in, CutMove, place_of, Place, is_part_there, blank, place_at, IsEachHome, PartOwnerState, IsHomeToCut, IsHomeToMove, is_home, homes_in, IsKind, OwnersState, AreOwners, IsPartHome, IsPlaceHome, IsHomeFor, AllHome, RegionOwner, Part, Piece, Result, Ok, Err}
use Rattle.part_table.specs.declared.region.Place.TheVariants as place
use Rattle.hlr_owners.proofs.ListLemmas.{each_drop}
use Rattle.hlr_owners.proofs.PartLemmas.{part_state_home}
use Rattle.hlr_owners.proofs.RegionOwnerLemmas.{owner_is, owner_there}

-- with all from one on at home that one is, and so are all behind it
pub first_home : (homes : List Bool) (p : ℕ) → AllByRecursion (λ (home : Bool). home ≡ true) (drop p homes) → get_or homes p true ≡ true
first_home [] p all = get_or_past [] p true (omega arith)
first_home (home ∷ homes) zero all = all.0
first_home (home ∷ homes) (suc p) all = first_home homes p all

pub later_home : (homes : List Bool) (p : ℕ) → AllByRecursion (λ (home : Bool). home ≡ true) (drop p homes) → AllByRecursion (λ (home : Bool). home ≡ true) (drop (suc p) homes)
later_home [] p all = tt
later_home (home ∷ homes) zero all = all.1
later_home (home ∷ homes) (suc p) all = later_home homes p all

-- with all parts at home each is, and whoever has an s_id
pub part_home_of_all : (p : ℕ) (h : OwnersState) → AllHome h.owners → IsPartHome p h
part_home_of_all p h all = first_home (homes_in h.owners) p (each_drop (λ (home : Bool). home ≡ true) (homes_in h.owners) p all)

place_home_of_all : (o : Option Place) (h : OwnersState) → AllHome h.owners → IsPlaceHome o h
place_home_of_all (Some (place.Part p)) h all = part_home_of_all p h all
place_home_of_all o h all = tt

pub home_of_all : (s_id : ℕ) (h : OwnersState) → AllHome h.owners → IsHomeFor s_id h
home_of_all s_id h all = place_home_of_all (place_of s_id h.regions) h all

-- with the same parts at home a bound of a re-cut may move, and with all at home a re-cut
pub cut_move_home : (bounds : List ℕ) (before now : OwnersState) (moves : List CutMove) (i : ℕ) (d : CutMove) → recut_answer before.regions bounds ≡ Ok moves → IsHomeToCut bounds before
    → i < length moves → homes_in now.owners ≡ homes_in before.owners → IsHomeToMove now (get_or moves i d)
cut_move_home bounds before now moves i d answer home within same =
    rw same (each_at (IsHomeToMove before) moves i d (rw answer at home) within)

moves_home : (h : OwnersState) (moves : List CutMove) → AllHome h.owners → AllByRecursion (IsHomeToMove h) moves
moves_home h [] all = tt
moves_home h (move ∷ moves) all = ((part_home_of_all (move.bound - 1) h all, part_home_of_all move.bound h all), moves_home h moves all)

pub cut_home_of_all : (bounds : List ℕ) (h : OwnersState) → AllHome h.owners → IsHomeToCut bounds h
cut_home_of_all bounds h all = of_answer (recut_answer h.regions bounds)
  where
    of_answer : (answer : Result (List CutMove) Refusal) → IfOk answer (AllByRecursion (IsHomeToMove h))
    of_answer (Ok moves) = moves_home h moves all
    of_answer (Err why) = tt

-- so is each owner
pub each_home : (owners : List RegionOwner) → AllHome owners → IsEachHome owners
each_home [] all = tt
each_home (Part l ∷ owners) all = (all.0, each_home owners all.1)
each_home (Piece b ∷ owners) all = (refl, each_home owners all)

pub all_home : (owners : List RegionOwner) → IsEachHome owners → AllHome owners
all_home [] each = tt
all_home (Part l ∷ owners) each = (each.0, all_home owners each.1)
all_home (Piece b ∷ owners) each = all_home owners each.1

-- so the test of all owners tells it
pub each_passes : {X : Type 0} (test : X → Bool) (xs : List X) → list_all test xs ≡ true → AllByRecursion (λ x. test x ≡ true) xs
each_passes test [] all = tt
each_passes test (x ∷ xs) all = by_test (test x) (λ e. (e, each_passes test xs (rw e at all))) (λ e. let no : false ≡ true = rw e at all in absurd cc)

pub all_pass : {X : Type 0} (test : X → Bool) (xs : List X) → AllByRecursion (λ x. test x ≡ true) xs → list_all test xs ≡ true
all_pass test [] each = refl
all_pass test (x ∷ xs) each = rw each.0 (all_pass test xs each.1)

pub all_home_is : (owners : List RegionOwner) → IsTrue (list_all is_home owners) ↔ AllHome owners
all_home_is owners = (λ all. all_home owners (each_passes is_home owners all), λ all. all_pass is_home owners (each_home owners all))

pub home_at : (owners : List RegionOwner) (i : ℕ) (s : RegionOwner) → AllHome owners → i < length owners → s ≡ get_or owners i s → is_home s ≡ true
home_at [] i s all within is = absurd (omega arith)
home_at (Part l ∷ owners) zero s all within is = rw is all.0
home_at (Part l ∷ owners) (suc i) s all within is = home_at owners i s all.1 (omega arith) is
home_at (Piece b ∷ owners) zero s all within is = rw is refl
home_at (Piece b ∷ owners) (suc i) s all within is = home_at owners i s all (omega arith) is

-- the part who has an s_id is at home
module _ (h : OwnersState) (are : AreOwners h) (s_id i : ℕ) (at : position (lies_in s_id) h.regions ≡ Some i) (l : PartOwnerState) (is : Part l ≡ get_or h.owners i (Part l)) where
  within : i < length h.regions
  within = (position-Some (lies_in s_id) h.regions i blank at).0

  of_place : (q : Place) → (get_or h.regions i blank).place ≡ q → IsKind q (Part l) → IsPlaceHome (Some q) h → l.home ≡ true
  of_place (place.Part p) placed kind home = part_state_home h are p i within (is_part_there p (get_or h.regions i blank) placed) l is home
  of_place (place.Piece n) placed kind home = absurd kind

  pub owner_home : IsHomeFor s_id h → l.home ≡ true
  owner_home home = of_place (get_or h.regions i blank).place refl (owner_is h are i (Part l) is (owner_there h are s_id i at)).kind (rw (place_at s_id h.regions i blank at) at home)
