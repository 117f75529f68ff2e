-- A give among all owners: an owner exchanged, and a piece put in beside it; and a change that is refused.
use Rattle.hlr_owners.proofs.Common.{◌≡◌, ◌∙◌, refl, sym, ℕ, ◌<◌, ◌≤◌, List, length, get_or, set, arith, Some, Ok, position, insert, Box, Global, AllZip-long, cut, give_answer, piece_index, is_part, Region, Side, Low, High, find_index, IsGive, give_from_answer, has_room, leaves_regions, cut_edit, part_half, piece_half, blank, HoldingState, PieceState, IsHolding, IsPiece, IsInside, IsGiven, IsMovedAlone, out_of, with_outs, PartOwnerState, book_in, desks_in, of_parts, store_in, IsKind, IsPartHome, IsRegionOwner, OwnersState, AreOwners, RegionOwner, Part, Piece, ◌⊎◌, inl, inr, Refusal, MayAnswer, Result, Err}
use Rattle.hlr_owners.proofs.HalvesLemmas.{given_in}
use Rattle.hlr_owners.proofs.LendLemmas.{ruled_later}
use Rattle.hlr_owners.proofs.OutLemmas.{none_out, outs-at, outs-insert, outs-set}
use Rattle.hlr_owners.proofs.RegionOwnerLemmas.{IsRegionOwnerIn, parts-insert, parts-kept, part_kind, each_in, owners_in}
use Rattle.hlr_owners.proofs.PartLemmas.{part_is_home, part_owner_at}
use Rattle.hlr_owners.proofs.ZipLemmas.{zip_set, zip_insert}
use Rattle.tatp_rows.specs.declared.refusal.Refusal.TheVariants as refusal

-- of the halves the part's is of the same kind as the whole, and the other one a piece
half_kind : (side : Side) (at : ℕ) (region : Region) (l m : PartOwnerState) → IsKind region.place (Part l) → IsKind (part_half side at region).place (Part m)
half_kind Low at region l m kind = part_kind region.place l m kind
half_kind High at region l m kind = part_kind region.place l m kind

piece_kind : (n : ℕ) (side : Side) (at : ℕ) (region : Region) (b : Box PieceState Global) → IsKind (piece_half n side at region).place (Piece b)
piece_kind n Low at region b = tt
piece_kind n High at region b = tt

pub piece_index-le : (side : Side) (i n : ℕ) → i < n → piece_index side i ≤ n
piece_index-le Low i n lt = omega arith
piece_index-le High i n lt = omega arith

-- what a give and a take leave
pub record LeavesMoved (before after : OwnersState) : Type 0 where
  pub ruled : AreOwners after
  pub desks : desks_in after.owners ≡ desks_in before.owners
  pub store : store_in after ≡ record (store_in before) { regions = after.regions }
  pub alone : IsMovedAlone before after

module _ (h : OwnersState) (are : AreOwners h) (p : ℕ) (side : Side) (at : ℕ) (told : ℕ × ℕ × ℕ) (answer : give_answer p side at h.regions ≡ Ok told) where
  giving : IsGive p side at h.regions told
  giving = give_from_answer p side at h.regions told answer

  -- there is room for a piece
  pub room_for_piece : length h.owners < 32
  room_for_piece = let long = AllZip-long (IsRegionOwner h.width) h.regions h.owners are.each in let few = has_room p side at h.regions told giving are.are in omega arith

  module _ (i : ℕ) (index : position (is_part p) h.regions ≡ Some i) (l : PartOwnerState) (is : Part l ≡ get_or h.owners i (Part l)) where
    abbrev region : Region
    region = get_or h.regions i blank

    owner : IsRegionOwnerIn h.width (book_in h.owners) region (Part l)
    owner = part_owner_at h are p i index (Part l) is

    pub giver_inside : IsInside at l.holding.part
    giver_inside =
        let one : Some region ≡ Some giving.part = sym (find_index (is_part p) h.regions i blank index) ∙ giving.found in
        let same : region ≡ giving.part = cc in
        rw (owner.state.is.from, owner.state.is.to, same) (giving.above, giving.below)

    module _ (m : PartOwnerState) (b : Box PieceState Global) (parts : IsGiven side at l.holding b.value m.holding) (piece : IsPiece b.value) (kept : IsHolding m.holding) where
      -- the owners after it
      abbrev edited : List RegionOwner
      edited = insert (set h.owners i (Part m)) (piece_index side i) (Piece b)

      given_owners : AreOwners (record h { regions = cut p told.0 side at h.regions; owners = edited }) × (book_in edited ≡ book_in h.owners)
      given_owners =
          let both = given_in h.width (book_in h.owners) region l.holding owner.state at m.holding kept told.0 side b.value parts piece in
          owners_in h are (cut p told.0 side at h.regions) edited h.spare (leaves_regions p side at h.regions told giving are.are) (rw (cut_edit p told.0 side at h.regions i index)
          (zip_insert (IsRegionOwnerIn h.width (book_in h.owners)) (set h.regions i (part_half side at region)) (set h.owners i (Part m)) (piece_index side i) (piece_half told.0 side at region) (Piece b)
          (zip_set (IsRegionOwnerIn h.width (book_in h.owners)) h.regions h.owners i (part_half side at region) (Part m) (each_in h are) (record { kind = half_kind side at region l m owner.kind; state = both.0 }))
          (record { kind = piece_kind told.0 side at region b; state = both.1 })))

      -- what the parts have stays where it is the giver's as it was
      given_parts : {X : Type 0} (f : PartOwnerState → X) → f m ≡ f l → of_parts f edited ≡ of_parts f h.owners
      given_parts f same = parts-insert f (set h.owners i (Part m)) (piece_index side i) b ∙ parts-kept f h.owners i l m same is

      -- and of the store the regions alone move
      given_desks : desks_in edited ≡ desks_in h.owners
      given_desks = given_parts (λ (o : PartOwnerState). o.holding.desk) parts.desk

      given_store : store_in (record h { regions = cut p told.0 side at h.regions; owners = edited }) ≡ record (store_in h) { regions = cut p told.0 side at h.regions }
      given_store = rw (given_owners.1, given_desks) refl

-- it is so whatever those that are out have become
pub all_given : (h : OwnersState) (are : AreOwners h) (p : ℕ) (side : Side) (at : ℕ) (told : ℕ × ℕ × ℕ) (answer : give_answer p side at h.regions ≡ Ok told) (i : ℕ) (index : position (is_part p) h.regions ≡ Some i)
    (l : PartOwnerState) (is : Part l ≡ get_or h.owners i (Part l)) → IsPartHome p h → (k : HoldingState) (b : Box PieceState Global) → IsGiven side at l.holding b.value k → IsPiece b.value → IsHolding k
    → LeavesMoved h (record h { regions = cut p told.0 side at h.regions; owners = insert (set h.owners i (Part (record l { holding = k }))) (piece_index side i) (Piece b) })
all_given h are p side at told answer i index l is home k b parts piece kept =
    let m : PartOwnerState = record l { holding = k } in
    let was = part_is_home h are p i index l is home in
    record {
      ruled = (given_owners h are p side at told answer i index l is m b parts piece kept).0;
      desks = given_desks h are p side at told answer i index l is m b parts piece kept;
      store = given_store h are p side at told answer i index l is m b parts piece kept;
      alone = record {
        homes = given_parts h are p side at told answer i index l is m b parts piece kept (λ (o : PartOwnerState). o.home) refl;
        outs = given_parts h are p side at told answer i index l is m b parts piece kept out_of (none_out l k was);
        same = refl;
        while_out = λ ks become.
            rw (outs-insert (set h.owners i (Part m)) ks (piece_index side i) b, outs-set h.owners ks i l m is was)
            (given_store (record h { owners = with_outs h.owners ks }) (ruled_later h (with_outs h.owners ks) are become) p side at told answer i index l (outs-at h.owners ks i (Part l) is was) m b parts piece kept);
      };
    }

-- a refusal that is want of memory, where the other reason does not stand
pub only_memory : {P : Type 0} (other why : Refusal) → P → ((why ≡ other) × (P → ⊥)) ⊎ ((why ≡ refusal.Memory) × P) → why ≡ refusal.Memory
only_memory other why stands told = elim told [
  | inl none ↦ absurd (none.1 stands)
  | inr memory ↦ memory.0
]

-- a give or a take that the regions would do is refused
pub may_refuse : {A : Type 0} (answer result : Result A Refusal) (told : A) (why : Refusal) → answer ≡ Ok told → result ≡ Err why → why ≡ refusal.Memory → MayAnswer answer result
may_refuse answer result told why does refused memory = rw (does, refused, memory) (inr refl)
