-- Holdings that may be brought home: those of no part, over a new board, and those of which the last two are taken out
-- and put back.
use Rattle.hlr_owners.proofs.Common.{◌≡◌, ◌∙◌, ℕ, ◌+◌, arith, List, [], ◌∷◌, ◌++◌, length, map, refl, Box, sum_by, AllByRecursion, Global, map-append, sum_by-cons, sum_by_push, TableId, DeskState, with_view, first_view, looked, WORDS, HoldingState, each-append, each-left, each-right, desk_of, owns_one, AreOpening, HasOneSlot, MayGather, unboxed}
use Rattle.hlr_owners.proofs.DeskLemmas.{same_one}
use Rattle.hlr_owners.proofs.ListLemmas.{map_twice}
use Rattle.hlr_owners.proofs.ShareLemmas.{none_shared, first_of_board, shared_desks}

-- a desk of the same board that has the same slots
pub record IsSameDesk (before after : DeskState) : Type 0 where
  pub board : after.board ≡ before.board
  pub owned : after.view.owned ≡ before.view.owned

-- what boxes contain, each as something
abbrev map_boxed : {X Y : Type 0} → (X → Y) → List (Box X Global) → List Y
map_boxed as_what boxes = map (λ b. as_what b.value) boxes

-- the desks of what boxes contain
desks_in : (boxes : List (Box HoldingState Global)) → map desk_of (unboxed boxes) ≡ map_boxed desk_of boxes
desks_in boxes = map_twice (λ (b : Box HoldingState Global). b.value) desk_of boxes

-- one more at the end
desks_pushed : (boxes : List (Box HoldingState Global)) (b : Box HoldingState Global) → map_boxed desk_of (boxes ++ b ∷ []) ≡ map_boxed desk_of boxes ++ b.value.desk ∷ []
desks_pushed boxes b = map-append (λ (one : Box HoldingState Global). desk_of one.value) boxes (b ∷ [])

same_owns : (slot : ℕ) (before after : DeskState) → IsSameDesk before after → owns_one slot after ≡ owns_one slot before
same_owns slot before after same = rw same.owned refl

-- a new board's desk alone
pub new_board : (board : TableId) (spare : DeskState) (words : List ℕ) → spare.board ≡ board → spare.view ≡ first_view words → AreOpening words → length words ≡ WORDS → MayGather board spare []
new_board board spare words same first opening wide =
    record {
      same = (same, tt);
      shares = (shared_desks words board spare [] opening.level (first_of_board words board spare same first wide, tt) (none_shared words spare [] first refl)).shares;
    }

-- with what the spare desk saw
pub looked_may : (board : TableId) (spare : DeskState) (holdings : List HoldingState) (words : List ℕ) → MayGather board spare holdings → MayGather board (with_view spare (looked spare.view words)) holdings
looked_may board spare holdings words may = record { same = may.same; shares = record { once = may.shares.once; alone = may.shares.alone; idle = may.shares.idle } }

-- two holdings at the end of a list
module _ (rest : List (Box HoldingState Global)) (first second : Box HoldingState Global) where
  desks_of_two : map desk_of (unboxed ((rest ++ first ∷ []) ++ second ∷ [])) ≡ (map_boxed desk_of rest ++ first.value.desk ∷ []) ++ second.value.desk ∷ []
  desks_of_two = desks_in ((rest ++ first ∷ []) ++ second ∷ []) ∙ rw (desks_pushed (rest ++ first ∷ []) second, desks_pushed rest first) refl

  owned_by_two : (spare : DeskState) (slot : ℕ)
      → sum_by (owns_one slot) (spare ∷ map desk_of (unboxed ((rest ++ first ∷ []) ++ second ∷ []))) ≡ owns_one slot spare + sum_by (owns_one slot) (map_boxed desk_of rest) + owns_one slot first.value.desk + owns_one slot second.value.desk
  owned_by_two spare slot =
      let head = sum_by-cons (owns_one slot) spare ((map_boxed desk_of rest ++ first.value.desk ∷ []) ++ second.value.desk ∷ []) in
      let last = sum_by_push (owns_one slot) (map_boxed desk_of rest ++ first.value.desk ∷ []) second.value.desk in
      rw desks_of_two (omega (arith, sum_by_push (owns_one slot) (map_boxed desk_of rest) first.value.desk))

  -- what holds of each of their desks and of each in front of them
  each_with_two : (P : DeskState → Type 0) → AllByRecursion P (map_boxed desk_of rest) → P first.value.desk → P second.value.desk → AllByRecursion P (map desk_of (unboxed ((rest ++ first ∷ []) ++ second ∷ [])))
  each_with_two P others one other = rw desks_of_two (each-append P (map_boxed desk_of rest ++ first.value.desk ∷ []) (second.value.desk ∷ []) (each-append P (map_boxed desk_of rest) (first.value.desk ∷ []) others (one, tt)) (other, tt))

  each_of_two : (P : DeskState → Type 0) → AllByRecursion P (map desk_of (unboxed ((rest ++ first ∷ []) ++ second ∷ []))) → AllByRecursion P (map_boxed desk_of rest) × P first.value.desk × P second.value.desk
  each_of_two P each =
      let all = rw desks_of_two at each in
      let before = each-left P (map_boxed desk_of rest ++ first.value.desk ∷ []) (second.value.desk ∷ []) all in (
        each-left P (map_boxed desk_of rest) (first.value.desk ∷ []) before,
        (each-right P (map_boxed desk_of rest) (first.value.desk ∷ []) before).0,
        (each-right P (map_boxed desk_of rest ++ first.value.desk ∷ []) (second.value.desk ∷ []) all).0,
      )

-- they are taken out
module _ (board : TableId) (spare : DeskState) (all some rest : List (Box HoldingState Global)) (first second : Box HoldingState Global) (are : all ≡ some ++ second ∷ []) (were : some ≡ rest ++ first ∷ []) (may : MayGather board spare (unboxed all)) where
  may_two : MayGather board spare (unboxed ((rest ++ first ∷ []) ++ second ∷ []))
  may_two = rw (are, were) at may

  boards : AllByRecursion (λ (desk : DeskState). desk.board ≡ board) (map_boxed desk_of rest) × (first.value.desk.board ≡ board) × (second.value.desk.board ≡ board)
  boards = each_of_two rest first second (λ (desk : DeskState). desk.board ≡ board) may_two.same.1

  ones : AllByRecursion HasOneSlot (map_boxed desk_of rest) × HasOneSlot first.value.desk × HasOneSlot second.value.desk
  ones = each_of_two rest first second HasOneSlot may_two.shares.alone

  -- their desks are of the board
  pub first_board : first.value.desk.board ≡ board
  first_board = boards.1

  pub second_board : second.value.desk.board ≡ board
  second_board = boards.2

  -- two others of the board are put back, which have one slot each, and both together the same slots
  two_put : (one other : Box HoldingState Global) → (one.value.desk.board ≡ board) × HasOneSlot one.value.desk → (other.value.desk.board ≡ board) × HasOneSlot other.value.desk
      → ((slot : ℕ) → owns_one slot one.value.desk + owns_one slot other.value.desk ≡ owns_one slot first.value.desk + owns_one slot second.value.desk)
      → MayGather board spare (unboxed ((rest ++ one ∷ []) ++ other ∷ []))
  two_put one other is_one is_other same = record {
    same = (may.same.0, each_with_two rest one other (λ (desk : DeskState). desk.board ≡ board) boards.0 is_one.0 is_other.0);
    shares = record {
      once = λ slot within. (
          let was = owned_by_two rest first second spare slot in
          let now = owned_by_two rest one other spare slot in
          let once = may_two.shares.once slot within in
          let both = same slot in
          omega arith);
      alone = each_with_two rest one other HasOneSlot ones.0 is_one.1 is_other.1;
      idle = may.shares.idle;
    };
  }

  -- so it is with desks of the same slots, as they were or the other way round
  module _ (first' second' : Box HoldingState Global) (same_first : IsSameDesk first.value.desk first'.value.desk) (same_second : IsSameDesk second.value.desk second'.value.desk) where
    one_is : (first'.value.desk.board ≡ board) × HasOneSlot first'.value.desk
    one_is = (same_first.board ∙ first_board, same_one first.value.desk first'.value.desk same_first.owned ones.1)

    other_is : (second'.value.desk.board ≡ board) × HasOneSlot second'.value.desk
    other_is = (same_second.board ∙ second_board, same_one second.value.desk second'.value.desk same_second.owned ones.2)

    pub two_back : MayGather board spare (unboxed ((rest ++ first' ∷ []) ++ second' ∷ []))
    two_back = two_put first' second' one_is other_is (λ slot. rw (same_owns slot first.value.desk first'.value.desk same_first, same_owns slot second.value.desk second'.value.desk same_second) refl)

    pub two_turned : MayGather board spare (unboxed ((rest ++ second' ∷ []) ++ first' ∷ []))
    two_turned = two_put second' first' other_is one_is (λ slot. rw (same_owns slot first.value.desk first'.value.desk same_first, same_owns slot second.value.desk second'.value.desk same_second) (omega arith))
