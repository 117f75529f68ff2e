-- The counts of all owners, and sums over them, one after another: what they have published, what is pending of them,
-- and the counts of their rows.
use Rattle.hlr_owners.proofs.Common.{◌≡◌, refl, ap, ℕ, ◌+◌, ◌*◌, ◌<◌, arith, List, [], ◌∷◌, length, ℤ, pos, ◌+ℤ◌, AllByRecursion, ints, cell, CELLS, cell_joined, IsConsecutive, Region, END, net_of, delta_at, empty_cell, OwnerState, ◌^◌, ◌≤◌, get_or, take, length-map, length-take, take_all, AllZip-long, TableId, each-weaker, each_at, length_regions, most_pieces, pieces_of, DeskState, IsWide, AreDesks, IsOfBoard, pending_in, IsOwnerState, published, unpublished, net_none, state_of, states_in, book_in, desks_in, unposted, store_in, IsRegionOwner, OwnersState, AreOwners, RegionOwner, Part, Piece, count_of, few, AllZip}
use Rattle.hlr_owners.proofs.HeldLemmas.{IsAtMost, state_most, pending_fits, nobody_net}
use Rattle.hlr_owners.proofs.ListLemmas.{sum_ints, each_take, sum_more}
use Rattle.hlr_owners.proofs.StateLemmas.{book_of_states, state_rows, own_region}
use Rattle.hlr_owners.proofs.ZipLemmas.{each_zipped}
use Rattle.hlr_owners.proofs.DeskLemmas.{nets_of_desks}
use Rattle.hlr_owners.proofs.RegionOwnerLemmas.{owned, state_is}

-- the count of a cell over the rows of an owner and of those behind it
cell_behind : (width : ℕ) (region : Region) (regions : List Region) (state : OwnerState) (states : List OwnerState) (c : ℕ) → AllZip (IsOwnerState width) (region ∷ regions) (state ∷ states)
    → IsConsecutive region.hi regions → cell width c (book_of_states (state ∷ states)) ≡ cell width c state.part.book + cell width c (book_of_states states)
cell_behind width region regions state states c each consecutive =
    cell_joined region.lo region.hi END state.part.book (book_of_states states) (own_region width region state each.0) (state_rows width region.hi regions states each.1 consecutive) width c

-- the counts over the rows of each owner add up to the count over all rows
pub cells_added : (width from : ℕ) (regions : List Region) (states : List OwnerState) (c : ℕ) → AllZip (IsOwnerState width) regions states → IsConsecutive from regions
    → sum_ints (λ (state : OwnerState). pos (count_of state.part c)) states ≡ pos (cell width c (book_of_states states))
cells_added width from [] [] c each consecutive = rw (empty_cell width c) refl
cells_added width from (region ∷ regions) (state ∷ states) c each consecutive =
    rw each.0.zones (omega (arith, ints, cells_added width region.hi regions states c each.1 consecutive.2, cell_behind width region regions state states c each consecutive.2))
cells_added width from regions states c each consecutive = absurd each

-- what owners have published and what is pending of them is the count over all rows
pub states_counted : (width from : ℕ) (regions : List Region) (states : List OwnerState) (c : ℕ) → c < CELLS → AllZip (IsOwnerState width) regions states → IsConsecutive from regions
    → sum_ints (λ (state : OwnerState). net_of state.view c) states +ℤ sum_ints (λ (state : OwnerState). delta_at state.pending c) states ≡ pos (cell width c (book_of_states states))
states_counted width from [] [] c below each consecutive = rw (empty_cell width c) refl
states_counted width from (region ∷ regions) (state ∷ states) c below each consecutive =
    let law = rw each.0.zones at (each.0.keeps.law c below) in
    omega (arith, ints, states_counted width region.hi regions states c below each.1 consecutive.2, cell_behind width region regions state states c each consecutive.2)
states_counted width from regions states c below each consecutive = absurd each

-- amounts of single owners have small sums
pub sum_small : {X : Type 0} (f : X → ℤ) (xs : List X) → AllByRecursion (λ x. IsAtMost state_most (f x)) xs → IsAtMost (length xs * state_most) (sum_ints f xs)
sum_small f [] each = (omega (arith, ints), omega (arith, ints))
sum_small f (x ∷ xs) each = (omega (arith, ints, each.0, sum_small f xs each.1), omega (arith, ints, each.0, sum_small f xs each.1))

-- the zones of an owner have the width, and what it has published, what is pending of it and its counts are small
pub record IsCountable (width : ℕ) (state : OwnerState) : Type 0 where
  pub zones : state.part.width ≡ width
  pub pending : (c : ℕ) → c < CELLS → IsAtMost state_most (delta_at state.pending c)
  pub published : (c : ℕ) → c < CELLS → IsAtMost state_most (net_of state.view c)
  pub counted : (c : ℕ) → c < CELLS → IsAtMost state_most (pos (count_of state.part c))

pub each_countable : (width : ℕ) (regions : List Region) (states : List OwnerState) → AllZip (IsOwnerState width) regions states → AllByRecursion (IsCountable width) states
each_countable width = each_zipped (IsOwnerState width) (IsCountable width) (λ region state is. record {
  zones = is.zones;
  pending = pending_fits state is.keeps;
  published = λ c below. (let low = (is.keeps.small c below).0 in let high = (is.keeps.small c below).1 in (omega (arith, ints), omega (arith, ints)));
  counted = λ c below. (let most = few state.part is.keeps.rules c in (omega (arith, ints), omega (arith, ints)));
})

-- an amount for each cell of an owner: what it has published, what is pending of it, and its count
abbrev pub nets : OwnerState → ℕ → ℤ
nets state c = net_of state.view c

abbrev pub deltas : OwnerState → ℕ → ℤ
deltas state c = delta_at state.pending c

abbrev pub counts : OwnerState → ℕ → ℤ
counts state c = pos (count_of state.part c)

-- the amounts of the first i of some owners, added to what was there, which is at most a number
pub record AreAdded (amount : OwnerState → ℕ → ℤ) (most : ℕ) (states : List OwnerState) (start sums : ℕ → ℤ) (i : ℕ) : Type 0 where
  pub few : (c : ℕ) → c < CELLS → IsAtMost most (start c)
  pub added : (c : ℕ) → c < CELLS → sums c ≡ start c +ℤ sum_ints (λ (state : OwnerState). amount state c) (take i states)

module _ (amount : OwnerState → ℕ → ℤ) (most : ℕ) (states : List OwnerState) (start : ℕ → ℤ) where
  pub none_added : ((c : ℕ) → c < CELLS → IsAtMost most (start c)) → AreAdded amount most states start start 0
  none_added few = record { few = few; added = λ c below. omega (arith, ints) }

  -- they are small
  pub added_small : (width i : ℕ) (sums : ℕ → ℤ) → ((state : OwnerState) → IsCountable width state → (c : ℕ) → c < CELLS → IsAtMost state_most (amount state c)) → AllByRecursion (IsCountable width) states
      → length states ≤ 32 → AreAdded amount most states start sums i → (c : ℕ) → c < CELLS → IsAtMost (most + 2 ^ 46) (sums c)
  added_small width i sums is_small each few so_far c below =
      let f = λ (state : OwnerState). amount state c in
      let small = each-weaker {P = IsCountable width} {Q = λ (state : OwnerState). IsAtMost state_most (amount state c)} (λ state is. is_small state is c below) states each in
      let part = sum_small f (take i states) (each_take (λ (state : OwnerState). IsAtMost state_most (amount state c)) states i small) in
      (omega (arith, ints, length-take i states, so_far.few c below, so_far.added c below), omega (arith, ints, length-take i states, so_far.few c below, so_far.added c below))

  -- one more
  pub one_added : (i : ℕ) (state : OwnerState) (sums more : ℕ → ℤ) → i < length states → state ≡ get_or states i state → AreAdded amount most states start sums i
      → ((c : ℕ) → c < CELLS → more c ≡ sums c +ℤ amount state c) → AreAdded amount most states start more (i + 1)
  one_added i state sums more within is so_far step = record {
    few = so_far.few;
    added = λ c below. (let now = step c below in let sum = so_far.added c below in let next = sum_more (λ (o : OwnerState). amount o c) states i state within is in omega (arith, ints));
  }

  -- all
  pub all_added : (i : ℕ) (sums : ℕ → ℤ) → length states ≤ i → AreAdded amount most states start sums i → (c : ℕ) → c < CELLS
      → sums c ≡ start c +ℤ sum_ints (λ (state : OwnerState). amount state c) states
  all_added i sums past so_far c below = rw (take_all i states past) at (so_far.added c below)

-- what is pending of all owners, as a sum
pub pending_is : (states : List OwnerState) (c : ℕ) → sum_ints (λ (state : OwnerState). delta_at state.pending c) states ≡ pending_in states c
pending_is [] c = refl
pending_is (state ∷ states) c = ap (λ (sum : ℤ). delta_at state.pending c +ℤ sum) (pending_is states c)

-- all owners
module _ (h : OwnersState) (are : AreOwners h) where
  -- there are at most thirty-two
  pub few_states : length (states_in h.owners) ≤ 32
  few_states =
      let pieces = most_pieces (pieces_of h.regions) are.are.numbered are.are.distinct in
      omega (arith, are.are.few_parts, length_regions h.regions, AllZip-long (IsRegionOwner h.width) h.regions h.owners are.each, length-map h.owners state_of)

  pub countable : AllByRecursion (IsCountable h.width) (states_in h.owners)
  countable = each_countable h.width h.regions (states_in h.owners) (owned h.width h.regions h.owners are.each)

  -- an owner with an index is one of them
  pub state_within : (i : ℕ) → i < length h.owners → i < length (states_in h.owners)
  state_within i lt = rw (length-map h.owners state_of) lt

  pub one_countable : (i : ℕ) (s : RegionOwner) → i < length h.owners → s ≡ get_or h.owners i s → IsCountable h.width (state_of s)
  one_countable i s lt is = rw (state_is h.owners i s is) (each_at (IsCountable h.width) (states_in h.owners) i (state_of s) countable (state_within i lt))

  module _ (board : TableId) (rules : AreDesks board h.spare (desks_in h.owners)) (c : ℕ) (below : c < CELLS) where
    -- a cell as published is what all owners have published
    pub published_is : sum_ints (λ (state : OwnerState). net_of state.view c) (states_in h.owners) ≡ published (store_in h) c
    published_is =
        let wide = each-weaker {P = IsOfBoard board} {Q = λ (d : DeskState). IsWide d.view} (λ d is. is.wide) (h.spare ∷ desks_in h.owners) rules.of_board in
        let idle = net_none h.spare.view c (λ slot own. rules.shares.idle slot own c below) in
        omega (arith, ints, nets_of_desks (h.spare ∷ desks_in h.owners) c below wide, nets_same h.owners)
      where
        nets_same : (owners : List RegionOwner) → sum_ints (λ (d : DeskState). net_of d.view c) (desks_in owners) ≡ sum_ints (λ (state : OwnerState). net_of state.view c) (states_in owners)
        nets_same [] = refl
        nets_same (Part l ∷ owners) = let rest = nets_same owners in omega (arith, ints)
        nets_same (Piece b ∷ owners) = let rest = nets_same owners in let none = nobody_net c in omega (arith, ints)

    -- what is pending of all owners is the count over all rows less what is published
    pub unposted_is : unposted h.owners c ≡ unpublished (store_in h) c
    unposted_is =
        let law = states_counted h.width 1 h.regions (states_in h.owners) c below (owned h.width h.regions h.owners are.each) are.are.consecutive in
        omega (arith, ints, published_is, pending_is (states_in h.owners) c)

    -- the nets of all owners, added to zeros, are what is published
    pub added_published : (i : ℕ) (zeros sums : List ℤ) → ((k : ℕ) → delta_at zeros k ≡ pos 0) → length h.owners ≤ i
        → AreAdded nets 0 (states_in h.owners) (delta_at zeros) (delta_at sums) i → delta_at sums c ≡ published (store_in h) c
    added_published i zeros sums none past added =
        let sum = all_added nets 0 (states_in h.owners) (delta_at zeros) i (delta_at sums) (omega (arith, length-map h.owners state_of)) added c below in
        omega (arith, ints, none c, published_is)

-- what is pending of all owners, added to zeros, is their sum
pub added_pending : (owners : List RegionOwner) (i : ℕ) (zeros sums : List ℤ) → ((k : ℕ) → delta_at zeros k ≡ pos 0) → length owners ≤ i
    → AreAdded deltas 0 (states_in owners) (delta_at zeros) (delta_at sums) i → (c : ℕ) → c < CELLS → delta_at sums c ≡ unposted owners c
added_pending owners i zeros sums none past added c below =
    let sum = all_added deltas 0 (states_in owners) (delta_at zeros) i (delta_at sums) (omega (arith, length-map owners state_of)) added c below in
    omega (arith, ints, none c, pending_is (states_in owners) c)

-- and the counts of all, added to zeros, are those of all rows
pub added_counts : (h : OwnersState) (are : AreOwners h) (i : ℕ) (zeros sums : List ℕ) → ((k : ℕ) → get_or zeros k 0 ≡ 0) → length h.owners ≤ i
    → AreAdded counts 0 (states_in h.owners) (λ c. pos (get_or zeros c 0)) (λ c. pos (get_or sums c 0)) i → (c : ℕ) → c < CELLS → get_or sums c 0 ≡ cell h.width c (book_in h.owners)
added_counts h are i zeros sums none past added c below =
    let sum = all_added counts 0 (states_in h.owners) (λ k. pos (get_or zeros k 0)) i (λ k. pos (get_or sums k 0)) (omega (arith, length-map h.owners state_of)) added c below in
    omega (arith, ints, none c, cells_added h.width 1 h.regions (states_in h.owners) c (owned h.width h.regions h.owners are.each) are.are.consecutive)
