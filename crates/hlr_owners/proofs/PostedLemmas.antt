-- A posting of one desk among all, and of a part among all owners.
use Rattle.hlr_owners.proofs.Common.{◌≡◌, ◌∙◌, refl, sym, ap, ℕ, zero, suc, ◌+◌, ◌<◌, ◌≤◌, arith, List, [], ◌∷◌, length, get_or, set, take, true, false, not, map, ℤ, pos, ◌-ℤ◌, sum_by, AllByRecursion, filter, range_with_len, map-set, sum_by-cons, sum_by-set, get_or-map, TableId, by_test, each_at, CELLS, DeskState, with_view, IsWide, posted, is_worn, View, SLOTS, wide_posted, is_zero, due, post_cells, owns_one, words_of, slots_in, HasOneSlot, IsOfBoard, AreDesks, raise_cells, post, net, Some, None, find, Result, Err, position, map-set_same, length-map, slice_get_read, slice_get_past, Refusal, book_of, PartState, is_part, Region, find_index, past_parts, blank, set_within, HoldingState, IsHolding, count_of, OwnerState, of_holding, Store, slots_of, PartOwnerState, IsPosting, states_in, book_in, desks_in, store_in, OwnersState, AreOwners, Part, OwnsAlone}
use Rattle.holding.specs.Post as single
use Rattle.holding.specs.Post.{all_cells}
use Rattle.hlr_owners.proofs.ListLemmas.{each_filtered, each_take, set_same}
use Rattle.hlr_owners.proofs.DeskLemmas.{same_one, words_with, words_posted, word_here, net_of_slots, least_of_slots}
use Rattle.tatp_rows.specs.declared.refusal.Refusal.TheVariants as refusal
use Rattle.hlr_owners.proofs.HalvesLemmas.{HasRows}
use Rattle.hlr_owners.proofs.PartLemmas.{at_number, set_number, count_parts, part_has_place, part_owner_at}
use Rattle.hlr_owners.proofs.RegionOwnerLemmas.{states-set, state_is, exchanged}

-- cells of which each has the same gap in two ways
abbrev AreSameGaps : (ℕ → ℤ) → (ℕ → ℤ) → List ℕ → Type 0
AreSameGaps gap gaps cells = AllByRecursion (λ c. (c < CELLS) × (gap c ≡ gaps c)) cells

cells_same : (gap gaps : ℕ → ℤ) (a n : ℕ) → a + n ≤ CELLS → ((c : ℕ) → c < CELLS → gap c ≡ gaps c) → AreSameGaps gap gaps (range_with_len a n)
cells_same gap gaps a zero within same = tt
cells_same gap gaps a (suc n) within same = ((omega arith, same a (omega arith)), cells_same gap gaps (a + 1) n (omega arith) same)

open_same : (gap gaps : ℕ → ℤ) (cells : List ℕ) → AreSameGaps gap gaps cells → filter (λ c. not (is_zero (gap c))) cells ≡ filter (λ c. not (is_zero (gaps c))) cells
open_same gap gaps [] same = refl
open_same gap gaps (c ∷ cells) same =
    let rest = open_same gap gaps cells same.1 in
    by_test (is_zero (gaps c)) (λ e. rw (same.0.1, e) rest) (λ e. rw (same.0.1, e) (ap (λ cs. c ∷ cs) rest))

-- the same cells are due
due_same : (gap gaps : ℕ → ℤ) (limit : ℕ) → ((c : ℕ) → c < CELLS → gap c ≡ gaps c) → (due gap limit ≡ due gaps limit) × AreSameGaps gap gaps (due gap limit)
unfolding all_cells
due_same gap gaps limit same =
    let all = cells_same gap gaps 0 CELLS (omega arith) same in (
      ap (take limit) (open_same gap gaps (range_with_len 0 CELLS) all),
      each_take (λ c. (c < CELLS) × (gap c ≡ gaps c)) (filter (λ c. not (is_zero (gap c))) (range_with_len 0 CELLS)) limit
          (each_filtered (λ c. not (is_zero (gap c))) (λ c. (c < CELLS) × (gap c ≡ gaps c)) (range_with_len 0 CELLS) all),
    )

-- what holds of each holds with another one in the place of one
each_set : {X : Type 0} (P : X → Type 0) (xs : List X) (p : ℕ) (x : X) → AllByRecursion P xs → P x → AllByRecursion P (set xs p x)
each_set P [] p x each new = tt
each_set P (first ∷ xs) zero x each new = (new, each.1)
each_set P (first ∷ xs) (suc p) x each new = (each.0, each_set P xs p x each.1 new)

-- a desk of the same board is one that knows something else
pub desk_is : (before after : DeskState) → after.board ≡ before.board → after ≡ with_view before after.view
desk_is before after same = ap (λ board. record { board = board; view = after.view }) same

module _ (desks : List DeskState) (p : ℕ) (desk : DeskState) (within : p < length desks) (is : desk ≡ get_or desks p desk) (once : (slot : ℕ) → slot < SLOTS → sum_by (owns_one slot) desks ≡ 1)
    (wide : IsWide desk.view) (slot : ℕ) (in_board : slot < SLOTS) (own : OwnsAlone desk.view slot) where
  -- the words where the desk knows something else
  abbrev words_then : View → List ℕ
  words_then view = words_with desks p desk within is view

  -- cells that are posted one after another
  posted_same : (gap gaps : ℕ → ℤ) (cells : List ℕ) (done : ℕ) (view : View) → AreSameGaps gap gaps cells → view.owned ≡ desk.view.owned → IsWide view
      → (raise_cells gap slot cells done (words_then view)
      ≡ ((post_cells gaps slot cells done view).0, words_then (post_cells gaps slot cells done view).1))
      × IsWide (post_cells gaps slot cells done view).1
  posted_same gap gaps [] done view same owned now = (refl, now)
  posted_same gap gaps (c ∷ cells) done view same owned now =
      let here = word_here desks p desk within is slot own.0 in_board view c (gaps c) (once slot in_board) owned same.0.0 in
      let more = words_posted desks p desk within is slot own.0 in_board view c (gaps c) owned now same.0.0 in
      by_test (is_worn view.numbers slot c (gaps c))
      (λ e. let worn : is_worn (words_then view) slot c (gaps c) ≡ true = rw here e in rw (same.0.1, worn, e) (refl, now))
      (λ e. let fits : is_worn (words_then view) slot c (gaps c) ≡ false = rw here e in
      let rest = posted_same gap gaps cells (done + 1) (posted view slot c (gaps c)) same.1 owned (wide_posted view slot c (gaps c) now) in
      rw (same.0.1, fits, e, ← more) rest)

  -- a posting of the desk is one of its slots
  pub post_same : (count : ℕ → ℕ) (limit : ℕ)
      → (post count (slots_in desk) limit (words_of desks) ≡ ((single.post count slot limit desk.view).0, words_with desks p desk within is (single.post count slot limit desk.view).1))
      × IsWide (single.post count slot limit desk.view).1
  post_same count limit =
      let gap = λ (c : ℕ). pos (count c) -ℤ net (words_of desks) (slots_in desk) c in
      let gaps = single.gap count desk.view in
      let same = due_same gap gaps limit (λ c below. ap (λ (z : ℤ). pos (count c) -ℤ z) (net_of_slots desks p desk within is once wide c below)) in
      let start : words_with desks p desk within is desk.view ≡ words_of desks = ap words_of (set_same desks p desk is) in
      let all = posted_same gap gaps (due gap limit) 0 desk.view same.1 refl wide in
      let first = ap (λ (words : List ℕ). raise_cells gap slot (due gap limit) 0 words) (sym start) ∙ all.0 in
      rw (least_of_slots desk slot in_board own, ← same.0) (first, all.1)

-- where one desk posted, the rules are kept
pub desks_posted : (board : TableId) (spare : DeskState) (desks : List DeskState) (p : ℕ) (before after : DeskState) → p < length desks → before ≡ get_or desks p before → AreDesks board spare desks
    → after.board ≡ before.board → after.view.owned ≡ before.view.owned → IsWide after.view → AreDesks board spare (set desks p after)
desks_posted board spare desks p before after within is rules same owned wide = record {
  of_board = (rules.of_board.0, each_set (IsOfBoard board) desks p after rules.of_board.1 (record { same = same ∙ of.same; wide = wide }));
  shares = record {
    once = λ slot below. (
        let sum = rw (← is) at (sum_by-set (owns_one slot) desks p after before within) in
        let one : owns_one slot after ≡ owns_one slot before = rw owned refl in
        let was = sum_by-cons (owns_one slot) spare desks in
        let now = sum_by-cons (owns_one slot) spare (set desks p after) in
        let all = rules.shares.once slot below in
        omega arith);
    alone = each_set HasOneSlot desks p after rules.shares.alone (same_one before after owned one);
    idle = rules.shares.idle;
  };
}
  where
    of : IsOfBoard board before
    of = rw is (each_at (IsOfBoard board) desks p before rules.of_board.1 within)

    one : HasOneSlot before
    one = rw is (each_at HasOneSlot desks p before rules.shares.alone within)

-- and each desk has its slots
pub slots_posted : (desks : List DeskState) (p : ℕ) (before after : DeskState) → before ≡ get_or desks p before → after.view.owned ≡ before.view.owned → map slots_in (set desks p after) ≡ map slots_in desks
slots_posted desks p before after is owned =
    let same : slots_in after ≡ slots_in before = rw owned refl in
    map-set slots_in desks p after ∙ ap (λ slots. set (map slots_in desks) p slots) same ∙ set_same (map slots_in desks) p (slots_in before) (ap slots_in is ∙ sym (get_or-map slots_in desks p before))

-- a posting of the slots of a part is a right one of the store
right_posting : (store : Store) (region : Region) (before : HoldingState) (p limit : ℕ) (posted : Result ℕ Refusal) (words' slots : List ℕ) → slots_of store p ≡ Some slots
    → find (is_part p) store.regions ≡ Some region → HasRows store.book region (of_holding before) → before.part.width ≡ store.width
    → (posted, words') ≡ post (count_of before.part) slots limit store.words
    → IsPosting (slots_of store p) p limit store posted (record store { words = words' })
right_posting store region before p limit posted words' slots has_slots found has zones done = rw (has_slots, found, has, ← zones, ← done) (refl, refl)

-- without the part it is refused
pub none_posted : (h : OwnersState) (are : AreOwners h) (p limit : ℕ) → position (is_part p) h.regions ≡ None → IsPosting (slots_of (store_in h) p) p limit (store_in h) (Err refusal.NoPart) (store_in h)
none_posted h are p limit none =
    let past = past_parts p h.regions are.are none in
    let count = count_parts (λ (o : PartOwnerState). o.holding.desk) h.width h.regions h.owners are.each in
    let long = length-map (desks_in h.owners) slots_in in
    let e : slots_of (store_in h) p ≡ None = slice_get_past (map slots_in (desks_in h.owners)) p (omega arith) in
    rw e (refl, refl)

module _ (h : OwnersState) (are : AreOwners h) (board : TableId) (rules : AreDesks board h.spare (desks_in h.owners)) (p i : ℕ) (index : position (is_part p) h.regions ≡ Some i)
    (l : PartOwnerState) (is : Part l ≡ get_or h.owners i (Part l)) where
  number : (p < length (desks_in h.owners)) × (l.holding.desk ≡ get_or (desks_in h.owners) p l.holding.desk)
  number = at_number h are p i index (λ (o : PartOwnerState). o.holding.desk) l is l.holding.desk

  -- the desk is the board's
  of_board : IsOfBoard board l.holding.desk
  of_board = rw number.1 (each_at (IsOfBoard board) (desks_in h.owners) p l.holding.desk rules.of_board.1 number.0)

  pub posted_before : l.holding.desk.board ≡ board
  posted_before = of_board.same

  -- and has one slot
  pub part_slot : HasOneSlot l.holding.desk
  part_slot = rw number.1 (each_at HasOneSlot (desks_in h.owners) p l.holding.desk rules.shares.alone number.0)

  -- the slots of the part
  part_slots : slots_of (store_in h) p ≡ Some (slots_in l.holding.desk)
  part_slots = slice_get_read (map slots_in (desks_in h.owners)) (length (desks_in h.owners)) p (slots_in l.holding.desk) (sym (length-map (desks_in h.owners) slots_in)) number.0
      (ap slots_in number.1 ∙ sym (get_or-map slots_in (desks_in h.owners) p l.holding.desk))

  -- its rows
  rows_here : HasRows (book_in h.owners) (get_or h.regions i blank) (of_holding l.holding)
  rows_here = (part_owner_at h are p i index (Part l) is).state.has

  module _ (m : PartOwnerState) (limit : ℕ) (posted : Result ℕ Refusal) (lawful : IsHolding l.holding) (done : (posted, m.holding.desk.view) ≡ single.post (count_of l.holding.part) l.holding.slot limit l.holding.desk.view)
      (same : m.holding.part ≡ l.holding.part) (desk : (m.holding.desk.board ≡ l.holding.desk.board) × (m.holding.desk.view.owned ≡ l.holding.desk.view.owned) × (m.holding.slot ≡ l.holding.slot)) where
    in_board : l.holding.slot < SLOTS
    in_board = let low = set_within l.holding.desk.view.owned l.holding.slot lawful.slot.0 in let long = of_board.wide.slots in omega arith

    core : (post (count_of l.holding.part) (slots_in l.holding.desk) limit (words_of (h.spare ∷ desks_in h.owners)) ≡ (posted, words_of (h.spare ∷ set (desks_in h.owners) p m.holding.desk))) × IsWide m.holding.desk.view
    core =
        let alone : OwnsAlone l.holding.desk.view l.holding.slot = (lawful.slot.0, λ other own. part_slot.1.1 other own ∙ sym (part_slot.1.1 l.holding.slot lawful.slot.0)) in
        let all = post_same (h.spare ∷ desks_in h.owners) (suc p) l.holding.desk (omega (arith, number.0)) number.1 rules.shares.once of_board.wide l.holding.slot in_board alone (count_of l.holding.part) limit in
        let is_now = desk_is l.holding.desk m.holding.desk desk.0 in
        let told = ap (λ (answer : Result ℕ Refusal × View). answer.0) done in
        let knows = ap (λ (answer : Result ℕ Refusal × View). answer.1) done in
        rw is_now (rw (← told, ← knows) at all)

    desks_now : desks_in (set h.owners i (Part m)) ≡ set (desks_in h.owners) p m.holding.desk
    desks_now = set_number h are p i index (λ (o : PartOwnerState). o.holding.desk) l is m

    pub posted_desks : AreDesks board h.spare (desks_in (set h.owners i (Part m)))
    posted_desks = rw desks_now (desks_posted board h.spare (desks_in h.owners) p l.holding.desk m.holding.desk number.0 number.1 rules desk.0 desk.1 core.1)

    pub posted_ruled : IsHolding m.holding → AreOwners (record h { owners = set h.owners i (Part m) })
    posted_ruled keeps = exchanged h are i l m is (part_has_place h are p i index) (ap (λ (part : PartState). part.lo) same, ap (λ (part : PartState). part.hi) same, ap (λ (part : PartState). part.width) same) keeps

    book_now : book_in (set h.owners i (Part m)) ≡ book_in h.owners
    book_now =
        let parts = λ (states : List OwnerState). map (λ (state : OwnerState). state.part) states in
        ap (λ (states : List OwnerState). book_of (parts states)) (states-set h.owners i (Part m))
        ∙ ap book_of (map-set_same (λ (state : OwnerState). state.part) (states_in h.owners) i (of_holding m.holding) (of_holding l.holding) (same ∙ ap (λ (state : OwnerState). state.part) (state_is h.owners i (Part l) is)))

    -- it is a right one
    pub posted_right : IsPosting (slots_of (store_in h) p) p limit (store_in h) posted (store_in (record h { owners = set h.owners i (Part m) }))
    posted_right =
        let slots = slots_posted (desks_in h.owners) p l.holding.desk m.holding.desk number.1 desk.1 in
        rw (desks_now, book_now, slots)
        (right_posting (store_in h) (get_or h.regions i blank) l.holding p limit posted (words_of (h.spare ∷ set (desks_in h.owners) p m.holding.desk)) (slots_in l.holding.desk)
        part_slots (find_index (is_part p) h.regions i blank index) rows_here (part_owner_at h are p i index (Part l) is).state.is.zones (sym core.0))
