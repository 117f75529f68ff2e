-- The slots of the board, shared out among desks one after another.
use Rattle.hlr_owners.proofs.Common.{map-range_with_len_more, ◌≡◌, ◌≢◌, ◌∙◌, refl, sym, ap, ℕ, ◌+◌, ◌*◌, ◌/◌, ◌<◌, ◌≤◌, arith, List, [], ◌∷◌, ◌++◌, length, get_or, set, map, replicate, true, false, Bool, inl, inr, pos, sum_by, AllByRecursion, range_with_len, cases_eq, ints, length-append, get_or-replicate, length-replicate, length-set, map-append, get_or-set_same, get_or-set_other, ext_get_or, sum_by-cons, sum_by_push, TableId, blank_at, by_test, CELLS, each-append, DeskState, with_view, net_of, owned_at, Owns, IsWide, first_view, alone, without, slot_net, plus_word, minus_word, View, SLOTS, SLOT_WORDS, WORDS, length-each_word, set_within, HasSmallNets, owns_one, own_number, words_of, slots_in, HasOneSlot, IsOfBoard, AreDesks, AreLevel, AreOpening, owns_alone}
use Rattle.view_board.specs.Nets.{net_from}
use Rattle.hlr_owners.specs.Words.{blank_words}
use Rattle.hlr_owners.proofs.DeskLemmas.{only_listed, words_at}

-- the first slots are desks' own, one each, the spare desk has the others and has seen the words, and all desks have
-- their numbers
pub record AreShared (words : List ℕ) (spare : DeskState) (desks : List DeskState) : Type 0 where
  pub left : (slot : ℕ) → length desks ≤ slot → slot < SLOTS → Owns spare.view slot
  pub once : (slot : ℕ) → slot < SLOTS → sum_by (owns_one slot) (spare ∷ desks) ≡ 1
  pub alone : AllByRecursion HasOneSlot desks
  pub numbers : AllByRecursion (λ d. d.view.numbers ≡ words) (spare ∷ desks)
  pub slots : map slots_in desks ≡ map (λ p. p ∷ []) (range_with_len 0 (length desks))
  pub seen : spare.view.seen ≡ words

-- at first the spare desk has all
pub none_shared : (words : List ℕ) (spare : DeskState) (desks : List DeskState) → spare.view ≡ first_view words → desks ≡ [] → AreShared words spare desks
none_shared words spare desks first none = rw none (record {
  left = λ slot from below. own slot below;
  once = λ slot below. rw (sum_by-cons (owns_one slot) spare [], own slot below) refl;
  alone = tt;
  numbers = (ap (λ (v : View). v.numbers) first, tt);
  slots = refl;
  seen = ap (λ (v : View). v.seen) first;
})
  where
    own : (slot : ℕ) → slot < SLOTS → Owns spare.view slot
    own slot below = rw first (get_or-replicate SLOTS slot true false below)

-- and is of the board
pub first_of_board : (words : List ℕ) (board : TableId) (spare : DeskState) → spare.board ≡ board → spare.view ≡ first_view words → length words ≡ WORDS → IsOfBoard board spare
first_of_board words board spare same first wide = record { same = same; wide = rw first (record { slots = length-replicate SLOTS true; numbers = wide; seen = wide }) }

-- a desk that is split off has no other slot
alone_else : (v : View) (slot other : ℕ) → other ≢ slot → owned_at (alone v slot) other ≡ false
alone_else v slot other differ = get_or-set_other (replicate SLOTS false) slot other true false differ ∙ blank_at SLOTS other false

-- each slot of a desk is either of the two that it is split into
pub split_once : (desk : DeskState) (slot other : ℕ) → slot < SLOTS → IsWide desk.view → Owns desk.view slot
    → owns_one other (with_view desk (without desk.view slot)) + owns_one other (with_view desk (alone desk.view slot)) ≡ owns_one other desk
split_once desk slot other below wide own = elim (cases_eq other slot) [
  | inl same ↦ (let left = get_or-set_same desk.view.owned slot false false (rw wide.slots below) in rw (same, left, (owns_alone desk.view slot below).0, own) refl)
  | inr differ ↦ rw (get_or-set_other desk.view.owned slot other false false differ, alone_else desk.view slot other differ) (omega arith)
]

-- lists of one number each, with one more
numbered_more : (n : ℕ) → map (λ p. p ∷ []) (range_with_len 0 n) ++ (n ∷ []) ∷ [] ≡ map (λ p. p ∷ []) (range_with_len 0 (n + 1))
numbered_more n = sym (map-range_with_len_more (λ p. p ∷ []) 0 n n (omega arith))

-- one more slot is split off
module _ (words : List ℕ) (spare : DeskState) (desks : List DeskState) (slot : ℕ) (below : slot < SLOTS) (next : slot ≡ length desks) where
  pub one_of_board : (board : TableId) → AllByRecursion (IsOfBoard board) (spare ∷ desks)
      → AllByRecursion (IsOfBoard board) (with_view spare (without spare.view slot) ∷ desks ++ with_view spare (alone spare.view slot) ∷ [])
  one_of_board board each = (
    record { same = each.0.same; wide = record { slots = length-set spare.view.owned slot false ∙ each.0.wide.slots; numbers = each.0.wide.numbers; seen = each.0.wide.seen } },
    each-append (IsOfBoard board) desks (with_view spare (alone spare.view slot) ∷ []) each.1
        (record { same = each.0.same; wide = record { slots = length-set (replicate SLOTS false) slot true ∙ length-replicate SLOTS false; numbers = each.0.wide.numbers; seen = each.0.wide.seen } }, tt),
  )

  pub one_shared : IsWide spare.view → AreShared words spare desks → AreShared words (with_view spare (without spare.view slot)) (desks ++ with_view spare (alone spare.view slot) ∷ [])
  one_shared wide so_far = record {
    left = λ other from within. get_or-set_other spare.view.owned slot other false false (let more = long in omega arith) ∙ so_far.left other (let more = long in omega arith) within;
    once = λ other within. (
        let was = so_far.once other within in
        let head = sum_by-cons (owns_one other) spare desks in
        let now = sum_by-cons (owns_one other) (with_view spare (without spare.view slot)) (desks ++ with_view spare (alone spare.view slot) ∷ []) in
        let push = sum_by_push (owns_one other) desks (with_view spare (alone spare.view slot)) in
        let moved = split_once spare slot other below wide (so_far.left slot (omega arith) below) in
        omega arith);
    alone = each-append HasOneSlot desks (with_view spare (alone spare.view slot) ∷ []) so_far.alone ((slot, owns_alone spare.view slot below), tt);
    numbers = (so_far.numbers.0, each-append (λ (d : DeskState). d.view.numbers ≡ words) desks (with_view spare (alone spare.view slot) ∷ []) so_far.numbers.1 (so_far.numbers.0, tt));
    slots = map-append slots_in desks (with_view spare (alone spare.view slot) ∷ []) ∙ rw (so_far.slots, only_listed (with_view spare (alone spare.view slot)) slot below (owns_alone spare.view slot below), long, next) (numbered_more (length desks));
    seen = so_far.seen;
  }
    where
      long : length (desks ++ with_view spare (alone spare.view slot) ∷ []) ≡ length desks + 1
      long = length-append desks (with_view spare (alone spare.view slot) ∷ [])

-- a desk over level words has published nothing, in all and in each slot
net_level : (words : List ℕ) (c : ℕ) (flags : List Bool) (start : ℕ) → AreLevel words → c < CELLS → start + length flags ≤ SLOTS → net_from flags start words c ≡ pos 0
unfolding net_from
net_level words c [] start level below within = refl
net_level words c (flag ∷ flags) start level below within =
    let rest = net_level words c flags (start + 1) level below (omega arith) in
    let same = level start (omega arith) c below in
    let none : slot_net words c start ≡ pos 0 = omega (arith, ints) in
    rw (rest, none) (by_test flag (λ e. rw e refl) (λ e. rw e refl))

level_idle : (words : List ℕ) (v : View) → AreLevel words → IsWide v → v.numbers ≡ words → (slot : ℕ) → Owns v slot → (c : ℕ) → c < CELLS → slot_net v.numbers c slot ≡ pos 0
level_idle words v level wide same slot own c below =
    let here = level slot (omega (arith, wide.slots, set_within v.owned slot own)) c below in
    rw same (omega (arith, ints))

pub level_small : (words : List ℕ) (v : View) (slot : ℕ) → AreLevel words → IsWide v → v.numbers ≡ words → HasSmallNets (alone v slot)
level_small words v slot level wide same c below =
    let long : length (set (replicate SLOTS false) slot true) ≡ SLOTS = length-set (replicate SLOTS false) slot true ∙ length-replicate SLOTS false in
    let none : net_of (alone v slot) c ≡ pos 0 = rw same (net_level words c (set (replicate SLOTS false) slot true) 0 level below (omega arith)) in
    (omega (arith, ints), omega (arith, ints))

-- the words of the board are those that it was opened with
same_sum : (words : List ℕ) (w : ℕ) (desks : List DeskState) → AllByRecursion (λ d. d.view.numbers ≡ words) desks → sum_by (own_number w) desks ≡ sum_by (owns_one (w / SLOT_WORDS)) desks * get_or words w 0
same_sum words w [] each = omega arith
same_sum words w (d ∷ desks) each =
    let rest = same_sum words w desks each.1 in
    let numbers = sum_by-cons (own_number w) d desks in
    let slots = sum_by-cons (owns_one (w / SLOT_WORDS)) d desks in
    by_test (owned_at d.view (w / SLOT_WORDS))
    (λ e. let mine : own_number w d ≡ get_or words w 0 = rw (e, each.0) refl in let one : owns_one (w / SLOT_WORDS) d ≡ 1 = rw e refl in rw (numbers, slots, mine, one, rest) (omega arith))
    (λ e. let mine : own_number w d ≡ 0 = rw e refl in let one : owns_one (w / SLOT_WORDS) d ≡ 0 = rw e refl in rw (numbers, slots, mine, one, rest) (omega arith))

pub shared_words : (words : List ℕ) (spare : DeskState) (desks : List DeskState) → AreShared words spare desks → length words ≡ WORDS → words_of (spare ∷ desks) ≡ words
shared_words words spare desks shared wide =
    ext_get_or 0 (words_of (spare ∷ desks)) words (length-each_word (λ w. sum_by (own_number w) (spare ∷ desks)) ∙ sym wide)
    (λ w within.
    let low : w < WORDS = rw (length-each_word (λ k. sum_by (own_number k) (spare ∷ desks))) at within in
    let once = shared.once (w / SLOT_WORDS) (omega arith) in
    words_at (spare ∷ desks) w low ∙ same_sum words w (spare ∷ desks) shared.numbers ∙ ap (λ n. n * get_or words w 0) once ∙ omega arith)

-- so they keep the rules of desks
pub shared_desks : (words : List ℕ) (board : TableId) (spare : DeskState) (desks : List DeskState) → AreLevel words → AllByRecursion (IsOfBoard board) (spare ∷ desks) → AreShared words spare desks → AreDesks board spare desks
shared_desks words board spare desks level each shared =
    record { of_board = each; shares = record { once = shared.once; alone = shared.alone; idle = level_idle words spare.view level each.0.wide shared.numbers.0 } }

-- words that are all 0 are blank, and a register may open with them
pub zeros_are : replicate {A = ℕ} WORDS 0 ≡ blank_words
unfolding blank_words
zeros_are = refl

pub zeros_opening : AreOpening (replicate WORDS 0)
zeros_opening = record {
  small = λ w. let zero : get_or (replicate {A = ℕ} WORDS 0) w 0 ≡ 0 = blank_at {A = ℕ} WORDS w 0 in omega arith;
  level = λ slot in_board c below. blank_at {A = ℕ} WORDS (plus_word slot c) 0 ∙ sym (blank_at {A = ℕ} WORDS (minus_word slot c) 0);
}
