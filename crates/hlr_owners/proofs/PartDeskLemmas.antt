-- The desks where a part is divided, and where one is dissolved: the rules are kept, and what becomes of the words.
use Rattle.hlr_owners.proofs.Common.{◌≡◌, ◌∙◌, refl, sym, ap, ℕ, suc, ◌+◌, ◌/◌, ◌%◌, ◌<◌, ◌≤◌, ◌≢◌, ◌==◌, max, nat_lt, arith, List, [], ◌∷◌, length, get_or, map, Bool, true, false, inl, inr, Some, insert, remove, slice_get, pos, sum_by, AllByRecursion, or-false, cases_eq, cases_lt, nat_tests, get_or_past, ext_get_or, sum_by-cons, sum_by-insert, sum_by-remove, slice_get_within, get_or_from_slice_get, TableId, by_test, each_at, CELLS, DeskState, with_view, owned_at, Owns, IsLeastSlot, IsWide, alone, without, both, taken_back, each_word, plus_word, minus_word, twin_of, leveled, slot_net, SLOTS, SLOT_WORDS, WORDS, again, owned_by_one, owned_by_both, number_theirs, number_ours, seen_both, not_theirs, each_slot_at, length-each_slot, each_word_at, length-each_word, set_within, IsBlankDesk, own_number, owns_one, words_of, slots_in, HasOneSlot, IsOfBoard, AreDesks, free_slot, least_slot, no_net, leveled_here, level_of, owns_alone, wide_alone, wide_without, net_none, only_slot, was_owned, each-append, take, drop, ◌||◌, if◌then◌else◌}
use Rattle.hlr_owners.proofs.DeskLemmas.{words_at, none_owns, one_owns, sole_number, least_of_slots, only_listed}
use Rattle.hlr_owners.proofs.ListLemmas.{each_take, each_drop}
use Rattle.hlr_owners.proofs.SightLemmas.{has_slot, free_is}
use Rattle.hlr_owners.proofs.ShareLemmas.{split_once}

-- what holds of each holds with one more, and without one
each_insert : {X : Type 0} (P : X → Type 0) (xs : List X) (i : ℕ) (x : X) → AllByRecursion P xs → P x → AllByRecursion P (insert xs i x)
each_insert P xs i x each new = each-append P (take i xs) (x ∷ drop i xs) (each_take P xs i each) (new, each_drop P xs i each)

each_remove : {X : Type 0} (P : X → Type 0) (xs : List X) (i : ℕ) → AllByRecursion P xs → AllByRecursion P (remove xs i)
each_remove P xs i each = each-append P (take i xs) (drop (suc i) xs) (each_take P xs i each) (each_drop P xs (suc i) each)

-- a number that either of two desks has, where their flags add up to that of one desk
number_of_two : (one other whole : Bool) (n : ℕ) → (if one then 1 else 0) + (if other then 1 else 0) ≡ (if whole then 1 else 0)
    → (if one then n else 0) + (if other then n else 0) ≡ (if whole then n else 0)
number_of_two one other whole n sum = grind (arith, nat_tests)

module _ (board : TableId) (spare : DeskState) (desks : List DeskState) (rules : AreDesks board spare desks) where
  spare_wide : IsWide spare.view
  spare_wide = rules.of_board.0.wide

  -- where there are fewer parts than slots, the spare desk has one
  pub has_free : length desks < SLOTS → (slot : ℕ) × Owns spare.view slot
  has_free few = has_slot spare desks rules.shares.once rules.shares.alone few

  -- its least slot is split off
  module _ (slot : ℕ) (in_board : slot < SLOTS) (least : IsLeastSlot spare.view slot) where
    abbrev pub left : DeskState
    left = with_view spare (without spare.view slot)

    abbrev pub new : DeskState
    new = with_view spare (alone spare.view slot)

    -- the new desk has it alone, and has published a net of 0 of each cell
    pub blank : IsBlankDesk new.view
    blank = record {
      slot = slot;
      alone = owns_alone spare.view slot in_board;
      idle = λ c below. net_none new.view c (λ s own. let same = only_slot spare.view slot s own in rw same (rules.shares.idle slot least.0 c below));
    }

    -- it is the least that no part has
    pub free : slot ≡ free_slot (map slots_in desks)
    free = free_is spare desks rules.shares.once slot in_board least

    -- and the only one that it lists
    pub slots_new : slots_in new ≡ slot ∷ []
    slots_new = only_listed new slot in_board (owns_alone spare.view slot in_board)

    -- put back, it leaves the spare desk as it was
    pub rejoined : spare.view.was_apart ≡ true → with_view left (both left.view new.view) ≡ spare
    rejoined was = ap (λ v. with_view spare v) (again spare.view slot spare_wide in_board least.0 was)

    module _ (i : ℕ) (within : i ≤ length desks) where
      -- the rules of desks are kept
      pub desks_divided : AreDesks board left (insert desks i new)
      desks_divided = record {
        of_board = (
          record { same = rules.of_board.0.same; wide = wide_without spare.view slot spare_wide },
          each_insert (IsOfBoard board) desks i new rules.of_board.1 (record { same = rules.of_board.0.same; wide = wide_alone spare.view slot spare_wide }),
        );
        shares = record {
          once = λ s below. (
              let was = rules.shares.once s below in
              let before = sum_by-cons (owns_one s) spare desks in
              let after = sum_by-cons (owns_one s) left (insert desks i new) in
              let more = sum_by-insert (owns_one s) desks i new in
              let both = split_once spare slot s in_board spare_wide least.0 in
              omega arith);
          alone = each_insert HasOneSlot desks i new rules.shares.alone (slot, owns_alone spare.view slot in_board);
          idle = λ s own c below. rules.shares.idle s (was_owned spare.view slot s own) c below;
        };
      }

      -- and no word changes
      number_divided : (w : ℕ) → sum_by (own_number w) (left ∷ insert desks i new) ≡ sum_by (own_number w) (spare ∷ desks)
      number_divided w =
          let before = sum_by-cons (own_number w) spare desks in
          let after = sum_by-cons (own_number w) left (insert desks i new) in
          let more = sum_by-insert (own_number w) desks i new in
          let both = number_of_two (owned_at left.view (w / SLOT_WORDS)) (owned_at new.view (w / SLOT_WORDS)) (owned_at spare.view (w / SLOT_WORDS)) (get_or spare.view.numbers w 0)
          (split_once spare slot (w / SLOT_WORDS) in_board spare_wide least.0) in
          omega arith

      pub words_divided : words_of (left ∷ insert desks i new) ≡ words_of (spare ∷ desks)
      words_divided = λ k. each_word (λ w. number_divided w k)

-- numbers for each word that are the same at each
each_word_same : (f g : ℕ → ℕ) → ((w : ℕ) → w < WORDS → f w ≡ g w) → each_word f ≡ each_word g
each_word_same f g same =
    ext_get_or 0 (each_word f) (each_word g) (length-each_word f ∙ sym (length-each_word g))
    (λ w within. let below : w < WORDS = rw (length-each_word f) at within in each_word_at f w below ∙ (same w below ∙ sym (each_word_at g w below)))

-- the other word of a cell is of the same slot
twin_within : (slot w : ℕ) → slot < SLOTS → w / SLOT_WORDS ≡ slot → (twin_of w < WORDS) × (twin_of w / SLOT_WORDS ≡ slot)
twin_within slot w in_board own =
    by_test (nat_lt (w % SLOT_WORDS) CELLS)
    (λ e. let low : w % SLOT_WORDS < CELLS = grind (arith, nat_tests, e) in rw e (omega arith, omega arith))
    (λ e. let high : CELLS ≤ w % SLOT_WORDS = grind (arith, nat_tests, e) in rw e (omega arith, omega arith))

-- a flag of two, of which not both are set
one_of_two : (one other : Bool) → (one ≡ true → other ≡ true → ⊥) → (if one || other then 1 else 0) ≡ (if one then 1 else 0) + (if other then 1 else 0)
one_of_two one other apart = grind (arith, nat_tests)

module _ (board : TableId) (spare : DeskState) (desks : List DeskState) (rules : AreDesks board spare desks) (i : ℕ) (d : DeskState) (there : slice_get desks i ≡ Some d) (slot : ℕ) (least : IsLeastSlot d.view slot) where
  -- the desk takes back what it has published, and is joined to the spare desk
  abbrev pub back : DeskState
  back = with_view d (taken_back d.view slot)

  abbrev pub whole : DeskState
  whole = with_view spare (both spare.view back.view)

  -- the desk stands there, is of the board, and has that slot alone
  within : i < length desks
  within = slice_get_within desks i d there

  is : d ≡ get_or desks i d
  is = sym (get_or_from_slice_get desks i d d there)

  of_board : IsOfBoard board d
  of_board = rw is (each_at (IsOfBoard board) desks i d rules.of_board.1 within)

  only : (other : ℕ) → Owns d.view other → other ≡ slot
  only other own =
      let one : HasOneSlot d = rw is (each_at HasOneSlot desks i d rules.shares.alone within) in
      one.1.1 other own ∙ sym (one.1.1 slot least.0)

  in_board : slot < SLOTS
  in_board = let low = set_within d.view.owned slot least.0 in omega (arith, of_board.wide.slots)

  -- no slot is both's
  apart : (s : ℕ) → Owns spare.view s → Owns d.view s → ⊥
  apart s mine theirs =
      let once = rules.shares.once s (omega (arith, rules.of_board.0.wide.slots, set_within spare.view.owned s mine)) in
      let one : owns_one s spare ≡ 1 = rw mine refl in
      absurd (omega (arith, sum_by-cons (owns_one s) spare desks, one_owns desks i s d within is theirs))

  -- a sum over the desks that are left
  removed : (f : DeskState → ℕ) → sum_by f (remove desks i) + f d ≡ sum_by f desks
  removed f = rw (← is) at (sum_by-remove f desks i d within)

  -- the spare desk has the slot beside its own then
  whole_owned : (s : ℕ) → s < SLOTS → owned_at whole.view s ≡ (owned_at spare.view s || owned_at d.view s)
  whole_owned s below = each_slot_at (λ k. owned_at spare.view k || owned_at d.view k) s below

  -- it is as wide
  whole_wide : IsWide whole.view
  whole_wide = record {
    slots = length-each_slot (λ s. owned_at spare.view s || owned_at d.view s);
    numbers = length-each_word (λ w. if owned_at d.view (w / SLOT_WORDS) then get_or back.view.numbers w 0 else get_or spare.view.numbers w 0);
    seen = length-each_word (λ w. max (get_or spare.view.seen w 0) (get_or d.view.seen w 0));
  }

  -- each slot is still of one desk
  desks_once : (s : ℕ) → s < SLOTS → sum_by (owns_one s) (whole ∷ remove desks i) ≡ 1
  desks_once s below =
      let both : owns_one s whole ≡ owns_one s spare + owns_one s d = rw (whole_owned s below) (one_of_two (owned_at spare.view s) (owned_at d.view s) (apart s)) in
      omega (arith, rules.shares.once s below, sum_by-cons (owns_one s) spare desks, sum_by-cons (owns_one s) whole (remove desks i), removed (owns_one s))

  -- a slot of its own keeps its net of 0, and the one that it took in has none
  net_ours : (s : ℕ) → s < SLOTS → Owns spare.view s → (c : ℕ) → c < CELLS → slot_net whole.view.numbers c s ≡ slot_net spare.view.numbers c s
  net_ours s low mine c below =
      let free = not_theirs spare.view back.view s (apart s) mine in
      let plus : plus_word s c / SLOT_WORDS ≡ s = omega arith in
      let minus : minus_word s c / SLOT_WORDS ≡ s = omega arith in
      rw (number_ours spare.view back.view (plus_word s c) (omega arith) (rw plus free), number_ours spare.view back.view (minus_word s c) (omega arith) (rw minus free)) refl

  net_theirs : (c : ℕ) → c < CELLS → slot_net whole.view.numbers c slot ≡ slot_net back.view.numbers c slot
  net_theirs c below =
      let plus : plus_word slot c / SLOT_WORDS ≡ slot = omega arith in
      let minus : minus_word slot c / SLOT_WORDS ≡ slot = omega arith in
      rw (number_theirs spare.view back.view (plus_word slot c) (omega (arith, in_board)) (rw plus least.0), number_theirs spare.view back.view (minus_word slot c) (omega (arith, in_board)) (rw minus least.0)) refl

  whole_idle : (s : ℕ) → Owns whole.view s → (c : ℕ) → c < CELLS → slot_net whole.view.numbers c s ≡ pos 0
  whole_idle s own c below =
      let low : s < SLOTS = let inside = set_within whole.view.owned s own in omega (arith, whole_wide.slots) in
      elim (owned_by_one spare.view back.view s own) [
        | inl mine ↦ net_ours s low mine c below ∙ rules.shares.idle s mine c below
        | inr theirs ↦ (let same = only s theirs in rw same (net_theirs c below ∙ no_net slot d.view.numbers c in_board below))
      ]

  -- the rules of desks are kept
  pub desks_dissolved : AreDesks board whole (remove desks i)
  desks_dissolved = record {
    of_board = (record { same = rules.of_board.0.same; wide = whole_wide }, each_remove (IsOfBoard board) desks i rules.of_board.1);
    shares = record { once = desks_once; alone = each_remove HasOneSlot desks i rules.shares.alone; idle = whole_idle };
  }

  -- the words of the slot were the desk's numbers, and no desk that is left has it
  number_here : (w : ℕ) → w < WORDS → w / SLOT_WORDS ≡ slot → get_or (words_of (spare ∷ desks)) w 0 ≡ get_or d.view.numbers w 0
  number_here w below own = words_at (spare ∷ desks) w below ∙ sole_number (spare ∷ desks) (suc i) slot w d (omega (arith, within)) is least.0 (rules.shares.once slot in_board) own

  none_left : sum_by (owns_one slot) (remove desks i) ≡ 0
  none_left =
      let one : owns_one slot d ≡ 1 = rw least.0 refl in
      omega (arith, rules.shares.once slot in_board, sum_by-cons (owns_one slot) spare desks, removed (owns_one slot))

  -- a word of the slot is the greater of the two words of its cell
  word_here : (w : ℕ) → w < WORDS → w / SLOT_WORDS ≡ slot → sum_by (own_number w) (whole ∷ remove desks i) ≡ max (get_or (words_of (spare ∷ desks)) w 0) (get_or (words_of (spare ∷ desks)) (twin_of w) 0)
  word_here w below own =
      let head = sum_by-cons (own_number w) whole (remove desks i) in
      let rest = none_owns (remove desks i) slot w own none_left in
      let theirs : Owns back.view (w / SLOT_WORDS) = rw own least.0 in
      let mine : own_number w whole ≡ get_or whole.view.numbers w 0 = rw (owned_by_both spare.view back.view (w / SLOT_WORDS) (omega arith) (inr theirs)) refl in
      let twin = twin_within slot w in_board own in
      rw (number_here w below own, number_here (twin_of w) twin.0 twin.1) (omega (arith, number_theirs spare.view back.view w below theirs, leveled_here slot d.view.numbers w in_board own))

  -- any other word stays
  word_else : (w : ℕ) → w < WORDS → w / SLOT_WORDS ≢ slot → sum_by (own_number w) (whole ∷ remove desks i) ≡ get_or (words_of (spare ∷ desks)) w 0
  word_else w below other =
      let not_theirs : owned_at d.view (w / SLOT_WORDS) ≡ false = by_test (owned_at d.view (w / SLOT_WORDS)) (λ e. absurd (other (only (w / SLOT_WORDS) e))) (λ e. e) in
      let flag : owned_at whole.view (w / SLOT_WORDS) ≡ owned_at spare.view (w / SLOT_WORDS) = whole_owned (w / SLOT_WORDS) (omega arith) ∙ rw not_theirs (or-false (owned_at spare.view (w / SLOT_WORDS))) in
      let number = number_ours spare.view back.view w below not_theirs in
      let same : own_number w whole ≡ own_number w spare = λ k. if flag k then number k else 0 in
      let none : own_number w d ≡ 0 = rw not_theirs refl in
      omega (arith, sum_by-cons (own_number w) whole (remove desks i), sum_by-cons (own_number w) spare desks, removed (own_number w), words_at (spare ∷ desks) w below)

  -- so the words are leveled in that slot
  pub words_dissolved : words_of (whole ∷ remove desks i) ≡ leveled (least_slot (slots_in d)) (words_of (spare ∷ desks))
  words_dissolved =
      rw (least_of_slots d slot in_board (least.0, only))
      (each_word_same (λ w. sum_by (own_number w) (whole ∷ remove desks i)) (level_of slot (words_of (spare ∷ desks)))
      (λ w below. elim (cases_eq (w / SLOT_WORDS) slot) [
        | inl own ↦ (let test : (w / SLOT_WORDS == slot) ≡ true = grind (arith, nat_tests, own) in rw test (word_here w below own))
        | inr other ↦ (let test : (w / SLOT_WORDS == slot) ≡ false = grind (arith, nat_tests, other) in rw test (word_else w below other))
      ]))

  -- of each word at least as much was seen
  pub seen_grows : (w : ℕ) → get_or spare.view.seen w 0 ≤ get_or whole.view.seen w 0
  seen_grows w = elim (cases_lt w WORDS) [
    | inl below ↦ (let seen = seen_both spare.view back.view w below in omega arith)
    | inr past ↦ (let none = get_or_past spare.view.seen w 0 (rw rules.of_board.0.wide.seen past) in omega arith)
  ]
