-- The numbers that a call is forwarded to, from three questions by key.
use Rattle.tatp_actions.proofs.Common.{◌≡◌, refl, sym, ◌∙◌, ap, ℕ, ◌+◌, ◌<◌, ◌≤◌, arith, true, false, List, [], ◌∷◌, ◌++◌, map, length, Option, Some, None, nat_le, nat_lt, inl, inr, ◌&&◌, ◌==◌, ◌⊎◌, filter, option_to_list, nat_tests, map-append, ArrayVec, array_vec_len, kept, kept_of_three, by_test, each-weaker, key_found, both, both_from, forwarding_ranges, key_of, forwarding_key, CallForwardingRow, is_between, is_start_time, forwarding_in_range, is_in_range, takes_call, destinations, new_destination, Book, IsBook, IsWithin, facility_at, has_active, forwarding_at, PartState, IsPart, Acts, destination, number_in_time, IsOnlyAsked, NewDestination, asked_once, once_more}
use Rattle.tatp_rows.specs.declared.refusal.Refusal.TheVariants as refusal
use Rattle.tatp_actions.specs.declared.action.RowReply.TheVariants as reply
use Rattle.tatp_actions.proofs.ActsLemmas.{acts_read, is_typed_from}
use Rattle.tatp_actions.proofs.BookLemmas.{forwarding_found}

-- a forwarding that starts later takes no call
pub destination_late : (book : Book) (s t hour a e : ℕ) → a < hour → None ≡ destination s t a e (forwarding_at book s t hour)
destination_late book s t hour a e late = sym (cases (forwarding_at book s t hour) refl)
  where
    never : (row : CallForwardingRow) → forwarding_key row ≡ key_of s t hour → takes_call s t a e row ≡ true → ⊥
    never row at takes =
        let parts = both (row.s_id == s && row.sf_type == t) (nat_le row.start_time a && nat_lt e row.end_time) takes in
        let own = both (row.s_id == s) (row.sf_type == t) parts.0 in
        let start = (both (nat_le row.start_time a) (nat_lt e row.end_time) parts.1).0 in
        grind (arith, nat_tests)

    cases : (o : Option CallForwardingRow) → forwarding_at book s t hour ≡ o → destination s t a e (forwarding_at book s t hour) ≡ None
    cases None is = rw is refl
    cases (Some row) is =
        by_test (takes_call s t a e row) (λ takes. absurd (never row (key_found forwarding_key (key_of s t hour) book.forwardings row is) takes)) (λ no. rw (is, no) refl)

-- one that was found takes a call by its times alone
pub by_times : (book : Book) (s t hour a e : ℕ) → IsBook book → t < 256 → hour < 256 → (o : Option CallForwardingRow) → o ≡ forwarding_at book s t hour → number_in_time hour a e o ≡ destination s t a e o
by_times book s t hour a e rules small small' None is = refl
by_times book s t hour a e rules small small' (Some row) is =
    let parts = forwarding_found book s t hour row rules small small' (sym is) in
    let own : (row.s_id == s && row.sf_type == t) ≡ true = both_from (row.s_id == s) (row.sf_type == t) (equal row.s_id s parts.0) (equal row.sf_type t parts.1) in
    rw (own, parts.2) refl
  where
    equal : (m n : ℕ) → m ≡ n → (m == n) ≡ true
    equal m n same = grind (arith, nat_tests)

module _ (book : Book) (s t a e : ℕ) (rules : IsBook book) where
  -- what passes of a forwarding that is found is its number
  one_kept : (o : Option CallForwardingRow) → map (λ (row : CallForwardingRow). row.numberx) (kept (takes_call s t a e) o) ≡ option_to_list (destination s t a e o)
  one_kept None = refl
  one_kept (Some row) = by_test (takes_call s t a e row) (λ is. rw is refl) (λ is. rw is refl)

  -- the forwardings that take the call have one of three keys
  key_is : (row : CallForwardingRow) → row.s_id ≡ s → row.sf_type ≡ t → (row.start_time ≡ 0) ⊎ ((row.start_time ≡ 8) ⊎ (row.start_time ≡ 16))
      → (forwarding_key row ≡ key_of s t 0) ⊎ ((forwarding_key row ≡ key_of s t 8) ⊎ (forwarding_key row ≡ key_of s t 16))
  key_is row own own' (inl is) = inl (omega arith)
  key_is row own own' (inr (inl is)) = inr (inl (omega arith))
  key_is row own own' (inr (inr is)) = inr (inr (omega arith))

  key_of_taken : (row : CallForwardingRow) → forwarding_in_range row ≡ true → takes_call s t a e row ≡ true
      → (forwarding_key row ≡ key_of s t 0) ⊎ ((forwarding_key row ≡ key_of s t 8) ⊎ (forwarding_key row ≡ key_of s t 16))
  key_of_taken row holds takes =
      let first = (both (row.s_id == s && row.sf_type == t) (nat_le row.start_time a && nat_lt e row.end_time) takes).0 in
      let own = both (row.s_id == s) (row.sf_type == t) first in
      key_is row (equal row.s_id s own.0) (equal row.sf_type t own.1) (forwarding_ranges row holds).start_time_is
    where
      equal : (m n : ℕ) → (m == n) ≡ true → m ≡ n
      equal m n same = grind (arith, nat_tests)

  -- so three questions find them all, in their order
  pub three_found : (option_to_list (destination s t a e (forwarding_at book s t 0)) ++ option_to_list (destination s t a e (forwarding_at book s t 8))) ++ option_to_list (destination s t a e (forwarding_at book s t 16))
      ≡ map (λ (row : CallForwardingRow). row.numberx) (filter (takes_call s t a e) book.forwardings)
  three_found =
      let number = λ (row : CallForwardingRow). row.numberx in
      let at_0 = kept (takes_call s t a e) (forwarding_at book s t 0) in
      let at_8 = kept (takes_call s t a e) (forwarding_at book s t 8) in
      let at_16 = kept (takes_call s t a e) (forwarding_at book s t 16) in
      let all = kept_of_three forwarding_key (takes_call s t a e) (key_of s t 0) (key_of s t 8) (key_of s t 16) book.forwardings (omega arith) (omega arith) rules.forwardings_ordered
      (each-weaker {P = λ (row : CallForwardingRow). forwarding_in_range row ≡ true} (λ row holds takes. key_of_taken row holds takes) book.forwardings rules.forwardings_in_range) in
      sym (ap (map number) all ∙ map-append number (at_0 ++ at_8) at_16 ∙ ap (λ (ns : List ℕ). ns ++ map number at_16) (map-append number at_0 at_8)
      ∙ ap (λ (ns : List ℕ). (ns ++ map number at_8) ++ map number at_16) (one_kept (forwarding_at book s t 0))
      ∙ ap (λ (ns : List ℕ). (option_to_list (destination s t a e (forwarding_at book s t 0)) ++ ns) ++ map number at_16) (one_kept (forwarding_at book s t 8))
      ∙ ap (λ (ns : List ℕ). (option_to_list (destination s t a e (forwarding_at book s t 0)) ++ option_to_list (destination s t a e (forwarding_at book s t 8))) ++ ns) (one_kept (forwarding_at book s t 16)))

  -- and what they find of an active facility are its destinations
  pub numbers_lent : (n0 n8 n16 : Option ℕ) (numbers : List ℕ) → true ≡ has_active (facility_at book s t)
      → n0 ≡ destination s t a e (forwarding_at book s t 0) → n8 ≡ destination s t a e (forwarding_at book s t 8) → n16 ≡ destination s t a e (forwarding_at book s t 16)
      → numbers ≡ (option_to_list n0 ++ option_to_list n8) ++ option_to_list n16 → numbers ≡ destinations book s t a e
  numbers_lent n0 n8 n16 numbers active is0 is8 is16 gathered = rw (← active, gathered, is0, is8, is16) three_found

-- the answer to numbers that were found, and to none
numbers_answered : (book : Book) (ns : List ℕ) → (length ns == 0) ≡ false → new_destination book ns ≡ (reply.Numbers (record { items = ns }), book)
numbers_answered book [] some = absurd cc
numbers_answered book (n ∷ ns) some = refl

none_answered : (book : Book) (ns : List ℕ) → (length ns == 0) ≡ true → new_destination book ns ≡ (reply.Refused refusal.NoDestination, book)
none_answered book [] none = refl
none_answered book (n ∷ ns) none = absurd (grind (arith, nat_tests))

-- a read by key
pub asked_again : (before after : PartState) → after ≡ asked_once before → IsOnlyAsked 1 before after
asked_again before after kept =
    let count : after.asked ≡ once_more before.asked = ap (λ (p : PartState). p.asked) kept in
    (kept ∙ ap (λ (n : ℕ). record before { asked = n }) (sym count), omega arith)

-- one read after another
pub asked_then : (m n : ℕ) (a b c : PartState) → IsOnlyAsked m a b → IsOnlyAsked n b c → IsOnlyAsked (m + n) a c
asked_then m n a b c first next = (next.0 ∙ ap (λ (p : PartState). record p { asked = c.asked }) first.0, few)
  where
    few : c.asked ≤ a.asked + (m + n)
    few = let one = first.1 in let two = next.1 in omega arith

-- the book stays
pub same_book : (n : ℕ) (a b : PartState) → IsOnlyAsked n a b → b.book ≡ a.book
same_book n a b asked = ap (λ (p : PartState). p.book) asked.0

-- the parts after the facility and after each of the three hours, and what was found
module _ (p0 p1 p2 p3 p4 : PartState) (s t a e : ℕ) (n0 n8 n16 : Option ℕ) (numbers : List ℕ) (rules : IsPart p0)
    (asked1 : IsOnlyAsked 1 p0 p1) (asked2 : IsOnlyAsked 1 p1 p2) (asked3 : IsOnlyAsked 1 p2 p3) (asked4 : IsOnlyAsked 1 p3 p4) where
  asked_twice : IsOnlyAsked 2 p0 p2
  asked_twice = asked_then 1 1 p0 p1 p2 asked1 asked2

  asked_thrice : IsOnlyAsked 3 p0 p3
  asked_thrice = asked_then 2 1 p0 p2 p3 asked_twice asked3

  pub numbers_found : true ≡ has_active (facility_at p0.book s t)
      → n0 ≡ destination s t a e (forwarding_at p1.book s t 0) → n8 ≡ destination s t a e (forwarding_at p2.book s t 8) → n16 ≡ destination s t a e (forwarding_at p3.book s t 16)
      → numbers ≡ (option_to_list n0 ++ option_to_list n8) ++ option_to_list n16 → numbers ≡ destinations p0.book s t a e
  numbers_found active is0 is8 is16 gathered = numbers_lent p0.book s t a e rules.rows.rules n0 n8 n16 numbers active
      (is0 ∙ ap (λ (b : Book). destination s t a e (forwarding_at b s t 0)) (same_book 1 p0 p1 asked1))
      (is8 ∙ ap (λ (b : Book). destination s t a e (forwarding_at b s t 8)) (same_book 2 p0 p2 asked_twice))
      (is16 ∙ ap (λ (b : Book). destination s t a e (forwarding_at b s t 16)) (same_book 3 p0 p3 asked_thrice))
      gathered

-- the answer to a call, from the numbers that were found
module _ (before after : PartState) (s t a e : ℕ) (numbers : ArrayVec ℕ) (rules : IsPart before) (within : IsWithin before.lo before.hi s)
    (kind : is_between 1 4 t ≡ true) (start : is_start_time a ≡ true) (end : is_between 1 24 e ≡ true)
    (found : numbers.items ≡ destinations before.book s t a e) (asked : IsOnlyAsked 4 before after) where
  few : after.asked ≤ before.asked + 8
  few = let most = asked.1 in omega arith

  in_range : is_in_range (NewDestination s t a e) ≡ true
  in_range = both_from _ _ (is_typed_from before s t rules within kind) (both_from _ _ start end)

  pub numbers_answer : (array_vec_len numbers == 0) ≡ false → Acts (NewDestination s t a e) before (reply.Numbers numbers) [] after
  numbers_answer some = acts_read (NewDestination s t a e) before after (reply.Numbers numbers) after.asked asked.0 few in_range
      (ap (λ (ns : List ℕ). new_destination before.book ns) (sym found) ∙ numbers_answered before.book numbers.items some)

  pub no_number_answer : (array_vec_len numbers == 0) ≡ true → Acts (NewDestination s t a e) before (reply.Refused refusal.NoDestination) [] after
  no_number_answer none = acts_read (NewDestination s t a e) before after (reply.Refused refusal.NoDestination) after.asked asked.0 few in_range
      (ap (λ (ns : List ℕ). new_destination before.book ns) (sym found) ∙ none_answered before.book numbers.items none)
