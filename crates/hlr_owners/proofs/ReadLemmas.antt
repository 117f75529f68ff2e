-- What is read of one part's rows is what all rows answer.
use Rattle.hlr_owners.proofs.Common.{◌≡◌, refl, sym, ℕ, ◌+◌, List, [], ◌∷◌, length, true, false, inl, inr, arith, nat_tests, ArrayVec, array_vec_len, is_between, LAST_SUBSCRIBER, Refusal, s_id_of, effect, is_in_range, new_destination, Book, IsWithin, Action, RowReply, HoldingState, is_loose, HasRowsWhileOut, IsReadWhileOut, store_with, HasRowsOf, IsRead, OwnersState, store_in, Store, ◌==◌}
use Rattle.tatp_rows.specs.declared.refusal.Refusal.TheVariants as refusal
use Rattle.tatp_actions.specs.declared.action.RowReply.TheVariants as row_reply

-- one of all subscribers has an s_id in range, and with a type in range both are
pub subscriber_fits : (s_id : ℕ) → IsWithin 1 (LAST_SUBSCRIBER + 1) s_id → is_between 1 LAST_SUBSCRIBER s_id ≡ true
subscriber_fits s_id within = grind (arith, nat_tests)

-- an answer that leaves a part's rows, where the fields are in range
pub is_read : (act : Action) (store : Store) (holding : HoldingState) (has : HasRowsOf (s_id_of act) store holding) (fits : is_in_range act ≡ true) (answer : RowReply)
    → effect act holding.part.book ≡ (answer, holding.part.book) → IsRead act store answer
is_read act store holding has fits answer does = rw (has.home) (has.answers act answer refl (inr (inl (fits, sym does))))

-- the same whatever the holdings that are out have become; and so answers a loose piece
module _ (act : Action) (h : OwnersState) (fits : is_in_range act ≡ true) where
  pub reads : (holding : HoldingState) → HasRowsOf (s_id_of act) (store_in h) holding → HasRowsWhileOut (s_id_of act) h holding → (answer : RowReply) → effect act holding.part.book ≡ (answer, holding.part.book)
      → IsRead act (store_in h) answer × IsReadWhileOut act h answer
  reads holding has while_out answer does = (is_read act (store_in h) holding has fits answer does, λ ks become. is_read act (store_with h ks) holding (while_out ks become) fits answer does)

  pub moving_while_out : (why : Refusal) → why ≡ refusal.Moving → is_loose (s_id_of act) h.regions ≡ true → IsReadWhileOut act h (row_reply.Refused why)
  moving_while_out why is loose = λ ks become. rw (loose, fits, is) (refl, refl)

-- the answer to numbers that were found, and to none
pub numbers_read : (book : Book) (numbers : ArrayVec ℕ) → (array_vec_len numbers == 0) ≡ false → new_destination book numbers.items ≡ (row_reply.Numbers numbers, book)
numbers_read book numbers some = cases numbers.items some
  where
    cases : (ns : List ℕ) → (length ns == 0) ≡ false → new_destination book ns ≡ (row_reply.Numbers (record { items = ns }), book)
    cases [] some = absurd cc
    cases (n ∷ ns) some = refl

pub none_read : (book : Book) (ns : List ℕ) → (length ns == 0) ≡ true → new_destination book ns ≡ (row_reply.Refused refusal.NoDestination, book)
none_read book [] none = refl
none_read book (n ∷ ns) none = absurd (grind (arith, nat_tests))
