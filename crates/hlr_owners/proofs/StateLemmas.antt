-- The owners of all regions, one beside each, and their rows as one book.
use Rattle.hlr_owners.proofs.Common.{◌≡◌, ℕ, ◌<◌, ◌≤◌, arith, List, [], ◌∷◌, sym, ◌∙◌, ap, true, map, AllZip, Book, IsRowsOf, IsWithin, rows_between, join_books, book_of, rows_joined, Region, OwnerState, IsOwnerState, nat_tests, low_between, own_rows, none_past, between_joined, within, lies_in, IsConsecutive, END, rules}
use Rattle.hlr_owners.proofs.HalvesLemmas.{between_none, between_halves, HasRows}
use Rattle.hlr_owners.proofs.ZipLemmas.{zip_weaker}

-- the rows of all owners, in their order
abbrev pub book_of_states : List OwnerState → Book
book_of_states states = book_of (map (λ (state : OwnerState). state.part) states)

-- the rows of an owner lie in its region
pub own_region : (width : ℕ) (region : Region) (state : OwnerState) → IsOwnerState width region state → IsRowsOf region.lo region.hi state.part.book
own_region width region state is = rw (← is.from, ← is.to) is.keeps.rules.rows

-- the rows of all owners are those of all subscribers from where their regions begin
pub state_rows : (width from : ℕ) (regions : List Region) (states : List OwnerState) → AllZip (IsOwnerState width) regions states → IsConsecutive from regions
    → IsRowsOf from END (book_of_states states)
state_rows width from [] [] each consecutive = rw consecutive (search rules)
state_rows width from (region ∷ regions) (state ∷ states) each consecutive =
    let begins = consecutive.0 in
    let some = consecutive.1 in
    let end = within region.hi regions consecutive.2 in
    let own : IsRowsOf region.lo region.hi state.part.book = own_region width region state each.0 in
    rw (← begins) (rows_joined region.lo region.hi END state.part.book (book_of_states states) own (state_rows width region.hi regions states each.1 consecutive.2) (omega arith) end)
state_rows width from regions states each consecutive = absurd each

-- a region behind a number
abbrev IsBehind : ℕ → Region → Type 0
IsBehind from region = (from ≤ region.lo) × (region.lo < region.hi) × (region.hi ≤ END)

-- regions that follow one another are behind the number where they begin, and the rows of each are its owner's
rows_behind : (width from : ℕ) (regions : List Region) (states : List OwnerState) → AllZip (IsOwnerState width) regions states → IsConsecutive from regions
    → AllZip (λ (region : Region) (state : OwnerState). IsBehind from region × HasRows (book_of_states states) region state) regions states
rows_behind width from [] [] each consecutive = tt
rows_behind width from (region ∷ regions) (state ∷ states) each consecutive =
    let begins = consecutive.0 in
    let some = consecutive.1 in
    let end = within region.hi regions consecutive.2 in
    let own = own_region width region state each.0 in
    let rest = book_of_states states in
    let of_rest = state_rows width region.hi regions states each.1 consecutive.2 in (
      ((omega arith, some, end), low_between region.lo region.hi END state.part.book rest own of_rest),
      zip_weaker {P = λ (r : Region) (o : OwnerState). IsBehind region.hi r × HasRows rest r o} {Q = λ (r : Region) (o : OwnerState). IsBehind from r × HasRows (join_books state.part.book rest) r o}
          (λ r o has. let later = has.0.0 in (
            (omega arith, has.0.1, has.0.2),
            between_joined r.lo r.hi state.part.book rest
                ∙ ap (λ (book : Book). join_books book (rows_between r.lo r.hi rest)) (none_past region.lo region.hi r.lo r.hi state.part.book later own) ∙ has.1,
          )) regions states (rows_behind width region.hi regions states each.1 consecutive.2),
    )
rows_behind width from regions states each consecutive = absurd each

pub states_rows : (width from : ℕ) (regions : List Region) (states : List OwnerState) → AllZip (IsOwnerState width) regions states → IsConsecutive from regions → AllZip (HasRows (book_of_states states)) regions states
states_rows width from regions states each consecutive =
    zip_weaker {P = λ (r : Region) (o : OwnerState). IsBehind from r × HasRows (book_of_states states) r o} {Q = HasRows (book_of_states states)} (λ r o has. has.1) regions states (rows_behind width from regions states each consecutive)

-- owners of regions that follow one another have the rows of a book from where they begin, where each has those of its
-- region
pub book_from : (from : ℕ) (regions : List Region) (states : List OwnerState) (book : Book) → 1 ≤ from → IsRowsOf 1 END book → IsConsecutive from regions → AllZip (HasRows book) regions states
    → book_of_states states ≡ rows_between from END book
book_from from [] [] book first rows consecutive each = rw consecutive (sym (between_none END book))
book_from from (region ∷ regions) (state ∷ states) book first rows consecutive each =
    let begins = consecutive.0 in
    let some = consecutive.1 in
    let end = within region.hi regions consecutive.2 in
    let rest = book_from region.hi regions states book (omega arith) rows consecutive.2 each.1 in
    ap (λ (b : Book). join_books b (book_of_states states)) (sym each.0) ∙ ap (λ (b : Book). join_books (rows_between region.lo region.hi book) b) rest
    ∙ between_halves 1 END book rows region.lo region.hi END (omega arith) (omega arith) end (omega arith)
    ∙ ap (λ (n : ℕ). rows_between n END book) begins
book_from from regions states book first rows consecutive each = absurd each

pub book_stays : (regions : List Region) (states : List OwnerState) (book : Book) → IsRowsOf 1 END book → IsConsecutive 1 regions → AllZip (HasRows book) regions states → book_of_states states ≡ book
book_stays regions states book rows consecutive each = book_from 1 regions states book (omega arith) rows consecutive each ∙ own_rows 1 END book rows

-- an s_id that lies in a region
pub lies_within : (s_id : ℕ) (region : Region) → lies_in s_id region ≡ true → IsWithin region.lo region.hi s_id
lies_within s_id region inside = (grind (arith, nat_tests), grind (arith, nat_tests))
