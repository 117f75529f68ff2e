-- The rows of all owners from a key on are those of one owner after another.
use Rattle.hlr_owners.proofs.Common.{◌≡◌, ◌∙◌, refl, ap, ℕ, zero, suc, ◌<◌, ◌≤◌, arith, drop, get_or, length, map, map-append, filter-append, List, [], ◌∷◌, ◌++◌, Book, book_in, state_of, RegionOwner}
use Rattle.tatp_actions.specs.Book.{empty_book}
use Rattle.tatp_actions.specs.Joined.{join_books}
use Rattle.tatp_actions.specs.Listed.{is_from, rows_listed}
use Rattle.tatp_actions.specs.declared.listed.KeyFields.{KeyFields}

-- the book of the owners from one on
book_next : (k : ℕ) (owners : List RegionOwner) (owner : RegionOwner) → k < length owners → owner ≡ get_or owners k owner
    → book_in (drop k owners) ≡ join_books (state_of owner).part.book (book_in (drop (suc k) owners))
book_next k [] owner low is = absurd (omega arith)
book_next zero (one ∷ owners) owner low is = rw is refl
book_next (suc k) (one ∷ owners) owner low is = book_next k owners owner (omega arith) is

book_past : (k : ℕ) (owners : List RegionOwner) → length owners ≤ k → book_in (drop k owners) ≡ empty_book
book_past zero [] past = refl
book_past (suc k) [] past = refl
book_past zero (one ∷ owners) past = absurd (omega arith)
book_past (suc k) (one ∷ owners) past = book_past k owners (omega arith)

-- what is written of their table
module _ {X Y : Type 0} (fields : X → KeyFields) (f : X → Y) (from : KeyFields) (table : Book → List X) where
  pub listed_next : ((low high : Book) → table (join_books low high) ≡ table low ++ table high) → (k : ℕ) (owners : List RegionOwner) (owner : RegionOwner) → k < length owners → owner ≡ get_or owners k owner
      → map f (rows_listed fields from (table (book_in (drop k owners)))) ≡ map f (rows_listed fields from (table (state_of owner).part.book)) ++ map f (rows_listed fields from (table (book_in (drop (suc k) owners))))
  listed_next joined k owners owner low is =
      let own = (state_of owner).part.book in
      let others = book_in (drop (suc k) owners) in
      ap (λ (rows : List X). map f (rows_listed fields from rows)) (ap table (book_next k owners owner low is) ∙ joined own others)
      ∙ ap (map f) (filter-append (λ row. is_from from (fields row)) (table own) (table others))
      ∙ map-append f (rows_listed fields from (table own)) (rows_listed fields from (table others))

  pub listed_past : table empty_book ≡ [] → (k : ℕ) (owners : List RegionOwner) → length owners ≤ k → map f (rows_listed fields from (table (book_in (drop k owners)))) ≡ []
  listed_past none k owners past = ap (λ (rows : List X). map f (rows_listed fields from rows)) (ap table (book_past k owners past) ∙ none)
