-- What was found for questions of a part that is out is what its call for one answers to each.
use Rattle.hlr_c.proofs.Common.{◌≡◌, ◌∙◌, ℕ, suc, ◌+◌, ◌<◌, List, [], ◌∷◌, ◌++◌, length, get_or, map, take, ap, subst, sym, refl, Bool, true, inl, inr, arith, Option, Some, None, All, take-suc, cases_eq, get_or-map, get_or-take, get_or_default, length-map, length-take-le, map-append, SubscriberRow, AccessInfoRow, is_between, LAST_SUBSCRIBER, access_data, destinations, effect, is_in_range, is_typed, new_destination, subscriber_data, Book, access_at, subscriber_at, Action, HoldingState, access_reply, numbers_reply, subscriber_reply, reply_of, Reply, AreTold, IsOwn, IsOwnAccess, IsOwnCall, IsPartAccessRead, IsPartDestinationRead, IsPartSubscriberRead, has, read_by, access_told, numbers_told, subscriber_told, ELSEWHERE, HlrAccessAsked, HlrDestinationAsked, HlrNumbers}
use Rattle.tatp_actions.specs.declared.action.Action.TheVariants as action

-- what is made of what was made of each
pub map_of_map : {A B C : Type 0} (f : B → C) (g : A → B) (xs : List A) → map f (map g xs) ≡ map (λ x. f (g x)) xs
map_of_map f g [] = refl
map_of_map f g (x ∷ xs) = ap (λ ys. f (g x) ∷ ys) (map_of_map f g xs)

-- one more of a list whose elements are looked at one by one
module _ {A : Type 0} (xs : List A) (n : ℕ) (d : A) (below : n < length xs) where
  pub one_more_owned : (Owns : A → Type 0) → All Owns (take n xs) → Owns (get_or xs n d) → All Owns (take (n + 1) xs)
  one_more_owned Owns so_far one = λ at a near.
      let long = length-take-le (n + 1) xs (omega (arith, below)) in
      let short = length-take-le n xs (omega (arith, below)) in
      subst Owns (sym (get_or-take (n + 1) xs at a (omega (arith, near, long)))) (elim (cases_eq at n) [
        | inl same ↦ rw (same, get_or_default xs n a d below) one
        | inr other ↦ subst Owns (get_or-take n xs at a (omega (arith, near, long))) (so_far at a (omega (arith, near, long, short)))
      ])

  pub one_more_kept : (kept more : List A) → kept ≡ take n xs → more ≡ kept ++ get_or xs n d ∷ [] → more ≡ take (n + 1) xs
  one_more_kept kept more so_far pushed = let next : n + 1 ≡ suc n = omega arith in pushed ∙ rw (so_far, next) (sym (take-suc xs n d below))

  pub one_more_put : {B : Type 0} (make : A → B) (made more : List B) → made ≡ map make (take n xs) → more ≡ made ++ make (get_or xs n d) ∷ [] → more ≡ map make (take (n + 1) xs)
  one_more_put make made more so_far pushed = let next : n + 1 ≡ suc n = omega arith in pushed ∙ rw (so_far, next, take-suc xs n d below) (sym (map-append make (take n xs) (get_or xs n d ∷ [])))

-- what was found for questions of a part that has them all tells what its call for each answers
pub told_of_own : {S Q F X : Type 0} (find : Q → F) (IsRead : Q → X → S → ℕ × X → S → Type 0) (told : Q → X → F → ℕ × X) (part : S) (asked : List Q) (found : List F) (Owns : Q → Type 0) → found ≡ map find asked → All Owns asked
    → ((question : Q) (row : X) → Owns question → IsRead question row part (told question row (find question)) part) → AreTold IsRead told part asked found
told_of_own find IsRead told part asked found Owns is own reads = record {
  as_many = ap length is ∙ length-map asked find;
  each = λ at question one row below.
      rw (is, get_or-map find asked at question one below) (reads (get_or asked at question) row (own at question below));
}

-- a read whose fields are in range, of a subscriber of the part
by_fields : {X : Type 0} (fits here : Bool) (act : Action) (told : Reply → X) (elsewhere : X) (part : HoldingState) (answer : X) → fits ≡ true → here ≡ true → answer ≡ told (reply_of (effect act part.part.book).0)
    → answer ≡ read_by fits here act told elsewhere part
by_fields fits here act told elsewhere part answer in_range own is = rw (in_range, own) is

-- so is what is told of a row that was found, and of none
pub subscriber_is : (part : HoldingState) (s_id : ℕ) (row : SubscriberRow) → IsOwn s_id part → IsPartSubscriberRead s_id row part (subscriber_told row (subscriber_reply (subscriber_at part.part.book s_id))) part
subscriber_is part s_id row own = (
  refl,
  by_fields (is_between 1 LAST_SUBSCRIBER s_id) (has s_id part) (action.SubscriberData s_id) (subscriber_told row) (ELSEWHERE, row) part _ own.0 own.1 (reads part.part.book (subscriber_at part.part.book s_id)),
)
  where
    reads : (book : Book) (p : Option SubscriberRow) → subscriber_told row (subscriber_reply p) ≡ subscriber_told row (reply_of (subscriber_data book p).0)
    reads book None = refl
    reads book (Some found) = refl

pub access_is : (part : HoldingState) (asked : HlrAccessAsked) (row : AccessInfoRow) → IsOwnAccess asked part
    → IsPartAccessRead asked row part (access_told asked.s_id asked.ai_type row (access_reply (access_at part.part.book asked.s_id asked.ai_type))) part
access_is part asked row own = (
  refl,
  by_fields (is_typed asked.s_id asked.ai_type) (has asked.s_id part) (action.AccessData asked.s_id asked.ai_type) (access_told asked.s_id asked.ai_type row) (ELSEWHERE, row) part _ own.0 own.1
      (reads part.part.book (access_at part.part.book asked.s_id asked.ai_type)),
)
  where
    reads : (book : Book) (p : Option AccessInfoRow) → access_told asked.s_id asked.ai_type row (access_reply p) ≡ access_told asked.s_id asked.ai_type row (reply_of (access_data book p).0)
    reads book None = refl
    reads book (Some found) = refl

pub numbers_are : (part : HoldingState) (asked : HlrDestinationAsked) (row : HlrNumbers) → IsOwnCall asked part
    → IsPartDestinationRead asked row part (numbers_told row (numbers_reply (destinations part.part.book asked.s_id asked.sf_type asked.start_time asked.end_time))) part
numbers_are part asked row own = (
  refl,
  by_fields (is_in_range (action.NewDestination asked.s_id asked.sf_type asked.start_time asked.end_time)) (has asked.s_id part) (action.NewDestination asked.s_id asked.sf_type asked.start_time asked.end_time) (numbers_told row) (ELSEWHERE, row) part _ own.0 own.1
      (reads part.part.book (destinations part.part.book asked.s_id asked.sf_type asked.start_time asked.end_time)),
)
  where
    reads : (book : Book) (ms : List ℕ) → numbers_told row (numbers_reply ms) ≡ numbers_told row (reply_of (new_destination book ms).0)
    reads book [] = refl
    reads book (m ∷ ms) = refl
