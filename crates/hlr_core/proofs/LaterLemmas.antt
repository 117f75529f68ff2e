-- A register with owners that stand for others keeps its rules, with the same index.
use Rattle.hlr_core.proofs.Common.{◌≡◌, ◌∙◌, ◌+◌, refl, sym, ap, ℕ, zero, suc, List, [], ◌∷◌, set, map, inl, inr, Bool, true, false, Some, None, option_map, slice_get, AllZip, map-append, key_of, SubscriberRow, IsOutcome, effect, Book, IsRowsOf, subscriber_at, PartState, Action, RowReply, Region, DeskState, HoldingState, IsHolding, Job, Act, PartOwnerState, OwnersState, AreOwners, IsLaterOwner, state_of, states_in, book_in, RegionOwner, Part, holding_keeps, later_self, ruled_later, state_rows, zip_weaker, owned, LAST_SUBSCRIBER, IsAnswered, number_pair, IsRegister, IsLater, AreLater, IsBackWith, with_owners, bearer_id, IsJobDone, IsJobOf, IsDoneAt, given_number, Reply}
use Rattle.holding.specs.declared.job.Job.TheVariants.{Post}
use Rattle.hlr_owners.specs.declared.part_owner.RegionOwner.TheVariants.{Piece}
use Rattle.hlr_core.proofs.PairsLemmas.{HaveSame, effect_shaped, have_same, outcome_book, same_registered}

-- an action that gives no number leaves the numbers
pub outcome_numbers : (act : Action) (before after : Book) (answer : RowReply) → given_number act ≡ None → IsOutcome act before answer after
    → map number_pair after.subscribers ≡ map number_pair before.subscribers
outcome_numbers act before after answer none outcome =
    let shaped : map number_pair (effect act before).1.subscribers ≡ map number_pair before.subscribers =
    elim (effect_shaped act before) [ inl same ↦ ap (λ (b : Book). map number_pair b.subscribers) same | inr is ↦ is.1 none ] in
    elim (outcome_book act before after answer outcome) [
      | inl same ↦ ap (λ (b : Book). map number_pair b.subscribers) same
      | inr done ↦ ap (λ (x : RowReply × Book). map number_pair x.1.subscribers) done ∙ shaped
    ]

-- so the rows after it are those of a register with the same index, also where the rows' owner answers for them
pub kept_registered : (act : Action) (before after : Book) (answer : RowReply) (pairs : List (ℕ × ℕ)) → given_number act ≡ None → IsRegister before pairs → IsRowsOf 1 (LAST_SUBSCRIBER + 1) after
    → IsOutcome act before answer after → IsRegister after pairs
kept_registered act before after answer pairs leaves register rows outcome = same_registered before after pairs register rows (outcome_numbers act before after answer leaves outcome)

pub answered_registered : (loose : Bool) (act : Action) (before after : Book) (answer : RowReply) (pairs : List (ℕ × ℕ)) → given_number act ≡ None → IsRegister before pairs
    → IsRowsOf 1 (LAST_SUBSCRIBER + 1) after → IsAnswered loose act before answer after → IsRegister after pairs
answered_registered true act before after answer pairs leaves register rows answered = rw (answered.1) register
answered_registered false act before after answer pairs leaves register rows outcome = kept_registered act before after answer pairs leaves register rows outcome

-- what a job leaves
pub job_later : (regions : List Region) (p : ℕ) (job : Job) (l m : PartOwnerState) (answer : Reply) → IsJobOf regions p job → IsJobDone job l.holding answer m.holding → IsLater (Part l) (Part m)
job_later regions p (Act act) l m answer of done = record {
  owner = (
    record {
      lo = done.range.0;
      hi = done.range.1;
      width = done.range.2;
      board = ap (λ (desk : DeskState). desk.board) done.desk.0;
      owned = ap (λ (desk : DeskState). desk.view.owned) done.desk.0;
    },
    λ lawful. holding_keeps m.holding done.rules,
    λ wide. done.rules.wide,
  );
  numbers = outcome_numbers act l.holding.part.book m.holding.part.book done.rows of.1 done.outcome;
}
job_later regions p (Post limit) l m answer of done = record {
  owner = (
    record {
      lo = ap (λ (part : PartState). part.lo) done.part;
      hi = ap (λ (part : PartState). part.hi) done.part;
      width = ap (λ (part : PartState). part.width) done.part;
      board = done.desk.0;
      owned = done.desk.1;
    },
    λ lawful. holding_keeps m.holding done.rules,
    λ wide. done.rules.wide,
  );
  numbers = ap (λ (part : PartState). map number_pair part.book.subscribers) done.part;
}

-- each owner may stand for itself
each_self : (owners : List RegionOwner) → AllZip IsLaterOwner owners owners → AreLater owners owners
each_self [] each = tt
each_self (s ∷ owners) each = (record { owner = each.0; numbers = refl }, each_self owners each.1)

pub all_later_self : (owners : List RegionOwner) → AreLater owners owners
all_later_self owners = each_self owners (later_self owners)

-- one that stands for another stands for all that this one stood for
later_owner : (s t u : RegionOwner) → IsLaterOwner s t → IsLaterOwner t u → IsLaterOwner s u
later_owner (Part l) (Part m) (Part n) one two = (
  record {
    lo = two.0.lo ∙ one.0.lo;
    hi = two.0.hi ∙ one.0.hi;
    width = two.0.width ∙ one.0.width;
    board = two.0.board ∙ one.0.board;
    owned = two.0.owned ∙ one.0.owned;
  },
  λ lawful. two.1 (one.1 lawful),
  λ wide. two.2 (one.2 wide),
)
later_owner (Part l) (Part m) (Piece c) one two = absurd two
later_owner (Piece a) (Piece b) (Part n) one two = absurd two
later_owner (Piece a) (Piece b) (Piece c) one two = two ∙ one
later_owner s t u one two = absurd one

pub later_after : (s t u : RegionOwner) → IsLater s t → IsLater t u → IsLater s u
later_after s t u one two = record { owner = later_owner s t u one.owner two.owner; numbers = two.numbers ∙ one.numbers }

pub all_later_after : (xs ys zs : List RegionOwner) → AreLater xs ys → AreLater ys zs → AreLater xs zs
all_later_after [] [] zs one two = two
all_later_after (x ∷ xs) (y ∷ ys) [] one two = two
all_later_after (x ∷ xs) (y ∷ ys) (z ∷ zs) one two = (later_after x y z one.0 two.0, all_later_after xs ys zs one.1 two.1)
all_later_after xs ys zs one two = absurd one

-- one owner that stands for the one that was there
pub put_later : (owners : List RegionOwner) (i : ℕ) (s t : RegionOwner) → slice_get owners i ≡ Some s → IsLater s t → AreLater owners (set owners i t)
put_later [] i s t at later = tt
put_later (x ∷ owners) zero s t at later =
    let is : x ≡ s = cc in
    (rw is later, all_later_self owners)
put_later (x ∷ owners) (suc i) s t at later = ((all_later_self (x ∷ owners)).0, put_later owners i s t at later)

-- so jobs change neither index nor regions: the owners after one may stand for those before it
pub done_later : (regions : List Region) (p : ℕ) (job : Job) (before after : List RegionOwner) (answer : Reply) → IsJobOf regions p job → IsDoneAt regions p job before answer after → AreLater before after
done_later regions p job before after answer of done =
    rw done.is (put_later before done.index (Part done.part_owner_state) (Part (record done.part_owner_state { holding = done.holding })) done.owner
    (job_later regions p job done.part_owner_state (record done.part_owner_state { holding = done.holding }) answer of done.done))

-- a holding that comes home
pub back_later : (owners : List RegionOwner) (i : ℕ) (k : HoldingState) → IsBackWith (slice_get owners i) k → IsHolding k → AreLater owners (set owners i (Part (record { holding = k; home = true })))
back_later owners i k back keeps =
    (elim (slice_get owners i) as (λ o. slice_get owners i ≡ o → IsBackWith o k → AreLater owners (set owners i (Part (record { holding = k; home = true })))) [
      | Some (Part l) ↦ λ e back. put_later owners i (Part l) (Part (record { holding = k; home = true })) e (record { owner = (back.0.1, λ lawful. holding_keeps k keeps, λ wide. keeps.wide); numbers = back.1 })
      | Some (Piece b) ↦ λ e back. absurd back.0
      | None ↦ λ e back. absurd back.0
    ]) refl back

-- the numbers of all
pub numbers_later : (owners ks : List RegionOwner) → AreLater owners ks → map number_pair (book_in ks).subscribers ≡ map number_pair (book_in owners).subscribers
numbers_later [] [] later = refl
numbers_later (s ∷ owners) (k ∷ ks) later =
    let here = later.0.numbers in
    let rest = numbers_later owners ks later.1 in
    map-append number_pair (state_of k).part.book.subscribers (book_in ks).subscribers
    ∙ rw (here, rest) (sym (map-append number_pair (state_of s).part.book.subscribers (book_in owners).subscribers))
numbers_later owners ks later = absurd later

-- each subscriber keeps the number
later_same : (owners ks : List RegionOwner) → AreLater owners ks → HaveSame (book_in owners).subscribers (book_in ks).subscribers
later_same owners ks later = have_same (book_in owners).subscribers (book_in ks).subscribers (numbers_later owners ks later)

pub number_later : (owners ks : List RegionOwner) → AreLater owners ks → (s_id : ℕ)
    → option_map (λ (row : SubscriberRow). row.sub_nbr) (subscriber_at (book_in ks) s_id) ≡ option_map (λ (row : SubscriberRow). row.sub_nbr) (subscriber_at (book_in owners) s_id)
number_later owners ks later s_id = (later_same owners ks later).number (key_of s_id 0 0)

pub bearer_later : (owners ks : List RegionOwner) → AreLater owners ks → (n : ℕ) → bearer_id (book_in ks).subscribers n ≡ bearer_id (book_in owners).subscribers n
bearer_later owners ks later n = (later_same owners ks later).bearer n

-- owners that stand for others keep the owners' rules
pub each_owner : (owners ks : List RegionOwner) → AreLater owners ks → AllZip IsLaterOwner owners ks
each_owner owners ks later = zip_weaker (λ s k is. is.owner) owners ks later

pub all_ruled_later : (h : OwnersState) (ks : List RegionOwner) → AreOwners h → AreLater h.owners ks → AreOwners (with_owners h ks)
all_ruled_later h ks are later = ruled_later h ks are (each_owner h.owners ks later)

-- and those of a register, beside the same index
pub registered_later : (h : OwnersState) (ks : List RegionOwner) (pairs : List (ℕ × ℕ)) → AreOwners h → AreLater h.owners ks → IsRegister (book_in h.owners) pairs → IsRegister (book_in ks) pairs
registered_later h ks pairs are later register =
    let now = all_ruled_later h ks are later in
    same_registered (book_in h.owners) (book_in ks) pairs register
    (state_rows h.width 1 h.regions (states_in ks) (owned h.width h.regions ks now.each) now.are.consecutive) (numbers_later h.owners ks later)
