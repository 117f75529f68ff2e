-- Whoever an event needs is at home where all are, and where the one is whom its action needs.
use Rattle.hlr_core.proofs.Common.{◌≡◌, ◌∙◌, arith, refl, sym, ap, ℕ, zero, suc, ◌+◌, ◌-◌, List, [], ◌∷◌, Bool, true, inl, inr, Option, Some, None, Ok, Err, ◌⊎◌, IfOk, IfSome, insert, option_map, remove, AllByRecursion, Refusal, s_id_of, Action, DeskState, outs_in, IsWithNew, IsWithout, AllHome, IsHomeFor, IsHomeFrom, OwnersState, book_in, homes_in, home_of_all, part_home_of_all, IsBearerHome, IsHomeTo, AreHomesAfter, IsLaterDesk, HaveSameHomes, AreHomesDissolved, AreHomesDivided, IsAsked, action_asked, divided_reply, dissolved_reply, bearer_id, Event, UpdateLocation, InsertForwarding, DeleteForwarding, Post, Give, Take, Divide, Dissolve, Reply, Result}
use Rattle.hlr_core.proofs.PartsLemmas.{trues_each, trues_to}
use Rattle.hlr_core.specs.declared.event.Reply.TheVariants as reply

bearer_home : (sub_nbr : ℕ) (h : OwnersState) → AllHome h.owners → IsBearerHome sub_nbr h
bearer_home sub_nbr h all =
    elim (bearer_id (book_in h.owners).subscribers sub_nbr) as (λ o. IfSome o (λ s_id. IsHomeFor s_id h)) [ None ↦ tt | Some s_id ↦ home_of_all s_id h all ]

-- what each element keeps is kept with one element more that keeps it, or with one fewer
all_with : {X : Type 0} (P : X → Type 0) (i : ℕ) (x : X) (xs : List X) → P x → AllByRecursion P xs → AllByRecursion P (insert xs i x)
all_with P zero x xs new all = (new, all)
all_with P (suc i) x [] new all = (new, tt)
all_with P (suc i) x (y ∷ xs) new all = (all.0, all_with P i x xs new all.1)

all_without : {X : Type 0} (P : X → Type 0) (i : ℕ) (xs : List X) → AllByRecursion P xs → AllByRecursion P (remove xs i)
all_without P zero [] all = tt
all_without P (suc i) [] all = tt
all_without P zero (x ∷ xs) all = all.1
all_without P (suc i) (x ∷ xs) all = (all.0, all_without P i xs all.1)

-- where all are at home, so are all from one on
pub home_from_all : (part : ℕ) (h : OwnersState) → AllHome h.owners → IsHomeFrom part h
home_from_all part h all = trues_to (homes_in h.owners) part (λ q from low. trues_each (homes_in h.owners) 0 q all (omega arith))

-- where all are at home, the one is whom an event needs
pub home_to_all : (event : Event) (h : OwnersState) → AllHome h.owners → IsHomeTo event h
home_to_all (UpdateLocation sub_nbr vlr_location) h all = bearer_home sub_nbr h all
home_to_all (InsertForwarding sub_nbr sf_type start_time end_time numberx) h all = bearer_home sub_nbr h all
home_to_all (DeleteForwarding sub_nbr sf_type start_time) h all = bearer_home sub_nbr h all
home_to_all (Post part limit) h all = part_home_of_all part h all
home_to_all (Give part side at) h all = part_home_of_all part h all
home_to_all (Take piece part) h all = part_home_of_all part h all
home_to_all (Divide part at) h all = home_from_all part h all
home_to_all (Dissolve part) h all = home_from_all (part - 1) h all
home_to_all _ h all = home_of_all _ h all

-- an edit that was asked for is of the subscriber who was named
pub home_of_asked : {E : Type 0} (action : E → Action) (fits : Bool) (act : Action) (h : OwnersState) (asked : Result E Refusal)
    → IsHomeFor (s_id_of act) h → IsAsked fits (Some act) (action_asked action asked) → IfOk asked (λ edit. IsHomeFor (s_id_of (action edit)) h)
home_of_asked action fits act h (Err why) home is = tt
home_of_asked action fits act h (Ok edit) home is = let same : act ≡ action edit = (let one = is.0 in cc) in rw same at home

-- or of the one who has the number
pub home_of_bearer : {E : Type 0} (action : E → Action) (fits : Bool) (wanted : ℕ → Action) (bearer : Option ℕ) (h : OwnersState) (asked : Result E Refusal) → ((s_id : ℕ) → s_id_of (wanted s_id) ≡ s_id)
    → IfSome bearer (λ s_id. IsHomeFor s_id h) → IsAsked fits (option_map wanted bearer) (action_asked action asked) → IfOk asked (λ edit. IsHomeFor (s_id_of (action edit)) h)
home_of_bearer action fits wanted bearer h (Err why) own home is = tt
home_of_bearer action fits wanted None h (Ok edit) own home is = absurd (let none = is.0 in cc)
home_of_bearer action fits wanted (Some s_id) h (Ok edit) own home is =
    let same : wanted s_id ≡ action edit = (let one = is.0 in cc) in
    let named : s_id ≡ s_id_of (action edit) = rw same at (sym (own s_id)) in
    rw named at home

-- what changes nothing, and what changes owners alone and nobody's being at home or out
pub homes_kept : (h : OwnersState) → HaveSameHomes h h
homes_kept h = record { homes = refl; outs = refl; spare = refl }

pub homes_edited : (before after : OwnersState) → homes_in after.owners ≡ homes_in before.owners → outs_in after.owners ≡ outs_in before.owners → after ≡ record before { owners = after.owners } → HaveSameHomes before after
homes_edited before after homes outs same = record { homes = homes; outs = outs; spare = ap (λ (h : OwnersState). h.spare) same }

-- what moves regions and owners alone, and nobody's being at home or out
pub homes_moved : (before after : OwnersState) → homes_in after.owners ≡ homes_in before.owners → outs_in after.owners ≡ outs_in before.owners → after ≡ record before { regions = after.regions; owners = after.owners } → HaveSameHomes before after
homes_moved before after homes outs same = record { homes = homes; outs = outs; spare = ap (λ (h : OwnersState). h.spare) same }

-- who is at home after a divide and after a dissolve
pub homes_divided : (part at : ℕ) (done : Result (ℕ × ℕ × ℕ) Refusal) (before after : OwnersState) → AreHomesDivided part done before after → AreHomesAfter (Divide part at) (divided_reply done) before after
homes_divided part at (Ok new) before after homes = homes
homes_divided part at (Err why) before after same = rw same (homes_kept before)

pub homes_dissolved : (part : ℕ) (done : Result (ℕ × ℕ × ℕ) Refusal) (before after : OwnersState) → AreHomesDissolved part done before after → AreHomesAfter (Dissolve part) (dissolved_reply done) before after
homes_dissolved part (Ok front) before after homes = homes
homes_dissolved part (Err why) before after same = rw same (homes_kept before)

-- all are at home where all were, if the same parts are at home
pub still_home : (before after : OwnersState) → HaveSameHomes before after → AllHome before.owners → AllHome after.owners
still_home before after same all = rw (same.homes) all

-- and all are at home with a new part, and without one
pub home_with_new : (part : ℕ) (before after : OwnersState) → IsWithNew part before after → AllHome before.owners → AllHome after.owners
home_with_new part before after new all = rw (new.homes) (all_with (λ (home : Bool). home ≡ true) (part + 1) true (homes_in before.owners) refl all)

pub home_without : (part : ℕ) (before after : OwnersState) → IsWithout part before after → AllHome before.owners → AllHome after.owners
home_without part before after gone all = rw (gone.homes) (all_without (λ (home : Bool). home ≡ true) part (homes_in before.owners) all)

-- nobody came or went, or a part came or went
abbrev pub HasMoved : OwnersState → OwnersState → Type 0
HasMoved before after = HaveSameHomes before after ⊎ ((part : ℕ) × (IsWithNew part before after ⊎ IsWithout part before after))

-- so it is after each event
homes_moves : (event : Event) (answer : Reply) (before after : OwnersState) → AreHomesAfter event answer before after → HasMoved before after
homes_moves (Divide part at) (reply.Divided new lo hi) before after homes = inr (part, inl homes)
homes_moves (Dissolve part) (reply.Dissolved front lo hi) before after homes = inr (part, inr homes)
homes_moves _ _ before after homes = inl homes

-- the desk of the free slots is a later one where it stays, gives a slot up or takes one in
pub desk_same : (before after : DeskState) → after ≡ before → IsLaterDesk before after
desk_same before after same = rw same (record { board = refl; seen = λ w. omega arith })

pub desk_kept : (before after : OwnersState) → HaveSameHomes before after → IsLaterDesk before.spare after.spare
desk_kept before after same = desk_same before.spare after.spare same.spare

desk_with_new : (part : ℕ) (before after : OwnersState) → IsWithNew part before after → IsLaterDesk before.spare after.spare
desk_with_new part before after new = rw (new.spare) (record { board = refl; seen = λ w. omega arith })

desk_without : (part : ℕ) (before after : OwnersState) → IsWithout part before after → IsLaterDesk before.spare after.spare
desk_without part before after gone = record { board = ap (λ (d : DeskState). d.board) gone.spare; seen = gone.seen }

-- after an event all are at home where all were, and that desk is a later one
after_event : (event : Event) (answer : Reply) (before after : OwnersState) → AreHomesAfter event answer before after
    → (AllHome before.owners → AllHome after.owners) × IsLaterDesk before.spare after.spare
after_event event answer before after homes = elim (homes_moves event answer before after homes) [
  | inl same ↦ (still_home before after same, desk_kept before after same)
  | inr moved ↦ elim moved.1 [
    | inl new ↦ (home_with_new moved.0 before after new, desk_with_new moved.0 before after new)
    | inr gone ↦ (home_without moved.0 before after gone, desk_without moved.0 before after gone)
  ]
]

pub home_after : (event : Event) (answer : Reply) (before after : OwnersState) → AreHomesAfter event answer before after → AllHome before.owners → AllHome after.owners
home_after event answer before after homes = (after_event event answer before after homes).0

pub desk_after : (event : Event) (answer : Reply) (before after : OwnersState) → AreHomesAfter event answer before after → IsLaterDesk before.spare after.spare
desk_after event answer before after homes = (after_event event answer before after homes).1

-- one after another
pub desk_later : (a b c : DeskState) → IsLaterDesk a b → IsLaterDesk b c → IsLaterDesk a c
desk_later a b c one two = record {
  board = two.board ∙ one.board;
  seen = λ w. let first = one.seen w in let second = two.seen w in omega (arith, first, second);
}
