-- A register with what the holdings that are out have become.
use Rattle.hlr_workers.proofs.Common.{◌≡◌, ◌∙◌, refl, sym, ap, ℕ, zero, suc, ◌<◌, List, [], ◌∷◌, ◌++◌, length, get_or, set, map, arith, true, false, Bool, Some, None, inl, inr, Option, position, slice_get, if◌then◌else◌, ◌⊎◌, position-Some, none-some, same_Some, by_test, book_of, is_part, past_parts, blank, HoldingState, Job, Act, Post, words_of, slots_in, OwnerState, PartOwnerState, out_of, outs_in, with_out, with_outs, OwnersState, AreOwners, desks_in, homes_in, of_parts, of_part, state_of, states_in, store_in, RegionOwner, Part, Piece, holding_keeps, ahead, count_parts, number_at, part_state_at, part_has_place, states-set, AreLater, IsLater, with_owners, IsDoneAt, IsJobDone, Reply, all_later_self, later_after, AllNumberless, AreNumberless, IsNumberless, AreEnds, IsSessionBy}
use Rattle.hlr_workers.proofs.BackLemmas.{job_numbers}
use Rattle.hlr_workers.proofs.SessionLemmas.{job_same}

-- owners with the same rows and desks make the same store
pub same_store : (h : OwnersState) (a b : List RegionOwner) → states_in a ≡ states_in b → desks_in a ≡ desks_in b → store_in (with_owners h a) ≡ store_in (with_owners h b)
same_store h a b states desks = λ i. record {
  book = book_of (map (λ (o : OwnerState). o.part) (states i));
  regions = h.regions;
  words = words_of (h.spare ∷ desks i);
  sight = h.spare.view.seen;
  slots = map slots_in (desks i);
  width = h.width;
}

-- so do owners that differ in whether a part is at home
parts_same : {X : Type 0} (f : PartOwnerState → X) (owners : List RegionOwner) (i : ℕ) (m n : PartOwnerState) → f m ≡ f n → of_parts f (set owners i (Part m)) ≡ of_parts f (set owners i (Part n))
parts_same f [] i m n same = refl
parts_same f (t ∷ owners) zero m n same = ap (λ x. (x ∷ []) ++ of_parts f owners) same
parts_same f (t ∷ owners) (suc i) m n same = ap (λ rest. of_part f t ++ rest) (parts_same f owners i m n same)

pub owner_store : (h : OwnersState) (owners : List RegionOwner) (i : ℕ) (m n : PartOwnerState) → m.holding ≡ n.holding
    → store_in (with_owners h (set owners i (Part m))) ≡ store_in (with_owners h (set owners i (Part n)))
owner_store h owners i m n same =
    same_store h (set owners i (Part m)) (set owners i (Part n))
    (states-set owners i (Part m) ∙ ap (λ (k : HoldingState). set (states_in owners) i (state_of (Part (record { holding = k; home = true })))) same ∙ sym (states-set owners i (Part n)))
    (parts_same (λ (o : PartOwnerState). o.holding.desk) owners i m n (ap (λ (k : HoldingState). k.desk) same))

-- a part that is out has the holding of its number
pub out_at : (owners : List RegionOwner) (ends : List HoldingState) (i : ℕ) (l : PartOwnerState) (y : HoldingState) → Part l ≡ get_or owners i (Part l) → i < length owners → slice_get ends (ahead owners i) ≡ Some y
    → slice_get (with_outs owners ends) i ≡ Some (Part (with_out l y))
out_at [] ends i l y is low end = absurd (omega arith)
out_at (Piece b ∷ owners) ends zero l y is low end = absurd cc
out_at (Piece b ∷ owners) ends (suc i) l y is low end = out_at owners ends i l y is (omega arith) end
out_at (Part n ∷ owners) [] zero l y is low end = absurd (none-some y end)
out_at (Part n ∷ owners) [] (suc i) l y is low end = absurd (none-some y end)
out_at (Part n ∷ owners) (k ∷ ends) zero l y is low end =
    let one : n ≡ l = cc in
    let two : k ≡ y = same_Some k y end in
    rw (one, two) refl
out_at (Part n ∷ owners) (k ∷ ends) (suc i) l y is low end = out_at owners ends i l y is (omega arith) end

-- another end of it
pub out_ends : (owners : List RegionOwner) (ends : List HoldingState) (i : ℕ) (l : PartOwnerState) (y z : HoldingState) → Part l ≡ get_or owners i (Part l) → i < length owners → slice_get ends (ahead owners i) ≡ Some z
    → with_outs owners (set ends (ahead owners i) y) ≡ set (with_outs owners ends) i (Part (with_out l y))
out_ends [] ends i l y z is low end = absurd (omega arith)
out_ends (Piece b ∷ owners) ends zero l y z is low end = absurd cc
out_ends (Piece b ∷ owners) ends (suc i) l y z is low end = ap (λ (rest : List RegionOwner). Piece b ∷ rest) (out_ends owners ends i l y z is (omega arith) end)
out_ends (Part n ∷ owners) [] zero l y z is low end = absurd (none-some z end)
out_ends (Part n ∷ owners) [] (suc i) l y z is low end = absurd (none-some z end)
out_ends (Part n ∷ owners) (k ∷ ends) zero l y z is low end = let one : n ≡ l = cc in rw one refl
out_ends (Part n ∷ owners) (k ∷ ends) (suc i) l y z is low end = ap (λ (rest : List RegionOwner). Part (with_out n k) ∷ rest) (out_ends owners ends i l y z is (omega arith) end)

-- another part in its place
pub out_owners : (owners : List RegionOwner) (ends : List HoldingState) (i : ℕ) (l m : PartOwnerState) (y : HoldingState) → Part l ≡ get_or owners i (Part l) → i < length owners → slice_get ends (ahead owners i) ≡ Some y
    → with_outs (set owners i (Part m)) ends ≡ set (with_outs owners ends) i (Part (with_out m y))
out_owners [] ends i l m y is low end = absurd (omega arith)
out_owners (Piece b ∷ owners) ends zero l m y is low end = absurd cc
out_owners (Piece b ∷ owners) ends (suc i) l m y is low end = ap (λ (rest : List RegionOwner). Piece b ∷ rest) (out_owners owners ends i l m y is (omega arith) end)
out_owners (Part n ∷ owners) [] zero l m y is low end = absurd (none-some y end)
out_owners (Part n ∷ owners) [] (suc i) l m y is low end = absurd (none-some y end)
out_owners (Part n ∷ owners) (k ∷ ends) zero l m y is low end = let two : k ≡ y = same_Some k y end in rw two refl
out_owners (Part n ∷ owners) (k ∷ ends) (suc i) l m y is low end = ap (λ (rest : List RegionOwner). Part (with_out n k) ∷ rest) (out_owners owners ends i l m y is (omega arith) end)

-- a part at home stays as it is, whatever stands in its place
out_still : (l : PartOwnerState) (y : HoldingState) → out_of l ≡ None → with_out l y ≡ l
out_still l y none =
    by_test l.home
    (λ e. ap (λ (b : Bool). record l { holding = if b then l.holding else y }) e)
    (λ e. absurd (none-some l.holding (sym none ∙ ap (λ (b : Bool). if b then None else Some l.holding) e)))

-- holdings that are the same where a part is out
pub with_outs_same : (owners : List RegionOwner) (a b : List HoldingState) → ((q : ℕ) → (get_or (outs_in owners) q None ≡ None) ⊎ (slice_get a q ≡ slice_get b q)) → with_outs owners a ≡ with_outs owners b
with_outs_same [] a b each = refl
with_outs_same (Piece c ∷ owners) a b each = ap (λ (rest : List RegionOwner). Piece c ∷ rest) (with_outs_same owners a b each)
with_outs_same (Part l ∷ owners) [] [] each = refl
with_outs_same (Part l ∷ owners) [] (y ∷ b) each = elim (each 0) [
  | inl none ↦ λ i. Part (sym (out_still l y none) i) ∷ with_outs_same owners [] b (λ q. each (suc q)) i
  | inr same ↦ absurd (none-some y same)
]
with_outs_same (Part l ∷ owners) (x ∷ a) [] each = elim (each 0) [
  | inl none ↦ λ i. Part (out_still l x none i) ∷ with_outs_same owners a [] (λ q. each (suc q)) i
  | inr same ↦ absurd (none-some x (sym same))
]
with_outs_same (Part l ∷ owners) (x ∷ a) (y ∷ b) each = λ i. Part (first i) ∷ with_outs_same owners a b (λ q. each (suc q)) i
  where
    first : with_out l x ≡ with_out l y
    first = elim (each 0) [
      | inl none ↦ out_still l x none ∙ sym (out_still l y none)
      | inr same ↦ ap (with_out l) (same_Some x y same)
    ]

-- the index of the part with a number
pub record IsPartAt (h : OwnersState) (p i : ℕ) (l : PartOwnerState) : Type 0 where
  pub region : position (is_part p) h.regions ≡ Some i
  pub owner : Part l ≡ get_or h.owners i (Part l)
  pub there : i < length h.owners
  pub number : ahead h.owners i ≡ p

module _ (h : OwnersState) (are : AreOwners h) (p : ℕ) where
  pub part_at : (i : ℕ) → position (is_part p) h.regions ≡ Some i → (l : PartOwnerState) × IsPartAt h p i l
  part_at i index =
      let there = part_has_place h are p i index in
      let part_owner_state = part_state_at h are p i index in
      let here = position-Some (is_part p) h.regions i blank index in
      (part_owner_state.0, record { region = index; owner = part_owner_state.1; there = there; number = number_at h are p i here.0 here.1 })

  pub part_with_number : p < length (homes_in h.owners) → (i : ℕ) × (l : PartOwnerState) × IsPartAt h p i l
  part_with_number low = cases (position (is_part p) h.regions) refl
    where
      cases : (o : Option ℕ) → position (is_part p) h.regions ≡ o → (i : ℕ) × (l : PartOwnerState) × IsPartAt h p i l
      cases None none =
          let past = past_parts p h.regions are.are none in
          let count = count_parts (λ (o : PartOwnerState). o.home) h.width h.regions h.owners are.each in
          absurd (omega arith)
      cases (Some i) index = let found = part_at i index in (i, found.0, found.1)

-- what jobs do to a holding that is out
numberless_later : (job : Job) (home : Bool) (a : HoldingState) (answer : Reply) (b : HoldingState) → IsNumberless job → IsJobDone job a answer b
    → IsLater (Part (record { holding = a; home = home })) (Part (record { holding = b; home = home }))
numberless_later (Act act) home a answer b none done = record {
  owner = (job_same (Act act) a answer b done, λ lawful. holding_keeps b done.rules, λ wide. done.rules.wide);
  numbers = job_numbers (Act act) a answer b none done;
}
numberless_later (Post limit) home a answer b none done = record {
  owner = (job_same (Post limit) a answer b done, λ lawful. holding_keeps b done.rules, λ wide. done.rules.wide);
  numbers = job_numbers (Post limit) a answer b none done;
}

owner_itself : (s : RegionOwner) → IsLater s s
owner_itself s = (all_later_self (s ∷ [])).0

session_later : (reply : ℕ → Reply) (home : Bool) (a : HoldingState) (jobs : List (ℕ × Job)) (b : HoldingState) → AreNumberless jobs → IsSessionBy reply a jobs b
    → IsLater (Part (record { holding = a; home = home })) (Part (record { holding = b; home = home }))
session_later reply home a [] b none session = rw session (owner_itself (Part (record { holding = a; home = home })))
session_later reply home a (job ∷ jobs) b none session =
    later_after (Part (record { holding = a; home = home })) (Part (record { holding = session.0; home = home })) (Part (record { holding = b; home = home }))
    (numberless_later job.1 home a (reply job.0) session.0 none.0 session.1) (session_later reply home session.0 jobs b none.1 session.2)

-- so the owners where the parts that are out end may stand for those as they were lent
pub ends_later : (reply : ℕ → Reply) (owners : List RegionOwner) (jobs : List (List (ℕ × Job))) (ends : List HoldingState) → AllNumberless jobs → AreEnds reply (outs_in owners) jobs ends
    → AreLater owners (with_outs owners ends)
ends_later reply [] jobs ends none are = tt
ends_later reply (Piece b ∷ owners) jobs ends none are = (owner_itself (Piece b), ends_later reply owners jobs ends none are)
ends_later reply (Part l ∷ owners) [] ends none are = absurd are
ends_later reply (Part l ∷ owners) (own ∷ jobs) [] none are = absurd are
ends_later reply (Part l ∷ owners) (own ∷ jobs) (y ∷ ends) none are = (
  by_test l.home
      (λ e. let one : with_out l y ≡ l = ap (λ (b : Bool). record l { holding = if b then l.holding else y }) e in rw one (owner_itself (Part l)))
      (λ e.
      let one : with_out l y ≡ record l { holding = y } = ap (λ (b : Bool). record l { holding = if b then l.holding else y }) e in
      rw one (session_later reply l.home l.holding own y none.0 (rw e at are.0))),
  ends_later reply owners jobs ends none.1 are.1,
)

-- a job done by a part that is out, among all owners
pub out_done : (h : OwnersState) (p i : ℕ) (l : PartOwnerState) (at : IsPartAt h p i l) → l.home ≡ false → (ends : List HoldingState) (m y : HoldingState) → slice_get ends p ≡ Some m
    → (job : Job) (answer : Reply) → IsJobDone job m answer y → IsDoneAt h.regions p job (with_outs h.owners ends) answer (with_outs h.owners (set ends p y))
out_done h p i l at away ends m y end job answer done =
    let m_is : (with_out l m).holding ≡ m = ap (λ (b : Bool). if b then l.holding else m) away in
    let y_is : with_out l y ≡ record (with_out l m) { holding = y } = ap (λ (b : Bool). record l { holding = if b then l.holding else y }) away in
    let end_at : slice_get ends (ahead h.owners i) ≡ Some m = rw at.number end in
    record {
      index = i;
      part_owner_state = with_out l m;
      holding = y;
      region = at.region;
      owner = out_at h.owners ends i l m at.owner at.there end_at;
      done = rw m_is done;
      is = (rw at.number at (out_ends h.owners ends i l y m at.owner at.there end_at)) ∙ ap (λ (o : PartOwnerState). set (with_outs h.owners ends) i (Part o)) y_is;
    }
