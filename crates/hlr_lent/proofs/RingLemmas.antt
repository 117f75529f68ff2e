-- The rings of the parts: who is at home, and what is left of them as a part goes out and comes home.
use Rattle.hlr_lent.proofs.Common.{◌≡◌, ◌∙◌, refl, sym, ap, ℕ, zero, suc, ◌<◌, ◌≤◌, List, [], ◌∷◌, length, get_or, set, replicate, arith, true, false, Bool, Some, None, inl, inr, Option, IsTrue, ◌↔◌, is_some, not, if◌then◌else◌, Global, cases_lt, get_or_default, get_or_past, get_or-replicate, length-replicate, none-some, received, Consumer, by_test, HoldingState, PartOwnerState, out_of, outs_in, homes_in, RegionOwner, Part, Piece, HasRing, HaveRings, lent_as, Message, ReturnRule}

abbrev pub Ring : Type 0
Ring = Consumer Message Global ReturnRule

-- a part is at home where none of it is out
pub out_of_home : (l : PartOwnerState) → l.home ≡ true → out_of l ≡ None
out_of_home l home = ap (λ (b : Bool). if b then None else Some l.holding) home

pub home_of_out : (l : PartOwnerState) → out_of l ≡ None → l.home ≡ true
home_of_out l none =
    by_test l.home
    (λ e. e)
    (λ e. absurd (none-some l.holding (sym none ∙ ap (λ (b : Bool). if b then None else Some l.holding) e)))

pub none_out : (owners : List RegionOwner) (p : ℕ) → get_or (homes_in owners) p true ≡ true → get_or (outs_in owners) p None ≡ None
none_out [] p home = refl
none_out (Piece b ∷ owners) p home = none_out owners p home
none_out (Part l ∷ owners) zero home = out_of_home l home
none_out (Part l ∷ owners) (suc p) home = none_out owners p home

home_there : (owners : List RegionOwner) (p : ℕ) → get_or (outs_in owners) p None ≡ None → get_or (homes_in owners) p true ≡ true
home_there [] p none = refl
home_there (Piece b ∷ owners) p none = home_there owners p none
home_there (Part l ∷ owners) zero none = home_of_out l none
home_there (Part l ∷ owners) (suc p) none = home_there owners p none

-- and where it has no ring
ring_none : (out : Option HoldingState) (ring : Option Ring) → HasRing out ring → out ≡ None → ring ≡ None
ring_none None None has none = refl
ring_none None (Some ring) has none = absurd has
ring_none (Some lent) None has none = refl
ring_none (Some lent) (Some ring) has none = absurd (none-some lent (sym none))

out_none : (out : Option HoldingState) (ring : Option Ring) → HasRing out ring → ring ≡ None → out ≡ None
out_none None ring has none = refl
out_none (Some lent) None has none = absurd has
out_none (Some lent) (Some ring) has none = absurd (none-some ring (sym none))

pub ring_tells : (owners : List RegionOwner) (rings : List (Option Ring)) → HaveRings (outs_in owners) rings → (p : ℕ) → (get_or rings p None ≡ None) ↔ (get_or (homes_in owners) p true ≡ true)
ring_tells owners rings have p = (
  λ none. home_there owners p (out_none (get_or (outs_in owners) p None) (get_or rings p None) (have p) none),
  λ home. ring_none (get_or (outs_in owners) p None) (get_or rings p None) (have p) (none_out owners p home),
)

-- where all are at home nobody has a ring
pub no_rings : (owners : List RegionOwner) (n : ℕ) → ((p : ℕ) → get_or (homes_in owners) p true ≡ true) → HaveRings (outs_in owners) (replicate n None)
no_rings owners n home p = rw (none_out owners p (home p), none_each p) tt
  where
    none_each : (p : ℕ) → get_or {A = Option Ring} (replicate n None) p None ≡ None
    none_each p = elim (cases_lt p n) [
      | inl below ↦ get_or-replicate n p None None below
      | inr past ↦ (let none : Option Ring = None in let long = length-replicate n none in get_or_past (replicate n none) p none (omega arith))
    ]

-- something put in both lists, and in one
both_set : {A B : Type 0} (P : A → B → Type 0) (d : A) (e : B) (xs : List A) (ys : List B) (p : ℕ) (x : A) (y : B) → ((q : ℕ) → P (get_or xs q d) (get_or ys q e)) → P x y → p < length xs → p < length ys
    → (q : ℕ) → P (get_or (set xs p x) q d) (get_or (set ys p y) q e)
both_set P d e [] ys p x y each one low short q = absurd (omega arith)
both_set P d e (a ∷ xs) [] p x y each one low short q = absurd (omega arith)
both_set P d e (a ∷ xs) (b ∷ ys) zero x y each one low short zero = one
both_set P d e (a ∷ xs) (b ∷ ys) zero x y each one low short (suc q) = each (suc q)
both_set P d e (a ∷ xs) (b ∷ ys) (suc p) x y each one low short zero = each 0
both_set P d e (a ∷ xs) (b ∷ ys) (suc p) x y each one low short (suc q) = both_set P d e xs ys p x y (λ r. each (suc r)) one (omega arith) (omega arith) q

pub set_again : {X : Type 0} (xs : List X) (i : ℕ) (a b : X) → set (set xs i a) i b ≡ set xs i b
set_again [] i a b = refl
set_again (x ∷ xs) zero a b = refl
set_again (x ∷ xs) (suc i) a b = ap (λ rest. x ∷ rest) (set_again xs i a b)

module _ (outs : List (Option HoldingState)) (rings : List (Option Ring)) (have : HaveRings outs rings) where
  -- a part goes out, and one comes home
  pub rings_put : (p : ℕ) (k : HoldingState) (ring : Ring) → p < length outs → p < length rings → lent_as (received ring) ≡ Some k → HaveRings (set outs p (Some k)) (set rings p (Some ring))
  rings_put p k ring there short told = both_set HasRing None None outs rings p (Some k) (Some ring) have told there short

  pub rings_taken : (p : ℕ) → p < length outs → p < length rings → HaveRings (set outs p None) (set rings p None)
  rings_taken p there short = both_set HasRing None None outs rings p None None have tt there short

  -- whose ring it is
  pub whose : (p : ℕ) (w : Ring) → get_or rings p None ≡ Some w → (lent : HoldingState) × (get_or outs p None ≡ Some lent) × (lent_as (received w) ≡ Some lent)
  whose p w is = cases (get_or outs p None) refl (rw is at (have p))
    where
      cases : (out : Option HoldingState) → get_or outs p None ≡ out → HasRing out (Some w) → (lent : HoldingState) × (get_or outs p None ≡ Some lent) × (lent_as (received w) ≡ Some lent)
      cases None e has = absurd has
      cases (Some lent) e has = (lent, e, has)

  -- a place that has a ring is there
  pub ring_there : (p : ℕ) (w : Ring) → get_or rings p None ≡ Some w → p < length rings
  ring_there p w is = elim (cases_lt p (length rings)) [
    | inl below ↦ below
    | inr past ↦ absurd (none-some w (sym (get_or_past rings p None past) ∙ is))
  ]

-- so a test of whether it has one tells whether it is at home
no_ring : (ring : Option Ring) (none : Bool) → is_some ring ≡ not none → (IsTrue none → ring ≡ None) × (ring ≡ None → IsTrue none)
no_ring None true test = (λ yes. refl, λ none. refl)
no_ring None false test = absurd cc
no_ring (Some ring) true test = absurd cc
no_ring (Some ring) false test = (λ yes. absurd cc, λ none. absurd (none-some ring (sym none)))

pub test_tells : (owners : List RegionOwner) (rings : List (Option Ring)) → HaveRings (outs_in owners) rings → (p : ℕ) (ring : Option Ring) (none : Bool) → p < length rings → ring ≡ get_or rings p ring → is_some ring ≡ not none
    → (IsTrue none → get_or (homes_in owners) p true ≡ true) × (get_or (homes_in owners) p true ≡ true → IsTrue none)
test_tells owners rings have p ring none there is test =
    let tells = ring_tells owners rings have p in
    let own = no_ring ring none test in
    let same : ring ≡ get_or rings p None = is ∙ get_or_default rings p ring None there in
    (λ yes. tells.0 (sym same ∙ own.0 yes), λ home. own.1 (same ∙ tells.1 home))

-- nobody is out behind the last ring
pub past_home : (owners : List RegionOwner) (rings : List (Option Ring)) → HaveRings (outs_in owners) rings → (p : ℕ) → length rings ≤ p → get_or (homes_in owners) p true ≡ true
past_home owners rings have p past = (ring_tells owners rings have p).0 (get_or_past rings p None past)
