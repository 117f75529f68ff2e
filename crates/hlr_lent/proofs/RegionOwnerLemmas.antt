-- Owners of parts that go out and come home.
use Rattle.hlr_lent.proofs.Common.{◌≡◌, ◌∙◌, refl, sym, ap, ℕ, zero, suc, ◌<◌, ◌≤◌, List, [], ◌∷◌, length, get_or, set, arith, true, false, Bool, Some, None, inl, inr, Option, position, slice_get, if◌then◌else◌, cases_lt, get_or_past, none-some, same_Some, slice_get-get_or, slice_get_read, get_or_from_slice_get, is_part, MOST_PARTS, past_parts, HoldingState, PartOwnerState, out_of, outs_in, AreOwners, IsLent, OwnersState, RegionOwner, Part, at_number, count_parts, part_state_at, part_has_place, set_number, by_test, IsBackWith, IsBack, IsWorked}
use Rattle.hlr_lent.proofs.JobLemmas.{away, worked_back}
use Rattle.hlr_lent.proofs.RingLemmas.{set_again}

-- the owner of a part with what its holding is at home
abbrev pub at_home : HoldingState → RegionOwner
at_home k = Part (record { holding = k; home = true })

-- what stands there put again
put_same : {X : Type 0} (xs : List X) (i : ℕ) (x : X) → slice_get xs i ≡ Some x → set xs i x ≡ xs
put_same [] i x at = refl
put_same (y ∷ xs) zero x at = ap (λ z. z ∷ xs) (sym (same_Some y x at))
put_same (y ∷ xs) (suc i) x at = ap (λ rest. y ∷ rest) (put_same xs i x at)

-- what is put where something stood stands there
put_there : {X : Type 0} (xs : List X) (i : ℕ) (x y : X) → slice_get xs i ≡ Some x → slice_get (set xs i y) i ≡ Some y
put_there [] i x y stood = absurd (none-some x stood)
put_there (z ∷ xs) zero x y stood = refl
put_there (z ∷ xs) (suc i) x y stood = put_there xs i x y stood

-- a part that was lent may be taken back at once, and then nothing has changed
module _ (p : ℕ) (h g : OwnersState) (k : HoldingState) (lent : IsLent p h k g) where
  pub fits_again : IsBackWith (slice_get g.owners lent.index) k
  fits_again = rw (lent.away, put_there h.owners lent.index (at_home k) (away k) lent.owner) (worked_back k k ([], refl))

  pub undone : (back : HoldingState) → back ≡ k → record g { owners = set g.owners lent.index (at_home back) } ≡ h
  undone back same =
      rw (same, lent.away)
      (ap (λ (owners : List RegionOwner). record h { owners = owners }) (set_again h.owners lent.index (away k) (at_home k) ∙ put_same h.owners lent.index (at_home k) lent.owner))

module _ (h : OwnersState) (are : AreOwners h) where
  -- there are at most so many parts
  pub few_outs : length (outs_in h.owners) ≤ MOST_PARTS
  few_outs =
      omega (arith, count_parts out_of h.width h.regions h.owners are.each, are.are.few_parts)

  -- a part goes out
  module _ (p : ℕ) (k : HoldingState) (g : OwnersState) (lent : IsLent p h k g) where
    was : at_home k ≡ get_or h.owners lent.index (at_home k)
    was = sym (get_or_from_slice_get h.owners lent.index (at_home k) (at_home k) lent.owner)

    pub lent_there : p < length (outs_in h.owners)
    lent_there = (at_number h are p lent.index lent.region out_of (record { holding = k; home = true }) was None).0

    pub lent_outs : outs_in g.owners ≡ set (outs_in h.owners) p (Some k)
    lent_outs = rw lent.away (set_number h are p lent.index lent.region out_of (record { holding = k; home = true }) was (record { holding = k; home = false }))

  -- where the owner of a part is that is out
  pub record IsOutAt (p i : ℕ) (lent : HoldingState) : Type 0 where
    pub region : position (is_part p) h.regions ≡ Some i
    pub owner : slice_get h.owners i ≡ Some (away lent)

  out_there : (p : ℕ) (lent : HoldingState) → get_or (outs_in h.owners) p None ≡ Some lent → p < length (outs_in h.owners)
  out_there p lent out = elim (cases_lt p (length (outs_in h.owners))) [
    | inl below ↦ below
    | inr past ↦ absurd (none-some lent (sym (get_or_past (outs_in h.owners) p None past) ∙ out))
  ]

  part_state_away : (l : PartOwnerState) (lent : HoldingState) → out_of l ≡ Some lent → l ≡ record { holding = lent; home = false }
  part_state_away l lent has =
      by_test l.home
      (λ e. absurd (none-some lent (sym (ap (λ (b : Bool). if b then None else Some l.holding) e) ∙ has)))
      (λ e. let same : l.holding ≡ lent = same_Some l.holding lent (sym (ap (λ (b : Bool). if b then None else Some l.holding) e) ∙ has) in rw (← e, ← same) refl)

  pub out_at : (p : ℕ) (lent : HoldingState) → get_or (outs_in h.owners) p None ≡ Some lent → (i : ℕ) × IsOutAt p i lent
  out_at p lent out = cases (position (is_part p) h.regions) refl
    where
      cases : (o : Option ℕ) → position (is_part p) h.regions ≡ o → (i : ℕ) × IsOutAt p i lent
      cases None none =
          let past = past_parts p h.regions are.are none in
          let count = count_parts out_of h.width h.regions h.owners are.each in
          let low = out_there p lent out in
          absurd (omega arith)
      cases (Some i) region =
          let part_owner_state = part_state_at h are p i region in
          let there = part_has_place h are p i region in
          let has : out_of part_owner_state.0 ≡ Some lent = (at_number h are p i region out_of part_owner_state.0 part_owner_state.1 None).1 ∙ out in
          let owner = slice_get_read h.owners (length h.owners) i (Part part_owner_state.0) refl there part_owner_state.1 in
          (i, record { region = region; owner = owner ∙ ap (λ (l : PartOwnerState). Some (Part l)) (part_state_away part_owner_state.0 lent has) })

  -- and it comes home
  module _ (p : ℕ) (lent home : HoldingState) (out : get_or (outs_in h.owners) p None ≡ Some lent) (worked : IsWorked lent home) where
    pub home_with : (i : ℕ) × IsBackWith (slice_get h.owners i) home
    home_with = let at = out_at p lent out in (at.0, rw at.1.owner (worked_back lent home worked))

    pub home_there : p < length (outs_in h.owners)
    home_there = out_there p lent out

    pub home_outs : outs_in (set h.owners home_with.0 (at_home home)) ≡ set (outs_in h.owners) p None
    unfolding home_with
    home_outs =
        let at = out_at p lent out in
        let was : away lent ≡ get_or h.owners at.0 (away lent) = sym (get_or_from_slice_get h.owners at.0 (away lent) (away lent) at.1.owner) in
        set_number h are p at.0 at.1.region out_of (record { holding = lent; home = false }) was (record { holding = home; home = true })

    pub home_back : IsBack p h (record h { owners = set h.owners home_with.0 (at_home home) })
    unfolding home_with
    home_back =
        let at = out_at p lent out in
        record {
          lent = lent;
          home = home;
          index = at.0;
          out = slice_get-get_or (outs_in h.owners) p None home_there ∙ ap Some out;
          worked = worked;
          region = at.1.region;
          becomes = refl;
        }
