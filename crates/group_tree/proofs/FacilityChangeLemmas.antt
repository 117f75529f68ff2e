-- What becomes of a tree of facilities when one is changed where it lies in its group.
use Rattle.group_tree.proofs.Common.{◌≡◌, ◌∙◌, refl, sym, ap, subst, ℕ, ◌==◌, true, List, [], ◌∷◌, Option, Some, None, IfSome, option_map, arith, nat_tests, by_test, unwrap_or, with_row_at, key_of_pair, value_at, revised_at, revised_none, revised_some, spent_at, AreGroups, Grouped, base_of, rows_of, is_between, LAST_SUBSCRIBER, SpecialFacilityRow, facility_in_range, facility_key, facility_type, facility_with, HoldsFacilities, facilities_listed, subscriber_span, s_id_in, start_time_in, facility_in, group_changed, change_spent, row_made}
use Rattle.group_tree.specs.declared.facility_change.FacilityChange.{FacilityChange}
use Rattle.group_tree.specs.Rules.{facility_laws}
use Rattle.group_tree.proofs.TreeLemmas.{its_rules, its_value, none_there, replaced_are, replaced_there}
use Rattle.group_tree.proofs.TypedLemmas.{facilities, holds_replaced, s_id_of_base, typed_found, typed_missing, typed_replaced}
use Rattle.tatp_rows.proofs.RowLemmas as ranges

-- what changes a facility, after its call
abbrev pub change_after : {E : Type 0} → (E → SpecialFacilityRow → E) → (E → SpecialFacilityRow → SpecialFacilityRow) → FacilityChange E → List SpecialFacilityRow → FacilityChange E
change_after spent revised within group = record within {
  change = record within.change { now = change_spent spent within.change.now (facility_in within.key group) };
  made = row_made (revised within.change.now) within.made (facility_in within.key group);
}

-- a value that is put in its own place
same_put : {V : Type 0} (key : ℕ) (v : V) (rows : List (ℕ × V)) → value_at key rows ≡ Some v → with_row_at key_of_pair key (key, v) rows ≡ rows
same_put key v [] e = refl
same_put key v (p ∷ rows) e =
    by_test (p.0 == key)
    (λ t.
    let at : p.0 ≡ key = grind (arith, nat_tests) in
    let is : Some p.1 ≡ Some v = rw t at e in
    let own : p.1 ≡ v = cc in
    rw t (ap (λ (k : ℕ). (k, v) ∷ rows) (sym at) ∙ ap (λ x. (p.0, x) ∷ rows) (sym own)))
    (λ t. rw t (ap (λ rest. p ∷ rest) (same_put key v rows (rw t at e))))

module _ (groups : List (ℕ × List SpecialFacilityRow)) (are : AreGroups facilities_listed HoldsFacilities groups) (key : ℕ) where
  -- the facility is where its group has it
  in_group : (group : List SpecialFacilityRow) → Some group ≡ value_at (base_of subscriber_span key) groups → facility_in key group ≡ value_at key (rows_of facilities_listed groups)
  in_group group there = its_value facility_laws are key refl group there (facility_in key group) (by_test (start_time_in key == 0)
      (λ t.
      let typed : start_time_in key ≡ 0 = grind (arith, nat_tests) in
      let holds = its_rules facility_laws are key refl group there in
      let in_range : is_between 1 LAST_SUBSCRIBER (s_id_in key) ≡ true = subst (λ (s_id : ℕ). is_between 1 LAST_SUBSCRIBER s_id ≡ true) (s_id_of_base key) holds.s_id in
      rw (t, in_range) (typed_found facilities key group typed))
      (λ t. rw t (sym (ap (option_map (λ p. p.1)) (typed_missing facilities key group (λ e. let wrong : (start_time_in key == 0) ≡ true = grind (arith, nat_tests) in cc))))))

  module _ (change : SpecialFacilityRow → SpecialFacilityRow) (keeps : IfSome (value_at key (rows_of facilities_listed groups)) (λ row. facility_key (change row) ≡ key)) (after : List (ℕ × List SpecialFacilityRow)) {base : ℕ} (at : base ≡ base_of subscriber_span key)
      (given : after ≡ revised_at base (λ group. group_changed change (facility_in key group) group) groups) where
    is : after ≡ revised_at (base_of subscriber_span key) (λ group. group_changed change (facility_in key group) group) groups
    is = given ∙ ap (λ (b : ℕ). revised_at b (λ group. group_changed change (facility_in key group) group) groups) at

    -- no facility is there, and nothing changes
    module _ (none : value_at key (rows_of facilities_listed groups) ≡ None) where
      none_after : after ≡ groups
      none_after = is ∙ by_group (value_at (base_of subscriber_span key) groups) refl
        where
          by_group : (found : Option (List SpecialFacilityRow)) → value_at (base_of subscriber_span key) groups ≡ found → revised_at (base_of subscriber_span key) (λ group. group_changed change (facility_in key group) group) groups ≡ groups
          by_group None e = revised_none (base_of subscriber_span key) (λ group. group_changed change (facility_in key group) group) groups e
          by_group (Some group) e =
              revised_some (base_of subscriber_span key) (λ group. group_changed change (facility_in key group) group) group groups e
              ∙ ap (λ o. with_row_at key_of_pair (base_of subscriber_span key) (base_of subscriber_span key, group_changed change o group) groups) (in_group group (sym e) ∙ none)
              ∙ same_put (base_of subscriber_span key) group groups e

      pub none_are : AreGroups facilities_listed HoldsFacilities after
      none_are = rw none_after are

      pub none_rows : rows_of facilities_listed after ≡ revised_at key change (rows_of facilities_listed groups)
      none_rows = ap (rows_of facilities_listed) none_after ∙ sym (revised_none key change (rows_of facilities_listed groups) none)

    -- a facility is there, and is changed to one in range
    module _ (old : SpecialFacilityRow) (there : value_at key (rows_of facilities_listed groups) ≡ Some old) (in_range : facility_in_range (change old) ≡ true) where
      kind : ranges.IsKind (facility_type (change old))
      kind = ranges.facility_type (change old) in_range

      kept : facility_key (change old) ≡ key
      kept = subst (λ o. IfSome o (λ row. facility_key (change row) ≡ key)) there keeps

      its_group : (found : Option (List SpecialFacilityRow)) → value_at (base_of subscriber_span key) groups ≡ found → (group : List SpecialFacilityRow) × (value_at (base_of subscriber_span key) groups ≡ Some group)
      its_group None e = absurd (let missing = none_there facility_laws are key refl (sym e) in cc)
      its_group (Some group) e = (group, e)

      group : List SpecialFacilityRow
      group = (its_group (value_at (base_of subscriber_span key) groups) refl).0

      group_is : value_at (base_of subscriber_span key) groups ≡ Some group
      unfolding group
      group_is = (its_group (value_at (base_of subscriber_span key) groups) refl).1

      -- the group with the new row
      abbrev changed : List SpecialFacilityRow
      changed = with_row_at facility_type (change old).sf_type (facility_with 0 (change old)) group

      listed_is : facilities_listed (base_of subscriber_span key) changed ≡ with_row_at key_of_pair key (key, change old) (facilities_listed (base_of subscriber_span key) group)
      listed_is =
          subst (λ (k : ℕ). facilities_listed (base_of subscriber_span k) changed ≡ with_row_at key_of_pair k (k, change old) (facilities_listed (base_of subscriber_span k) group)) kept
          (typed_replaced facilities (change old) kind group changed _ refl refl).rows

      after_is : after ≡ with_row_at key_of_pair (base_of subscriber_span key) (base_of subscriber_span key, changed) groups
      after_is =
          is ∙ revised_some (base_of subscriber_span key) (λ group. group_changed change (facility_in key group) group) group groups group_is
          ∙ ap (λ o. with_row_at key_of_pair (base_of subscriber_span key) (base_of subscriber_span key, group_changed change o group) groups) (in_group group (sym group_is) ∙ there)

      pub changed_are : AreGroups facilities_listed HoldsFacilities after
      changed_are =
          rw after_is (replaced_are facility_laws are key refl group (sym group_is) changed (change old) listed_is (holds_replaced facilities (change old) kind (base_of subscriber_span key) group changed (its_rules facility_laws are key refl group (sym group_is)) refl))

      pub changed_rows : rows_of facilities_listed after ≡ revised_at key change (rows_of facilities_listed groups)
      changed_rows =
          ap (rows_of facilities_listed) after_is
          ∙ replaced_there facility_laws are key refl group (sym group_is) changed (change old) listed_is
          ∙ sym (revised_some key change old (rows_of facilities_listed groups) there)

  -- what changes the facility, after that, and the row that it made
  module _ {E : Type 0} (spent : E → SpecialFacilityRow → E) (revised : E → SpecialFacilityRow → SpecialFacilityRow) (within later : FacilityChange E) (own : within.key ≡ key) (fresh : within.made ≡ None) {base : ℕ} (at : base ≡ base_of subscriber_span key)
      (given : later ≡ spent_at base (change_after spent revised) within groups) where
    later_is : later ≡ spent_at (base_of subscriber_span key) (change_after spent revised) within groups
    later_is = given ∙ ap (λ (b : ℕ). spent_at b (change_after spent revised) within groups) at

    its_facility : (group : List SpecialFacilityRow) → Some group ≡ value_at (base_of subscriber_span key) groups → facility_in within.key group ≡ value_at key (rows_of facilities_listed groups)
    its_facility group there = ap (λ (k : ℕ). facility_in k group) own ∙ in_group group there

    pub now_is : later.change.now ≡ spent_at key spent within.change.now (rows_of facilities_listed groups)
    now_is = ap (λ (w : FacilityChange E). w.change.now) later_is ∙ by_group (value_at (base_of subscriber_span key) groups) refl
      where
        by_facility : (o : Option SpecialFacilityRow) → change_spent spent within.change.now o ≡ unwrap_or (option_map (spent within.change.now) o) within.change.now
        by_facility None = refl
        by_facility (Some row) = refl

        by_group : (found : Option (List SpecialFacilityRow)) → value_at (base_of subscriber_span key) groups ≡ found → (unwrap_or (option_map (change_after spent revised within) (value_at (base_of subscriber_span key) groups)) within).change.now ≡ spent_at key spent within.change.now (rows_of facilities_listed groups)
        by_group None e = rw (e, ← none_there facility_laws are key refl (sym e)) refl
        by_group (Some group) e = rw e (by_facility (facility_in within.key group) ∙ ap (λ o. unwrap_or (option_map (spent within.change.now) o) within.change.now) (its_facility group (sym e)))

    pub made_is : later.made ≡ row_made (revised within.change.now) None (value_at key (rows_of facilities_listed groups))
    made_is = ap (λ (w : FacilityChange E). w.made) later_is ∙ by_group (value_at (base_of subscriber_span key) groups) refl
      where
        by_group : (found : Option (List SpecialFacilityRow)) → value_at (base_of subscriber_span key) groups ≡ found → (unwrap_or (option_map (change_after spent revised within) (value_at (base_of subscriber_span key) groups)) within).made ≡ row_made (revised within.change.now) None (value_at key (rows_of facilities_listed groups))
        by_group None e = rw (e, ← none_there facility_laws are key refl (sym e)) fresh
        by_group (Some group) e = rw e (ap (λ o. row_made (revised within.change.now) o (facility_in within.key group)) fresh ∙ ap (row_made (revised within.change.now) None) (its_facility group (sym e)))

    pub same_reference : later.change.ghost_name ≡ within.change.ghost_name
    same_reference = ap (λ (w : FacilityChange E). w.change.ghost_name) later_is ∙ by_group (value_at (base_of subscriber_span key) groups)
      where
        by_group : (found : Option (List SpecialFacilityRow)) → (unwrap_or (option_map (change_after spent revised within) found) within).change.ghost_name ≡ within.change.ghost_name
        by_group None = refl
        by_group (Some own) = refl

-- a row was made of the one that was there, or none was there
pub made_none : (change : SpecialFacilityRow → SpecialFacilityRow) (o : Option SpecialFacilityRow) → None ≡ row_made change None o → o ≡ None
made_none change None e = refl
made_none change (Some row) e = absurd cc

pub made_some : (change : SpecialFacilityRow → SpecialFacilityRow) (o : Option SpecialFacilityRow) (new : SpecialFacilityRow) → Some new ≡ row_made change None o → (old : SpecialFacilityRow) × (o ≡ Some old) × (new ≡ change old)
made_some change None new e = absurd cc
made_some change (Some row) new e = (row, refl, cc)

-- a tree of groups is known by its height and its rows
pub same_tree : {R : Type 0} {height height' : ℕ} {rows rows' : List (ℕ × R)} → height ≡ height' → rows ≡ rows' → ◌≡◌ {A = Grouped R} (record { height = height; rows = rows }) (record { height = height'; rows = rows' })
same_tree heights all = cc
