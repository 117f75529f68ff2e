use Rattle.tatp_actions.proofs.Common.{◌≡◌, ◌∙◌, ◌==◌, refl, sym, subst, arith, ℕ, List, [], ◌∷◌, Option, Some, None, Result, Ok, Err, IfSome, nat_tests, by_test, each-with_row, each-with_row_at, facility_key, key_of_pair, with_row_at, IsKeyed, SpecialFacilityRow, revised_at, revised_none, revised_some, value_at, Tables}
use Rattle.mr_subtree.specs.Trees.{IsInserted}
use Rattle.tatp_rows.specs.declared.refusal.Back.{Back}
use Rattle.tatp_actions.proofs.tests.keeps_facility.Goals as goal

-- a stored row has its key
its_key : (k : ℕ) (pairs : List (ℕ × SpecialFacilityRow)) → IsKeyed facility_key pairs → IfSome (value_at k pairs) (λ row. facility_key row ≡ k)
its_key k [] keyed = tt
its_key k (p ∷ pairs) keyed = by_test (p.0 == k)
    (λ t. let at : p.0 ≡ k = grind (arith, nat_tests) in rw t (sym keyed.0 ∙ at))
    (λ t. rw t (its_key k pairs keyed.1))

-- and keeps it after each call
keyed_replaced : (k : ℕ) (row : SpecialFacilityRow) (pairs : List (ℕ × SpecialFacilityRow)) → k ≡ facility_key row → IsKeyed facility_key pairs → IsKeyed facility_key (with_row_at key_of_pair k (k, row) pairs)
keyed_replaced k row pairs at keyed = each-with_row_at key_of_pair (λ (p : ℕ × SpecialFacilityRow). p.0 ≡ facility_key p.1) k (k, row) pairs at keyed

keyed_revised : (k : ℕ) (change : SpecialFacilityRow → SpecialFacilityRow) (pairs : List (ℕ × SpecialFacilityRow)) → ((row : SpecialFacilityRow) → facility_key (change row) ≡ facility_key row) → IsKeyed facility_key pairs → IsKeyed facility_key (revised_at k change pairs)
keyed_revised k change pairs same keyed = by_value (value_at k pairs) refl
  where
    by_value : (o : Option SpecialFacilityRow) → value_at k pairs ≡ o → IsKeyed facility_key (revised_at k change pairs)
    by_value None e = rw (revised_none k change pairs e) keyed
    by_value (Some row) e =
        let own : facility_key row ≡ k = subst (λ o. IfSome o (λ r. facility_key r ≡ k)) e (its_key k pairs keyed) in
        rw (revised_some k change row pairs e) (keyed_replaced k (change row) pairs (sym (same row ∙ own)) keyed)

keyed_inserted : (row : SpecialFacilityRow) (before after : List (ℕ × SpecialFacilityRow)) (answer : Result (Unit {0}) (Back SpecialFacilityRow)) → IsInserted (facility_key row) row before after answer → IsKeyed facility_key before → IsKeyed facility_key after
keyed_inserted row before after (Ok u) h keyed = rw h.1 (each-with_row key_of_pair (λ (p : ℕ × SpecialFacilityRow). p.0 ≡ facility_key p.1) (facility_key row, row) before refl keyed)
keyed_inserted row before after (Err back) h keyed = rw h.1 keyed

pub revise_f-requires : goal.revise_f-requires
revise_f-requires g c =
    let keyed = subst (λ (t : Tables). IsKeyed facility_key t.facilities) (sym c.replace_f.ensures.rows) (keyed_replaced _ c.args.row _ refl c.requires) in
    its_key c.key-key.result _ keyed

pub revise_f-kept-requires : goal.revise_f-kept-requires
revise_f-kept-requires g c =
    let replaced = subst (λ (t : Tables). IsKeyed facility_key t.facilities) (sym c.replace_f.ensures.rows) (keyed_replaced _ c.args.row _ refl c.requires) in
    let revised = subst (λ (t : Tables). IsKeyed facility_key t.facilities) (sym c.revise_f.ensures.rows) (keyed_revised c.key-key.result _ _ (λ row. refl) replaced) in
    let once = keyed_inserted c.args.row _ _ _ c.insert_f.ensures.table revised in
    let twice = keyed_inserted c.args.row _ _ _ c.insert_f-2.ensures.table once in
    let read = subst (λ (t : Tables). IsKeyed facility_key t.facilities) (sym c.get_f.ensures.rows) twice in
    its_key c.key-key.result _ read
