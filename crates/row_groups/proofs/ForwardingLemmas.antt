-- The rules of groups of Call_Forwarding rows, and their words.
use Rattle.row_groups.proofs.Common.{◌≡◌, ◌∙◌, ◌≢◌, ◌≤◌, ◌<◌, ◌*◌, ◌∷◌, [], ℕ, zero, suc, refl, List, Option, None, Some, IsTrue, false, true, arith, nat_tests, both_from, length, get_or, is_some, row_at, ForwardingData, AreForwardings, forwarding_keys, forwarding_row, forwarding_start, filled, filled-found, filled-ordered, is_start_time, forwarding_at, forwarding_data, forwarding_with, option_map, set, sym, subst, without_row, with_row_at, IsPut, IsSome, Ok, Err, Exists, CallForwardingRow, is_in_time, map, filter, option_to_list, ap, nat_le, nat_lt}
use Rattle.row_groups.proofs.FilledLemmas.{filled-each, filled-missing, filled-taken}
use Rattle.row_groups.proofs.GroupLemmas.{put_over, put_read, refused_read}

-- the first three places have hours at which a forwarding may start
start_of_place : (place : ℕ) → place < 3 → IsTrue (is_start_time (8 * place))
start_of_place zero below = refl
start_of_place (suc zero) below = refl
start_of_place (suc (suc zero)) below = refl
start_of_place (suc (suc (suc place))) below = absurd (omega arith)

-- the rows keep the rules of a group
pub forwarding_rules : (places : List (Option ForwardingData)) → length places ≡ 3 → AreForwardings (filled forwarding_row 0 places)
forwarding_rules places size = record {
  ordered = filled-ordered forwarding_row forwarding_start (λ place. 8 * place) forwarding_keys 0 places;
  each = filled-each forwarding_row (λ row. (row.s_id ≡ 0) × (row.sf_type ≡ 0) × IsTrue (is_start_time row.start_time)) 0 places (λ place d from below. (refl, refl, start_of_place place (omega (arith, size))));
}

-- no row has another start time
pub no_start : (k : ℕ) (places : List (Option ForwardingData)) → length places ≡ 3 → is_start_time k ≡ false → row_at forwarding_start k (filled forwarding_row 0 places) ≡ None
no_start k places size out =
    let first : k ≢ 0 = grind (arith, nat_tests) in
    let second : k ≢ 8 = grind (arith, nat_tests) in
    let third : k ≢ 16 = grind (arith, nat_tests) in
    filled-missing forwarding_row forwarding_start (λ place. 8 * place) forwarding_keys k 0 places (λ place from below same. omega (arith, size))

-- what lies in the place of a start time
pub hour_found : (n k : ℕ) (words : List (Option ForwardingData)) → 8 * n ≡ k → option_map (forwarding_at k) (get_or words n None) ≡ row_at forwarding_start k (filled forwarding_row 0 words)
hour_found n k words e =
    subst (λ (hour : ℕ). option_map (forwarding_at hour) (get_or words n None) ≡ row_at forwarding_start hour (filled forwarding_row 0 words)) e
    (sym (filled-found forwarding_row forwarding_start (λ place. 8 * place) forwarding_keys 0 n n words (omega arith)))

-- a row is put into the place of its start time, or is refused there
module _ (row : CallForwardingRow) (n : ℕ) (words : List (Option ForwardingData)) (at : 8 * n ≡ row.start_time) (within : n < length words) (found : Option ForwardingData) (read : found ≡ get_or words n found) where
  pub hour_put : is_some (get_or words n found) ≡ false → IsPut forwarding_start (forwarding_with 0 0 row) (filled forwarding_row 0 words) (filled forwarding_row 0 (set words n (Some (forwarding_data row)))) (Ok tt)
  hour_put free = put_read forwarding_row forwarding_start (λ place. 8 * place) forwarding_keys 0 n n (forwarding_with 0 0 row) words (omega arith) within found read (forwarding_data row) (rw at refl) free

  pub hour_refused : is_some (get_or words n found) ≡ true → IsPut forwarding_start (forwarding_with 0 0 row) (filled forwarding_row 0 words) (filled forwarding_row 0 words) (Err Exists)
  hour_refused taken = refused_read forwarding_row forwarding_start (λ place. 8 * place) forwarding_keys 0 n n (forwarding_with 0 0 row) words (omega arith) within found read (sym at) taken

-- the row of a start time is removed with its word
pub hour_removed : (n k : ℕ) (words : List (Option ForwardingData)) → 8 * n ≡ k → filled forwarding_row 0 (set words n None) ≡ without_row forwarding_start k (filled forwarding_row 0 words)
hour_removed n k words e =
    subst (λ (hour : ℕ). filled forwarding_row 0 (set words n None) ≡ without_row forwarding_start hour (filled forwarding_row 0 words)) e
    (sym (filled-taken forwarding_row forwarding_start (λ place. 8 * place) forwarding_keys 0 n n words (omega arith)))

-- a row replaces the one of its start time
pub hour_replaced : (row : CallForwardingRow) (n : ℕ) (words : List (Option ForwardingData)) → 8 * n ≡ row.start_time → IsSome (row_at forwarding_start row.start_time (filled forwarding_row 0 words))
    → filled forwarding_row 0 (set words n (Some (forwarding_data row))) ≡ with_row_at forwarding_start row.start_time (forwarding_with 0 0 row) (filled forwarding_row 0 words)
hour_replaced row n words e found =
    subst (λ (hour : ℕ). filled forwarding_row 0 (set words n (Some (forwarding_data row))) ≡ with_row_at forwarding_start hour (forwarding_with 0 0 row) (filled forwarding_row 0 words)) e
    (put_over forwarding_row forwarding_start (λ place. 8 * place) forwarding_keys 0 n n (forwarding_data row) (forwarding_with 0 0 row) words (omega arith) (rw e refl)
    (subst (λ (hour : ℕ). IsSome (row_at forwarding_start hour (filled forwarding_row 0 words))) (sym e) found))

-- the number that a place gives to a call
pub number_chosen : (start_time end_time n : ℕ) (words : List (Option ForwardingData)) (found : Option ForwardingData) → found ≡ get_or words n None
    → map (λ row. row.numberx) (filter (is_in_time start_time end_time) (option_to_list (option_map (forwarding_row n) found)))
    ≡ map (λ row. row.numberx) (filter (is_in_time start_time end_time) (option_to_list (row_at forwarding_start (8 * n) (filled forwarding_row 0 words))))
number_chosen start_time end_time n words found e =
    rw e (ap (λ (found : Option CallForwardingRow). map (λ row. row.numberx) (filter (is_in_time start_time end_time) (option_to_list found))) (hour_found n (8 * n) words refl))

-- the number of a row that takes the call, and none where it starts later or ends too early
pub number_in : (start_time end_time n : ℕ) (words : List (Option ForwardingData)) (fields : ForwardingData) → Some fields ≡ get_or words n None → 8 * n ≤ start_time → end_time < fields.end_time
    → fields.numberx ∷ [] ≡ map (λ row. row.numberx) (filter (is_in_time start_time end_time) (option_to_list (row_at forwarding_start (8 * n) (filled forwarding_row 0 words))))
number_in start_time end_time n words fields found starts ends =
    let t = both_from (nat_le (8 * n) start_time) (nat_lt end_time fields.end_time) (grind (arith, nat_tests)) (grind (arith, nat_tests)) in
    let here : fields.numberx ∷ [] ≡ map (λ row. row.numberx) (filter (is_in_time start_time end_time) (forwarding_row n fields ∷ [])) = rw t refl in
    here ∙ number_chosen start_time end_time n words (Some fields) found

pub number_out : (start_time end_time n : ℕ) (words : List (Option ForwardingData)) (fields : ForwardingData) → Some fields ≡ get_or words n None → is_in_time start_time end_time (forwarding_row n fields) ≡ false
    → [] ≡ map (λ row. row.numberx) (filter (is_in_time start_time end_time) (option_to_list (row_at forwarding_start (8 * n) (filled forwarding_row 0 words))))
number_out start_time end_time n words fields found out =
    let here : [] ≡ map (λ (row : CallForwardingRow). row.numberx) (filter (is_in_time start_time end_time) (forwarding_row n fields ∷ [])) = rw out refl in
    here ∙ number_chosen start_time end_time n words (Some fields) found

pub starts_late : (start_time end_time n : ℕ) (fields : ForwardingData) → start_time < 8 * n → is_in_time start_time end_time (forwarding_row n fields) ≡ false
starts_late start_time end_time n fields late = let t : nat_le (8 * n) start_time ≡ false = grind (arith, nat_tests) in rw t refl

pub ends_early : (start_time end_time n : ℕ) (fields : ForwardingData) → 8 * n ≤ start_time → fields.end_time ≤ end_time → is_in_time start_time end_time (forwarding_row n fields) ≡ false
ends_early start_time end_time n fields starts early =
    let s : nat_le (8 * n) start_time ≡ true = grind (arith, nat_tests) in
    let t : nat_lt end_time fields.end_time ≡ false = grind (arith, nat_tests) in
    rw (s, t) refl
