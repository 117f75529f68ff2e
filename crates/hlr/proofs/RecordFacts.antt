-- The bounds of a re-cut, read field by field.
use Rattle.hlr.proofs.Common.{◌≡◌, refl, sym, ap, ◌∙◌, ℕ, zero, suc, ◌+◌, ◌^◌, ◌<◌, ◌≤◌, List, [], ◌∷◌, ◌++◌, length, drop, true, false, append_assoc, length-append, arith, ◌==◌, ◌&&◌, not, nat_lt, Result, Ok, Err, list_all, is_ascii_digit, digits_value, nat_tests, append-nil, drop_all, length-drop, by_test, Refusal, Field, ◌>>=◌, number_fields, bounds_of, field, MOST_BOUNDS}
use Rattle.csv.specs.Records.{field_at}
use Rattle.hlr.specs.Fields.{number_field}
use Rattle.hlr.specs.Records.{bound_fields}

-- the field at a place, and those behind it
pub fields_from : (fields : List (List ℕ)) (i : ℕ) → i < length fields → drop i fields ≡ field fields i ∷ drop (i + 1) fields
unfolding field_at
fields_from [] i below = absurd (omega arith)
fields_from (f ∷ fs) zero below = refl
fields_from (f ∷ fs) (suc i) below =
    let next : suc i + 1 ≡ suc (i + 1) = omega arith in
    rw next (fields_from fs i (omega arith))

-- numbers in front of those that further fields give
abbrev pub read_before : List ℕ → Result (List ℕ) Refusal → Result (List ℕ) Refusal
read_before ns (Ok more) = Ok (ns ++ more)
read_before ns (Err why) = Err why

-- the numbers of the fields behind the word are those that were read so far, and then those of the fields from a place
-- on
pub record AreReadFrom (fields : List (List ℕ)) (i : ℕ) (ns : List ℕ) : Type 0 where
  pub whole : number_fields (drop 1 fields) ≡ read_before ns (number_fields (drop i fields))
  pub many : length ns + 1 ≡ i

-- with one number more in front of them
read_one : (ns : List ℕ) (n : ℕ) (r : Result (List ℕ) Refusal) → read_before ns (r >>= (λ more. Ok (n ∷ more))) ≡ read_before (ns ++ n ∷ []) r
read_one ns n (Ok more) = ap Ok (sym (append_assoc ns (n ∷ []) more))
read_one ns n (Err why) = refl

-- a text that is no number is Field
refused_number : (text : List ℕ) (why : Refusal) → Err why ≡ number_field text → why ≡ Field
unfolding number_field
refused_number text why is =
    by_test (not (length text == 0) && (list_all is_ascii_digit text && nat_lt (digits_value 10 text) (2 ^ 64)))
    (λ e. let gave : Err why ≡ Ok (digits_value 10 text) = rw e at is in cc)
    (λ e. let gave : Err why ≡ Err Field = rw e at is in cc)

-- few bounds are what their fields give, and too many are Field
few_fields : (texts : List (List ℕ)) → length texts ≤ MOST_BOUNDS → bound_fields texts ≡ number_fields texts
unfolding bound_fields
few_fields texts few = let test : nat_lt MOST_BOUNDS (length texts) ≡ false = grind (arith, nat_tests) in rw test refl

many_fields : (texts : List (List ℕ)) → MOST_BOUNDS < length texts → bound_fields texts ≡ Err Field
unfolding bound_fields
many_fields texts many = let test : nat_lt MOST_BOUNDS (length texts) ≡ true = grind (arith, nat_tests) in rw test refl

module _ (fields : List (List ℕ)) (i : ℕ) (ns : List ℕ) where
  -- one number more is read
  pub one_from : (n : ℕ) → AreReadFrom fields i ns → i < length fields → Ok n ≡ number_field (field fields i) → AreReadFrom fields (i + 1) (ns ++ n ∷ [])
  one_from n read inside is =
      let many = read.many in
      record {
        whole = read.whole ∙ rw (fields_from fields i inside, ← is) (read_one ns n (number_fields (drop (i + 1) fields)));
        many = rw length-append (omega arith);
      }

  -- all fields are read
  pub all_from : AreReadFrom fields i ns → length fields ≤ i → length ns ≤ MOST_BOUNDS → Ok (record { items = ns }) ≡ bounds_of fields
  all_from read past few =
      let many = read.many in
      let size = length-drop 1 fields in
      let none : drop i fields ≡ [] = drop_all i fields past in
      let whole : number_fields (drop 1 fields) ≡ Ok (ns ++ []) = read.whole ∙ rw none refl in
      rw (few_fields (drop 1 fields) (omega arith), whole, append-nil ns) refl

  -- a field is no number
  pub refused_from : (why : Refusal) → AreReadFrom fields i ns → i < length fields → Err why ≡ number_field (field fields i) → Err why ≡ bounds_of fields
  refused_from why read inside is =
      let whole : number_fields (drop 1 fields) ≡ Err why = read.whole ∙ rw (fields_from fields i inside, ← is) refl in
      let is_field = refused_number _ why is in
      by_test (nat_lt MOST_BOUNDS (length (drop 1 fields)))
      (λ e. rw (many_fields (drop 1 fields) (grind (arith, nat_tests))) (ap Err is_field))
      (λ e. rw (few_fields (drop 1 fields) (grind (arith, nat_tests)), whole) refl)

  -- there are too many fields
  pub many_from : AreReadFrom fields i ns → i < length fields → MOST_BOUNDS ≤ length ns → Err Field ≡ bounds_of fields
  many_from read inside full =
      let many = read.many in
      let size = length-drop 1 fields in
      rw (many_fields (drop 1 fields) (omega arith)) refl
