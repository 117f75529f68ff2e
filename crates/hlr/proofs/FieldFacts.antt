-- Digits that are read one by one.
use Rattle.hlr.proofs.Common.{◌≡◌, refl, sym, ◌∙◌, ℕ, ◌+◌, ◌-◌, ◌*◌, ◌%◌, ◌^◌, add-one, ◌<◌, ◌≤◌, List, length, get_or, take, true, false, ◌≢◌, below_more, rules, arith, ◌==◌, nat_lt, Bool, Ok, Err, slice_set, map, list_all, is_ascii_digit, digit_value, digits_value, nat_tests, digits_value-take-le, take_all, ext_get_or, get_or-map, get_or-set_same, get_or-set_other, length-map, length-set, false≢true, pow-le-pow_right, pow-suc, list_all_more, list_all_at, Field, AreDigits, digits_more}
use Rattle.hlr.specs.Fields.{number_field, digits_field}

-- a byte that is no digit
pub refused_byte : (text : List ℕ) (i : ℕ) → i < length text → is_ascii_digit (get_or text i 0) ≡ false → Err Field ≡ number_field text
unfolding number_field
refused_byte text i inside other = let none = list_all_at is_ascii_digit text i 0 inside other in grind (arith, nat_tests)

-- a value that is too large
pub refused_value : (text : List ℕ) (i value more : ℕ) → AreDigits text i value → i < length text → is_ascii_digit (get_or text i 0) ≡ true → more ≡ get_or text i 0 - 48
    → 2 ^ 64 - 1 < value * 10 + more → Err Field ≡ number_field text
unfolding number_field
refused_value text i value more read inside digit is large =
    let next = digits_more text i value more read inside digit is in
    let front = digits_value-take-le 10 text (i + 1) (omega arith) in
    let value_is = next.value_is in
    let above : 2 ^ 64 - 1 < digits_value 10 text = omega arith in
    grind (arith, nat_tests)

-- a text without a byte
pub refused_empty : (text : List ℕ) → (length text == 0) ≡ true → Err Field ≡ number_field text
unfolding number_field
refused_empty text none = grind (arith, nat_tests)

-- the whole text is read
pub read_whole : (text : List ℕ) (i value : ℕ) → 0 < length text → length text ≤ i → AreDigits text i value → value < 2 ^ 64 → Ok value ≡ number_field text
unfolding number_field
read_whole text i value some past read fits =
    let whole : take i text ≡ text = take_all i text past in
    let digits : list_all is_ascii_digit text ≡ true = rw whole at read.digits in
    let value_is : value ≡ digits_value 10 text = rw whole at read.value_is in
    let below : digits_value 10 text < 2 ^ 64 = omega arith in
    grind (arith, nat_tests)

-- a text that has a byte
pub some_byte : (text : List ℕ) → (length text == 0) ≡ false → 0 < length text
some_byte text some = grind (arith, nat_tests)

-- what a byte is, from how far above '0' it lies, round the end of a byte
pub digit_above : (c above : ℕ) → c < 256 → above ≡ (c + 208) % 256 → above ≤ 9 → (is_ascii_digit c ≡ true) × (above ≡ c - 48)
digit_above c above byte is small = (grind (arith, nat_tests), omega arith)

pub other_above : (c above : ℕ) → c < 256 → above ≡ (c + 208) % 256 → 9 < above → is_ascii_digit c ≡ false
other_above c above byte is large = grind (arith, nat_tests)

-- the first i bytes of a short text are digits, and spell this value
pub record IsReadTo (text : List ℕ) (i value : ℕ) : Type 0 where
  pub read : AreDigits text i value
  pub below : value < 10 ^ i

pub short_none : (text : List ℕ) → IsReadTo text 0 0
short_none text = record { read = record { digits = refl; value_is = refl }; below = omega arith }

pub short_more : (text : List ℕ) (i value above : ℕ) → IsReadTo text i value → i < length text → get_or text i 0 < 256 → above ≡ (get_or text i 0 + 208) % 256 → above ≤ 9
    → IsReadTo text (i + 1) (value * 10 + above)
short_more text i value above so inside byte is small =
    let known = digit_above (get_or text i 0) above byte is small in
    record {
      read = digits_more text i value above so.read inside known.0 known.1;
      below = let below = so.below in let tenfold : 10 ^ (i + 1) ≡ 10 ^ i * 10 = rw add-one (pow-suc 10 i) in omega arith;
    }

-- while bytes are left there is room for one more digit, and in the end the value fits
pub short_fits : (text : List ℕ) (i value : ℕ) → IsReadTo text i value → i < length text → length text ≤ 19 → value < 10 ^ 18
short_fits text i value so inside short =
    omega (arith, so.below, pow-le-pow_right {n = 10} (omega arith) {i = i} {j = 18} (omega arith))

pub short_whole : (text : List ℕ) (i value : ℕ) → (length text == 0) ≡ false → length text ≤ i → i ≤ 19 → IsReadTo text i value → Ok value ≡ number_field text
short_whole text i value some past short so =
    let below = so.below in
    let most = pow-le-pow_right {n = 10} (omega arith) {i = i} {j = 19} (omega arith) in
    read_whole text i value (some_byte text some) past so.read (omega arith)

-- what passes as a whole passes at each place
pub passes_at : (p : ℕ → Bool) (xs : List ℕ) (i : ℕ) → list_all p xs ≡ true → i < length xs → p (get_or xs i 0) ≡ true
passes_at p xs i all inside = by (p (get_or xs i 0)) refl
  where
    by : (b : Bool) → p (get_or xs i 0) ≡ b → p (get_or xs i 0) ≡ true
    by true e = e
    by false e = absurd (false≢true (sym (list_all_at p xs i 0 inside e) ∙ all))

-- the digits of the first i bytes of a text lie below a limit, and stand in the list
pub record AreReadTo (limit : ℕ) (text : List ℕ) (i : ℕ) (digits : List ℕ) : Type 0 where
  pub size : length digits ≡ length text
  pub small : list_all (λ c. nat_lt (digit_value c) limit) (take i text) ≡ true
  pub values : (k : ℕ) → k < i → get_or digits k 0 ≡ digit_value (get_or text k 0)

-- no digit is read yet
pub none_read : (limit : ℕ) (text digits : List ℕ) → length digits ≡ length text → AreReadTo limit text 0 digits
none_read limit text digits size = record { size = size; small = refl; values = λ k below. absurd (omega arith) }

-- one digit more
pub one_read : (limit : ℕ) (text : List ℕ) (i : ℕ) (digits : List ℕ) (digit : ℕ) → AreReadTo limit text i digits → i < length text → digit ≡ digit_value (get_or text i 0) → digit < limit
    → AreReadTo limit text (i + 1) (slice_set digits i digit)
one_read limit text i digits digit read inside is small =
    let size = read.size in
    let less : nat_lt (digit_value (get_or text i 0)) limit ≡ true = grind (arith, nat_tests) in
    let room : i < length digits = omega arith in
    record {
      size = length-set digits i digit ∙ read.size;
      small = list_all_more (λ c. nat_lt (digit_value c) limit) text i 0 inside ∙ rw (read.small, less) refl;
      values = below_more _ i
          (λ k below. let other : k ≢ i = omega arith in rw get_or-set_other (read.values k below))
          (rw get_or-set_same is);
    }

-- all digits are read
pub all_read : (limit size : ℕ) (text : List ℕ) (i : ℕ) (digits : List ℕ) → length text ≡ size → length text ≤ i → AreReadTo limit text i digits → Ok digits ≡ digits_field limit size text
unfolding digits_field
all_read limit size text i digits length_is past read =
    let whole : take i text ≡ text = take_all i text past in
    let small : list_all (λ c. nat_lt (digit_value c) limit) text ≡ true = rw whole at read.small in
    let same : digits ≡ map digit_value text = ext_get_or 0 digits (map digit_value text) (rw length-map read.size)
    (λ k below. let size_is = read.size in read.values k (omega arith) ∙ sym (get_or-map digit_value text k 0 0 (omega arith))) in
    grind (arith, nat_tests)

-- a digit that is not below the limit
pub refused_digit : (limit size : ℕ) (text : List ℕ) (i : ℕ) → i < length text → limit ≤ digit_value (get_or text i 0) → Err Field ≡ digits_field limit size text
unfolding digits_field
refused_digit limit size text i inside large =
    let none = list_all_at (λ c. nat_lt (digit_value c) limit) text i 0 inside (search (rules, nat_tests)) in
    grind (arith, nat_tests)

-- a text of another length
pub refused_length : (limit size : ℕ) (text : List ℕ) → (length text ≡ size → ⊥) → Err Field ≡ digits_field limit size text
unfolding digits_field
refused_length limit size text other = grind (arith, nat_tests)

-- digits that a field gave lie below their limit
pub digits_below : (limit size : ℕ) (text digits : List ℕ) → Ok digits ≡ digits_field limit size text → (k : ℕ) → k < size → get_or digits k 0 < limit
unfolding digits_field
digits_below limit size text digits is k below = by (length text == size) refl (list_all (λ c. nat_lt (digit_value c) limit) text) refl
  where
    by : (b : Bool) → (length text == size) ≡ b → (a : Bool) → list_all (λ c. nat_lt (digit_value c) limit) text ≡ a → get_or digits k 0 < limit
    by true e true a =
        let gave : Ok digits ≡ Ok (map digit_value text) = rw (e, a) at is in
        let same : digits ≡ map digit_value text = cc in
        let long : length text ≡ size = grind (arith, nat_tests) in
        let less : nat_lt (digit_value (get_or text k 0)) limit ≡ true = passes_at (λ c. nat_lt (digit_value c) limit) text k a (omega arith) in
        let value : get_or (map digit_value text) k 0 ≡ digit_value (get_or text k 0) = get_or-map digit_value text k 0 0 (omega arith) in
        rw (same, value) (grind (arith, nat_tests))
    by true e false a = let gave : Ok digits ≡ Err Field = rw (e, a) at is in cc
    by false e a f = let gave : Ok digits ≡ Err Field = rw e at is in cc
