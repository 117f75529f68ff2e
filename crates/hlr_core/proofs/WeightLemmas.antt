-- The weights of the zones, by what is published of them.
use Rattle.hlr_core.proofs.Common.{◌≡◌, ◌∙◌, refl, sym, ap, ℕ, zero, suc, ◌+◌, ◌<◌, ◌≤◌, List, length, map, take, set, get_or, arith, ℤ, negsuc, ◌-ℤ◌, min, unsigned_abs, int_lt, All, range_with_len, ints, take_more_set, take_all, All-map, map-range_with_len_more, IsBook, cell, CELLS, FIRST_ZONE, proposal, GREATEST_WEIGHT, Store, published, unpublished, parts_in, weight, published_weights, counted_weights, ZONES, few_in_weight, pos, true, false}
use Rattle.hlr_core.specs.Weights.{all_zones}

-- a weight is at most that of all rows
weight_at_most : (amount : ℤ) → weight amount ≤ GREATEST_WEIGHT
weight_at_most (pos n) = omega arith
weight_at_most (negsuc n) = omega arith

-- a zone of which less than nothing is published weighs nothing; any other one what is published, at most all rows
pub weighs_none : (published : ℤ) → int_lt published (pos 0) ≡ true → 0 ≡ weight published
weighs_none (pos n) below = omega (arith, ints, below)
weighs_none (negsuc n) below = refl

pub weighs_itself : (published : ℤ) → int_lt published (pos 0) ≡ false → min (unsigned_abs published) GREATEST_WEIGHT ≡ weight published
weighs_itself (pos n) above = refl
weighs_itself (negsuc n) above = omega (arith, ints, above)

-- one weight more
pub weights_more : (f : ℕ → ℕ) (zone : ℕ) (weights : List ℕ) (w : ℕ) → zone < length weights → take zone weights ≡ map f (range_with_len 0 zone) → w ≡ f zone
    → take (zone + 1) (set weights zone w) ≡ map f (range_with_len 0 (zone + 1))
weights_more f zone weights w within so_far is = take_more_set weights zone w within ∙ rw (so_far, is) (sym (map-range_with_len_more f 0 zone zone (omega arith)))

-- all of them
zones_are : (n : ℕ) → n ≡ ZONES → range_with_len 0 n ≡ all_zones
unfolding all_zones
zones_are n is = ap (range_with_len 0) is

pub all_weights : (f : ℕ → ℕ) (zone : ℕ) (weights : List ℕ) → length weights ≤ zone → zone ≡ ZONES → take zone weights ≡ map f (range_with_len 0 zone) → weights ≡ map f all_zones
all_weights f zone weights past last so_far = rw (take_all zone weights past, zones_are zone last) at so_far

pub weights_small : (amount : ℕ → ℤ) (zones weights : List ℕ) → weights ≡ map (λ zone. weight (amount zone)) zones → All (λ w. w ≤ GREATEST_WEIGHT) weights
weights_small amount zones weights is = rw is (All-map (λ w. w ≤ GREATEST_WEIGHT) (λ zone. weight (amount zone)) zones (λ k d within. weight_at_most (amount (get_or zones k d))))

-- numbers that agree on a range
same_on_range : (f g : ℕ → ℕ) (a n : ℕ) → ((z : ℕ) → z < a + n → f z ≡ g z) → map f (range_with_len a n) ≡ map g (range_with_len a n)
same_on_range f g a zero same = refl
same_on_range f g a (suc n) same = rw (same a (omega arith), same_on_range f g (a + 1) n (λ z below. same z (omega arith))) refl

same_on_zones : (f g : ℕ → ℕ) → ((z : ℕ) → z < ZONES → f z ≡ g z) → map f all_zones ≡ map g all_zones
same_on_zones f g same = all ZONES refl (same_on_range f g 0 ZONES same)
  where
    all : (n : ℕ) → n ≡ ZONES → map f (range_with_len 0 n) ≡ map g (range_with_len 0 n) → map f all_zones ≡ map g all_zones
    all n is same = rw (zones_are n is) at same

-- the weights by the cells that were read
pub read_weights : (store : Store) (read : ℕ → ℤ) → ((c : ℕ) → c < CELLS → read c ≡ published store c)
    → map (λ zone. weight (read (FIRST_ZONE + zone))) all_zones ≡ published_weights store
read_weights store read is = same_on_zones (λ zone. weight (read (FIRST_ZONE + zone))) (λ zone. weight (published store (FIRST_ZONE + zone))) (λ z below. ap weight (is (FIRST_ZONE + z) (omega arith)))

-- with nothing unpublished, a weight is the count
counted_weight : (count : ℕ) (amount : ℤ) → count ≤ GREATEST_WEIGHT → pos count -ℤ amount ≡ pos 0 → weight amount ≡ count
counted_weight count amount few none =
    let is : amount ≡ pos count = omega (arith, ints) in
    let fits : min count GREATEST_WEIGHT ≡ count = omega arith in
    rw (is, fits) refl

pub weights_counted : (store : Store) → IsBook store.book → ((c : ℕ) → c < CELLS → unpublished store c ≡ pos 0) → published_weights store ≡ counted_weights store
weights_counted store rules none =
    same_on_zones (λ zone. weight (published store (FIRST_ZONE + zone))) (λ zone. cell store.width (FIRST_ZONE + zone) store.book)
    (λ z below. counted_weight (cell store.width (FIRST_ZONE + z) store.book) (published store (FIRST_ZONE + z)) (few_in_weight store.width (FIRST_ZONE + z) store.book rules) (none (FIRST_ZONE + z) (omega arith)))

-- a proposal by the cells that were read is one by the published weights, and with nothing unpublished by the counts
pub proposed : (store : Store) (read : ℕ → ℤ) (weights bounds : List ℕ) (parts width : ℕ) → ((c : ℕ) → c < CELLS → read c ≡ published store c)
    → weights ≡ map (λ zone. weight (read (FIRST_ZONE + zone))) all_zones → parts ≡ parts_in store → width ≡ store.width → bounds ≡ proposal weights parts width
    → bounds ≡ proposal (published_weights store) (parts_in store) store.width
proposed store read weights bounds parts width reads are there wide is = rw (← there, ← wide, ← read_weights store read reads, ← are) is

pub proposed_counted : (store : Store) (bounds : List ℕ) → IsBook store.book → bounds ≡ proposal (published_weights store) (parts_in store) store.width
    → ((c : ℕ) → c < CELLS → unpublished store c ≡ pos 0) → bounds ≡ proposal (counted_weights store) (parts_in store) store.width
proposed_counted store bounds rules is none = is ∙ ap (λ weights. proposal weights (parts_in store) store.width) (weights_counted store rules none)
