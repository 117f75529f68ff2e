-- Bounds at opening and proposed bounds rise and lie in range.
use Rattle.part_table.proofs.Common.{◌≡◌, ◌∙◌, refl, sym, ℕ, zero, suc, ◌+◌, ◌*◌, ◌-◌, ◌/◌, ◌<◌, ◌≤◌, List, [], ◌∷◌, ◌++◌, true, false, length, map, min, max, sum, arith, add-one, ord_max, nat_cmp, range_with_len, All, mul-le-mul, mul-le-mul_right, div-mul-le_self, sum_by-le, le-div, div_below, map-range_with_len_more, length-map-range_with_len, LAST_SUBSCRIBER, GREATEST_WIDTH, are_rising, opening_bound, bound_zone, share_zone, has_shares, weight_below, proposed_bound, proposal, least, nat_tests}
use Rattle.part_table.proofs.LeastLemmas.{least_here, least_more, least_none}
use Rattle.part_table.proofs.BoundsLemmas.{rising_map}

-- bounds between zones rise with their zones
between_zones : (low high width : ℕ) → low < high → 1 ≤ width → 1 + low * width < 1 + high * width
between_zones low high width below some =
    let more : (low + 1) * width ≤ high * width = mul-le-mul_right width (omega arith) in
    let parts : (low + 1) * width ≡ low * width + width = omega arith in
    omega (arith, more, parts)

-- and behind the first s_id
first_bound : (zone width : ℕ) → 1 ≤ zone → 1 ≤ width → 1 < 1 + zone * width
first_bound zone width some wide = let more : 1 * 1 ≤ zone * width = mul-le-mul some wide in omega (arith, more)

-- and lie in front of the last zone's end
zone_in_range : (zone width : ℕ) → zone ≤ 31 → width ≤ GREATEST_WIDTH → 1 + zone * width ≤ LAST_SUBSCRIBER
zone_in_range zone width below narrow =
    let most : zone * width ≤ 31 * 524288 = mul-le-mul below narrow in
    omega (arith, most)

-- the zones of the bounds at opening
opening_rises : (parts i : ℕ) → 1 ≤ parts → parts ≤ 16 → i * 32 / parts < (i + 1) * 32 / parts
opening_rises parts i some few =
    let down : i * 32 / parts * parts ≤ i * 32 = div-mul-le_self (i * 32) parts in
    let one_more : (i * 32 / parts + 1) * parts ≡ i * 32 / parts * parts + parts = omega arith in
    let more = le-div (i * 32 / parts + 1) ((i + 1) * 32) parts some (omega (arith, down, one_more)) in
    omega (arith, more)

opening_below : (parts i : ℕ) → i < parts → i * 32 / parts ≤ 31
opening_below parts i below = let less : i * 32 / parts < 32 = div_below (i * 32) parts 32 (omega arith) (omega arith) in omega arith

-- the bounds at opening
pub rising_opening : (parts width : ℕ) → 1 ≤ parts → parts ≤ 16 → 1 ≤ width → width ≤ GREATEST_WIDTH → are_rising 1 (map (opening_bound parts width) (range_with_len 1 (parts - 1))) ≡ true
rising_opening parts width some few wide narrow =
    rising_map (opening_bound parts width) 1 1 (parts - 1)
    (λ any. first_bound (1 * 32 / parts) width (omega (arith, opening_rises parts 0 some few)) wide)
    (λ i from to. between_zones (i * 32 / parts) ((i + 1) * 32 / parts) width (opening_rises parts i some few) wide)
    (λ i from to. zone_in_range (i * 32 / parts) width (opening_below parts i (omega arith)) narrow)

-- a proposed bound leaves a zone for each part behind it
pub zone_at_most : (weights : List ℕ) (parts i : ℕ) → bound_zone weights parts i ≤ 32 - parts + i
zone_at_most weights parts zero = omega arith
zone_at_most weights parts (suc i) = omega arith

-- and falls behind the one before it
pub zone_rises : (weights : List ℕ) (parts i : ℕ) → bound_zone weights parts i < bound_zone weights parts (i + 1)
zone_rises weights parts i =
    let most = zone_at_most weights parts i in
    rw add-one (omega (arith, most))

-- the proposed bounds
pub rising_proposal : (weights : List ℕ) (parts width : ℕ) → 1 ≤ parts → parts ≤ 16 → 1 ≤ width → width ≤ GREATEST_WIDTH → are_rising 1 (proposal weights parts width) ≡ true
rising_proposal weights parts width some few wide narrow =
    rising_map (proposed_bound weights parts width) 1 1 (parts - 1)
    (λ any. first_bound (bound_zone weights parts 1) width (omega (arith, zone_rises weights parts 0)) wide)
    (λ i from to. between_zones (bound_zone weights parts i) (bound_zone weights parts (i + 1)) width (zone_rises weights parts i) wide)
    (λ i from to. zone_in_range (bound_zone weights parts i) width (omega (arith, zone_at_most weights parts i)) narrow)

-- the greater of two numbers, as it is computed
pub max_is : (a b : ℕ) → ord_max nat_cmp a b ≡ max a b
max_is a b = grind (arith, nat_tests)

-- the next zone, as it is computed
next_is : (weights : List ℕ) (parts i : ℕ) → bound_zone weights parts (i + 1) ≡ min (32 - parts + (i + 1)) (max (bound_zone weights parts i + 1) (share_zone weights parts (i + 1)))
next_is weights parts i = rw (add-one i) refl

pub next_zone : (weights : List ℕ) (parts i zone share next : ℕ) → 1 ≤ i → zone ≡ bound_zone weights parts (i - 1) → share ≡ share_zone weights parts i → next ≡ min (32 - parts + i) (max (zone + 1) share)
    → next ≡ bound_zone weights parts i
next_zone weights parts i zone share next some was shares computed =
    let before : i - 1 + 1 ≡ i = omega arith in
    let is = rw before at (next_is weights parts (i - 1)) in
    computed ∙ rw (was, shares) (sym is)

-- one more bound
pub one_proposed : (weights : List ℕ) (parts width i zone : ℕ) (list : List ℕ) → 1 ≤ i → list ≡ map (proposed_bound weights parts width) (range_with_len 1 (i - 1)) → zone ≡ bound_zone weights parts i
    → list ++ (1 + zone * width) ∷ [] ≡ map (proposed_bound weights parts width) (range_with_len 1 (i + 1 - 1))
one_proposed weights parts width i zone list some so_far is =
    let after : i + 1 - 1 ≡ i - 1 + 1 = omega arith in
    let more = map-range_with_len_more (proposed_bound weights parts width) 1 (i - 1) i (omega arith) in
    rw (so_far, after, is) (sym more)

-- how many there are
pub length_proposed : (weights : List ℕ) (parts width n : ℕ) (list : List ℕ) → list ≡ map (proposed_bound weights parts width) (range_with_len 1 n) → length list ≡ n
length_proposed weights parts width n list is = rw is (length-map-range_with_len (proposed_bound weights parts width) 1 n)

-- all bounds
pub all_proposed : (weights : List ℕ) (parts width i : ℕ) (list : List ℕ) → i ≡ parts → list ≡ map (proposed_bound weights parts width) (range_with_len 1 (i - 1)) → list ≡ proposal weights parts width
all_proposed weights parts width i list last is = rw last at is

-- small weights have a small sum
pub sum_small : (weights : List ℕ) (most : ℕ) → All (λ w. w ≤ most) weights → length weights ≡ 32 → sum weights ≤ 32 * most
sum_small weights most small wide = let some = sum_by-le (λ w. w) most weights small in rw wide at some

-- the zones are looked at one after another: the first of those left
pub share_here : (weights : List ℕ) (parts shares zone : ℕ) → zone < 32 → shares * sum weights ≤ parts * weight_below weights zone
    → share_zone weights parts shares ≡ least (has_shares weights parts shares) zone (32 - zone) → zone ≡ share_zone weights parts shares
share_here weights parts shares zone below enough left =
    let passes : has_shares weights parts shares zone ≡ true = grind (arith, nat_tests) in
    sym (left ∙ least_here (has_shares weights parts shares) zone (32 - zone) (omega arith) passes)

pub share_more : (weights : List ℕ) (parts shares zone : ℕ) → zone < 32 → parts * weight_below weights zone < shares * sum weights
    → share_zone weights parts shares ≡ least (has_shares weights parts shares) zone (32 - zone)
    → share_zone weights parts shares ≡ least (has_shares weights parts shares) (zone + 1) (32 - (zone + 1))
share_more weights parts shares zone below less left =
    let fails : has_shares weights parts shares zone ≡ false = grind (arith, nat_tests) in
    left ∙ least_more (has_shares weights parts shares) zone (32 - zone) (32 - (zone + 1)) (omega arith) fails

pub share_all : (weights : List ℕ) (parts shares zone : ℕ) → zone ≡ 32 → share_zone weights parts shares ≡ least (has_shares weights parts shares) zone (32 - zone) → 32 ≡ share_zone weights parts shares
share_all weights parts shares zone last left =
    let none : least (has_shares weights parts shares) zone (32 - zone) ≡ 32 = rw last (least_none (has_shares weights parts shares) 32) in
    sym (left ∙ none)

-- products of small numbers are small
pub product_small : (parts weight most : ℕ) → parts ≤ 16 → weight ≤ most → parts * weight ≤ 16 * most
product_small parts weight most few light = mul-le-mul few light
