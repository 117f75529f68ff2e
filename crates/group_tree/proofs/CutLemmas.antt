-- Trees of groups that are cut at a key of a group, or joined.
use Rattle.group_tree.proofs.Common.{◌≡◌, ◌∙◌, refl, sym, ap, subst, ℕ, ◌+◌, ◌<◌, ◌≤◌, nat_le, nat_lt, List, [], ◌∷◌, ◌++◌, length, arith, AllByRecursion, nat_tests, each-append, each-left, each-right, by_test, keys_below, keys_from, ordered-append, key_of_pair, below-weaker, from-weaker, KeysBelow, KeysFrom, AreGroups, HaveLaws, AreGroupsApart, AreApart, IsBase, Grouped, rows_of, IsFilled}
use Rattle.tatp_rows.proofs.HalfLemmas.{below_each, from_each}
use Rattle.group_tree.proofs.BaseLemmas.{base_step}
use Rattle.group_tree.proofs.PlaceLemmas.{below_span, from_base}
use Rattle.group_tree.proofs.SideLemmas.{below_gone, below_whole, from_gone, from_whole}
use Rattle.group_tree.proofs.GroupsLemmas.{rows_of-append}
use Rattle.group_tree.proofs.PageLemmas.{each-filter, ordered-filter}

-- rows that a key cuts lie apart at it
pub cut_apart : {X : Type 0} (span key : ℕ) (rows : List (ℕ × X)) → IsBase span key → AreGroupsApart span (keys_below key_of_pair key rows) (keys_from key_of_pair key rows)
cut_apart span key rows at = (key, at, below_each key_of_pair key rows, from_each key_of_pair key rows)

module _ {G R : Type 0} {listed : ℕ → G → List (ℕ × R)} {Holds : ℕ → G → Type 0} {span : ℕ} {key_in : ℕ → ℕ → ℕ} (laws : HaveLaws listed Holds span key_in) where
  -- one group lies on one side of a key
  low_rows : (key : ℕ) (p : ℕ × G) → IsBase span key → Holds p.0 p.1 → p.0 < key → KeysBelow key (listed p.0 p.1)
  low_rows key p at holds less =
      let rules = laws.rules p.0 p.1 holds in
      below-weaker key_of_pair (p.0 + span) key (listed p.0 p.1) (base_step span laws.positive p.0 key rules.at at less) (below_span laws p.0 p.1 holds)

  high_rows : (key : ℕ) (p : ℕ × G) → Holds p.0 p.1 → key ≤ p.0 → KeysFrom key (listed p.0 p.1)
  high_rows key p holds more = from-weaker key_of_pair key p.0 (listed p.0 p.1) more (from_base laws p.0 p.1 holds)

  -- the groups below a key have the rows below it
  pub rows_cut_below : (key : ℕ) (groups : List (ℕ × G)) → IsBase span key → AllByRecursion (IsFilled listed Holds) groups → rows_of listed (keys_below key_of_pair key groups) ≡ keys_below key_of_pair key (rows_of listed groups)
  rows_cut_below key [] at each = refl
  rows_cut_below key (p ∷ groups) at each =
      by_test (nat_lt p.0 key)
      (λ t. let less : p.0 < key = grind (arith, nat_tests) in
      rw t (ap (λ l. listed p.0 p.1 ++ l) (rows_cut_below key groups at each.1) ∙ sym (below_whole key (listed p.0 p.1) (rows_of listed groups) (low_rows key p at each.0.0 less))))
      (λ t. let more : key ≤ p.0 = grind (arith, nat_tests) in
      rw t (rows_cut_below key groups at each.1 ∙ sym (below_gone key (listed p.0 p.1) (rows_of listed groups) (high_rows key p each.0.0 more))))

  -- and those from it on have the others
  pub rows_cut_from : (key : ℕ) (groups : List (ℕ × G)) → IsBase span key → AllByRecursion (IsFilled listed Holds) groups → rows_of listed (keys_from key_of_pair key groups) ≡ keys_from key_of_pair key (rows_of listed groups)
  rows_cut_from key [] at each = refl
  rows_cut_from key (p ∷ groups) at each =
      by_test (nat_le key p.0)
      (λ t. let more : key ≤ p.0 = grind (arith, nat_tests) in
      rw t (ap (λ l. listed p.0 p.1 ++ l) (rows_cut_from key groups at each.1) ∙ sym (from_whole key (listed p.0 p.1) (rows_of listed groups) (high_rows key p each.0.0 more))))
      (λ t. let less : p.0 < key = grind (arith, nat_tests) in
      rw t (rows_cut_from key groups at each.1 ∙ sym (from_gone key (listed p.0 p.1) (rows_of listed groups) (low_rows key p at each.0.0 less))))

  pub are_below : (key : ℕ) (groups : List (ℕ × G)) → AreGroups listed Holds groups → AreGroups listed Holds (keys_below key_of_pair key groups)
  are_below key groups are = record {
    ordered = ordered-filter key_of_pair _ groups are.ordered;
    each = each-filter (IsFilled listed Holds) _ groups are.each;
  }

  pub are_from : (key : ℕ) (groups : List (ℕ × G)) → AreGroups listed Holds groups → AreGroups listed Holds (keys_from key_of_pair key groups)
  are_from key groups are = record {
    ordered = ordered-filter key_of_pair _ groups are.ordered;
    each = each-filter (IsFilled listed Holds) _ groups are.each;
  }

  -- a group is on the side on which its rows are
  base_below : (key : ℕ) (p : ℕ × G) → IsFilled listed Holds p → KeysBelow key (listed p.0 p.1) → p.0 < key
  base_below key p filled below = first (listed p.0 p.1) filled.1 (from_base laws p.0 p.1 filled.0) below
    where
      first : (rows : List (ℕ × R)) → 1 ≤ length rows → KeysFrom p.0 rows → KeysBelow key rows → p.0 < key
      first [] some from below = absurd (omega (arith, some))
      first (q ∷ rows) some from below = omega (arith, from.0, below.0)

  base_from : (key : ℕ) (p : ℕ × G) → IsBase span key → IsFilled listed Holds p → KeysFrom key (listed p.0 p.1) → key ≤ p.0
  base_from key p at filled from =
      by_test (nat_lt p.0 key)
      (λ t. let less : p.0 < key = grind (arith, nat_tests) in absurd (first (listed p.0 p.1) filled.1 (low_rows key p at filled.0 less) from))
      (λ t. grind (arith, nat_tests))
    where
      first : (rows : List (ℕ × R)) → 1 ≤ length rows → KeysBelow key rows → KeysFrom key rows → ⊥
      first [] some below from = absurd (omega (arith, some))
      first (q ∷ rows) some below from = omega (arith, from.0, below.0)

  bases_below : (key : ℕ) (groups : List (ℕ × G)) → AllByRecursion (IsFilled listed Holds) groups → KeysBelow key (rows_of listed groups) → KeysBelow key groups
  bases_below key [] each below = tt
  bases_below key (p ∷ groups) each below = (
    base_below key p each.0 (each-left (λ q. key_of_pair q < key) (listed p.0 p.1) (rows_of listed groups) below),
    bases_below key groups each.1 (each-right (λ q. key_of_pair q < key) (listed p.0 p.1) (rows_of listed groups) below),
  )

  bases_from : (key : ℕ) (groups : List (ℕ × G)) → IsBase span key → AllByRecursion (IsFilled listed Holds) groups → KeysFrom key (rows_of listed groups) → KeysFrom key groups
  bases_from key [] at each from = tt
  bases_from key (p ∷ groups) at each from = (
    base_from key p at each.0 (each-left (λ q. key ≤ key_of_pair q) (listed p.0 p.1) (rows_of listed groups) from),
    bases_from key groups at each.1 (each-right (λ q. key ≤ key_of_pair q) (listed p.0 p.1) (rows_of listed groups) from),
  )

  -- groups that lie apart, where their rows do
  pub groups_apart : (low high : List (ℕ × G)) → AreGroups listed Holds low → AreGroups listed Holds high → AreGroupsApart span (rows_of listed low) (rows_of listed high) → AreApart low high
  groups_apart low high are_low are_high apart = (apart.0, bases_below apart.0 low are_low.each apart.2, bases_from apart.0 high apart.1 are_high.each apart.3)

  pub are_joined : (low high : List (ℕ × G)) → AreGroups listed Holds low → AreGroups listed Holds high → AreGroupsApart span (rows_of listed low) (rows_of listed high) → AreGroups listed Holds (low ++ high)
  are_joined low high are_low are_high apart =
      let sides = groups_apart low high are_low are_high apart in
      record {
        ordered = ordered-append key_of_pair sides.0 low high are_low.ordered are_high.ordered sides.1 sides.2;
        each = each-append (IsFilled listed Holds) low high are_low.each are_high.each;
      }

  pub rows_joined : (low high : List (ℕ × G)) → rows_of listed (low ++ high) ≡ rows_of listed low ++ rows_of listed high
  rows_joined low high = rows_of-append listed Holds span laws low high

  -- the rows of two trees that lie apart, as those of their groups
  pub apart_inside : (low low_now high high_now : Grouped R) → low ≡ low_now → high ≡ high_now → AreGroupsApart span low_now.rows high_now.rows → AreGroupsApart span low.rows high.rows
  apart_inside low low_now high high_now e f apart = subst (λ s. AreGroupsApart span s.rows high.rows) (sym e) (subst (λ s. AreGroupsApart span low_now.rows s.rows) (sym f) apart)
