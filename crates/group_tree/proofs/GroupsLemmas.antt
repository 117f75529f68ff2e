-- What an edit of one group does to the rows of all groups.
use Rattle.group_tree.proofs.Common.{◌≡◌, ◌∙◌, refl, sym, ap, subst, ℕ, ◌+◌, ◌*◌, ◌<◌, ◌≤◌, ◌==◌, nat_lt, List, [], ◌∷◌, ◌++◌, length, length-append, Option, Some, None, arith, append_assoc, AllByRecursion, nat_tests, IsOrderedBy, row_at, with_row, with_row_at, without_row, each-append, absent_below, by_test, each-weaker, below-weaker, from-weaker, row_at-part, with_row-part, with_row_at-part, without_row-part, KeysBelow, KeysFrom, key_of_pair, value_at, HaveLaws, IsBase, base_of, rows_of, IsFilled}
use Rattle.group_tree.proofs.PlaceLemmas.{below_span, four_rows, from_base}
use Rattle.group_tree.proofs.BaseLemmas.{base_base, base_high, base_low, base_step}

module _ {G R : Type 0} (listed : ℕ → G → List (ℕ × R)) (Holds : ℕ → G → Type 0) (span : ℕ) {key_in : ℕ → ℕ → ℕ} (laws : HaveLaws listed Holds span key_in) where
  -- the rows of two lists of groups
  pub rows_of-append : (a b : List (ℕ × G)) → rows_of listed (a ++ b) ≡ rows_of listed a ++ rows_of listed b
  rows_of-append [] b = refl
  rows_of-append (p ∷ a) b = ap (λ rows. listed p.0 p.1 ++ rows) (rows_of-append a b) ∙ sym (append_assoc (listed p.0 p.1) (rows_of listed a) (rows_of listed b))

  -- there are four rows at most for each group
  pub few_rows : (groups : List (ℕ × G)) → AllByRecursion (λ p. Holds p.0 p.1) groups → length (rows_of listed groups) ≤ 4 * length groups
  few_rows [] each = omega arith
  few_rows (p ∷ groups) each = omega (arith, few_rows groups each.1, four_rows laws p.0 p.1 each.0, length-append (listed p.0 p.1) (rows_of listed groups))

  -- the rows of groups that lie from a key on, and of groups that lie a span below it
  pub rows_from : (k : ℕ) (groups : List (ℕ × G)) → AllByRecursion (IsFilled listed Holds) groups → KeysFrom k groups → KeysFrom k (rows_of listed groups)
  rows_from k [] each from = tt
  rows_from k (p ∷ groups) each from =
      each-append (λ q. k ≤ key_of_pair q) (listed p.0 p.1) (rows_of listed groups)
      (from-weaker key_of_pair k p.0 (listed p.0 p.1) from.0 (from_base laws p.0 p.1 each.0.0))
      (rows_from k groups each.1 from.1)

  pub rows_below : (k : ℕ) (groups : List (ℕ × G)) → IsBase span k → AllByRecursion (IsFilled listed Holds) groups → KeysBelow k groups → KeysBelow k (rows_of listed groups)
  rows_below k [] at each below = tt
  rows_below k (p ∷ groups) at each below =
      let group = laws.rules p.0 p.1 each.0.0 in
      each-append (λ q. key_of_pair q < k) (listed p.0 p.1) (rows_of listed groups)
      (below-weaker key_of_pair (p.0 + span) k (listed p.0 p.1) (base_step span laws.positive p.0 k group.at at below.0) (below_span laws p.0 p.1 each.0.0))
      (rows_below k groups at each.1 below.1)

  -- groups around a key: those in front of it, what stands at it, and those behind it
  pub record Around (base : ℕ) (groups here : List (ℕ × G)) : Type 0 where
    pub front : List (ℕ × G)
    pub back : List (ℕ × G)
    pub list : groups ≡ front ++ (here ++ back)
    pub below : KeysBelow base front
    pub behind : KeysFrom (base + span) back
    pub front_each : AllByRecursion (IsFilled listed Holds) front
    pub here_each : AllByRecursion (IsFilled listed Holds) here
    pub back_each : AllByRecursion (IsFilled listed Holds) back

  -- the group that was found at a key, or none
  abbrev pub group_at : ℕ → Option G → List (ℕ × G)
  group_at base None = []
  group_at base (Some group) = (base, group) ∷ []

  -- groups behind another one lie a span behind it
  behind_group : (base : ℕ) (groups : List (ℕ × G)) → IsBase span base → AllByRecursion (IsFilled listed Holds) groups → AllByRecursion (λ q. base < key_of_pair q) groups → KeysFrom (base + span) groups
  behind_group base [] at each above = tt
  behind_group base (p ∷ groups) at each above =
      (base_step span laws.positive base p.0 at (laws.rules p.0 p.1 each.0.0).at above.0, behind_group base groups at each.1 above.1)

  pub around : (base : ℕ) (groups : List (ℕ × G)) → IsBase span base → IsOrderedBy key_of_pair groups → AllByRecursion (IsFilled listed Holds) groups → Around base groups (group_at base (value_at base groups))
  around base [] at ordered each = record { front = []; back = []; list = refl; below = tt; behind = tt; front_each = tt; here_each = tt; back_each = tt }
  around base (p ∷ groups) at ordered each =
      by_test (p.0 == base)
      (λ e. let same : p.0 ≡ base = grind (arith, nat_tests) in
      rw e (record {
        front = [];
        back = groups;
        list = ap (λ (b : ℕ). (b, p.1) ∷ groups) same;
        below = tt;
        behind = behind_group base groups at each.1 (subst (λ (b : ℕ). AllByRecursion (λ q. b < key_of_pair q) groups) same ordered.0);
        front_each = tt;
        here_each = (subst (λ (b : ℕ). IsFilled listed Holds (b, p.1)) same each.0, tt);
        back_each = each.1;
      }))
      (λ e. rw e (by_test (nat_lt p.0 base)
      (λ t. let less : p.0 < base = grind (arith, nat_tests) in
      let rest = around base groups at ordered.1 each.1 in
      record {
        front = p ∷ rest.front;
        back = rest.back;
        list = ap (λ l. p ∷ l) rest.list;
        below = (less, rest.below);
        behind = rest.behind;
        front_each = (each.0, rest.front_each);
        here_each = rest.here_each;
        back_each = rest.back_each;
      })
      (λ t. let more : base < p.0 = grind (arith, nat_tests) in
      let above : AllByRecursion (λ q. base < key_of_pair q) groups = each-weaker {P = λ q. p.0 < key_of_pair q} {Q = λ q. base < key_of_pair q} (λ q h. omega arith) groups ordered.0 in
      rw (absent_below key_of_pair base groups above) (record {
        front = [];
        back = p ∷ groups;
        list = refl;
        below = tt;
        behind = behind_group base (p ∷ groups) at each (more, above);
        front_each = tt;
        here_each = tt;
        back_each = each;
      }))))

  module _ (key : ℕ) (groups here : List (ℕ × G)) (a : Around (base_of span key) groups here) where
    -- the rows in front of a key's group, and those behind it
    front_rows : KeysBelow key (rows_of listed a.front)
    front_rows = below-weaker key_of_pair (base_of span key) key (rows_of listed a.front) (base_low span laws.positive key) (rows_below (base_of span key) a.front (base_base span laws.positive key) a.front_each a.below)

    back_rows : KeysFrom (key + 1) (rows_of listed a.back)
    back_rows =
        let high : key + 1 ≤ base_of span key + span = omega (arith, base_high span laws.positive key) in
        from-weaker key_of_pair (key + 1) (base_of span key + span) (rows_of listed a.back) high (rows_from (base_of span key + span) a.back a.back_each a.behind)

    around_rows : (some : List (ℕ × G)) → rows_of listed (a.front ++ (some ++ a.back)) ≡ rows_of listed a.front ++ (rows_of listed some ++ rows_of listed a.back)
    around_rows some = rows_of-append a.front (some ++ a.back) ∙ ap (λ rows. rows_of listed a.front ++ rows) (rows_of-append some a.back)

    -- a key's row is one of its group's
    pub found_beside : row_at key_of_pair key (rows_of listed groups) ≡ row_at key_of_pair key (rows_of listed here)
    found_beside =
        ap (λ gs. row_at key_of_pair key (rows_of listed gs)) a.list
        ∙ ap (row_at key_of_pair key) (around_rows here)
        ∙ row_at-part key_of_pair key (rows_of listed a.front) (rows_of listed here) (rows_of listed a.back) front_rows back_rows

    module _ (some : List (ℕ × G)) where
      -- edits of a key's group are edits of all rows
      pub put_beside : (row : R) → rows_of listed some ≡ with_row key_of_pair (key, row) (rows_of listed here) → rows_of listed (a.front ++ (some ++ a.back)) ≡ with_row key_of_pair (key, row) (rows_of listed groups)
      put_beside row e =
          around_rows some
          ∙ ap (λ rows. rows_of listed a.front ++ (rows ++ rows_of listed a.back)) e
          ∙ sym (with_row-part key_of_pair (key, row) (rows_of listed a.front) (rows_of listed here) (rows_of listed a.back) front_rows back_rows)
          ∙ ap (with_row key_of_pair (key, row)) (sym (around_rows here))
          ∙ ap (λ gs. with_row key_of_pair (key, row) (rows_of listed gs)) (sym a.list)

      pub replaced_beside : (row : R) → rows_of listed some ≡ with_row_at key_of_pair key (key, row) (rows_of listed here) → rows_of listed (a.front ++ (some ++ a.back)) ≡ with_row_at key_of_pair key (key, row) (rows_of listed groups)
      replaced_beside row e =
          around_rows some
          ∙ ap (λ rows. rows_of listed a.front ++ (rows ++ rows_of listed a.back)) e
          ∙ sym (with_row_at-part key_of_pair key (key, row) (rows_of listed a.front) (rows_of listed here) (rows_of listed a.back) front_rows back_rows)
          ∙ ap (with_row_at key_of_pair key (key, row)) (sym (around_rows here))
          ∙ ap (λ gs. with_row_at key_of_pair key (key, row) (rows_of listed gs)) (sym a.list)

      pub removed_beside : rows_of listed some ≡ without_row key_of_pair key (rows_of listed here) → rows_of listed (a.front ++ (some ++ a.back)) ≡ without_row key_of_pair key (rows_of listed groups)
      removed_beside e =
          around_rows some
          ∙ ap (λ rows. rows_of listed a.front ++ (rows ++ rows_of listed a.back)) e
          ∙ sym (without_row-part key_of_pair key (rows_of listed a.front) (rows_of listed here) (rows_of listed a.back) front_rows back_rows)
          ∙ ap (without_row key_of_pair key) (sym (around_rows here))
          ∙ ap (λ gs. without_row key_of_pair key (rows_of listed gs)) (sym a.list)
