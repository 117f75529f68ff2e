-- What the calls of a tree of groups say of its rows.
use Rattle.group_tree.proofs.Common.{◌≡◌, ◌∙◌, refl, sym, ap, subst, ℕ, ◌+◌, ◌<◌, ◌≤◌, ◌≢◌, List, [], ◌∷◌, ◌++◌, length, Option, Some, None, option_map, IsSome, is_some, arith, append-nil, AllByRecursion, nat_tests, filter-append, filter_all, each-weaker, keys_below, rows_beside, with_row_at_absent, without_row_absent, length-with_row_at, IsHeightOf, IsHeightOfGroups, length-append, IfErr, IfSome, row_at, with_row, with_row_at, without_row, each-with_row, each-with_row_at, each-without_row, ordered-with_row, ordered-with_row_at, ordered-without_row, from-weaker, length-with_row, with_row-front, with_row-skip, with_row_at-here, without_row-here, KeysFrom, key_of_pair, value_at, AreGroups, HaveLaws, base_of, rows_of, Result, Ok, Err, if◌then◌else◌, Bor, each-append, Back, Refusal, Exists, Memory, IsInserted, IsFilled}
use Rattle.row_groups.proofs.FilledLemmas.{none_mapped}
use Rattle.tatp_rows.proofs.HalfLemmas.{below_none, from_all}
use Rattle.group_tree.proofs.BaseLemmas.{base_base}
use Rattle.group_tree.proofs.PlaceLemmas.{below_span, from_base}
use Rattle.group_tree.proofs.SideLemmas.{from_gone}
use Rattle.group_tree.proofs.GroupsLemmas.{Around, around, few_rows, found_beside, group_at, put_beside, removed_beside, replaced_beside, rows_below, rows_from, rows_of-append}

-- the answer of an insertion, with the row in place of its group
abbrev pub IsHandedOn : {G R : Type 0} → Result (Unit {0}) (Back G) → R → Result (Unit {0}) (Back R) → Type 0
IsHandedOn (Ok u) row given = given ≡ Ok tt
IsHandedOn (Err back) row given = given ≡ Err (record { why = back.why; item = row })

-- no value at a key is no row at it
pub no_pair : {V : Type 0} (key : ℕ) (rows : List (ℕ × V)) → None ≡ value_at key rows → row_at key_of_pair key rows ≡ None
no_pair key rows e = none_mapped (λ p. p.1) (row_at key_of_pair key rows) e

-- a list of no element
emptied : {X : Type 0} (xs : List X) → length xs ≡ 0 → xs ≡ []
emptied [] e = refl
emptied (x ∷ xs) e = absurd (omega (arith, e))

module _ {G R : Type 0} {listed : ℕ → G → List (ℕ × R)} {Holds : ℕ → G → Type 0} {span : ℕ} {key_in : ℕ → ℕ → ℕ} (laws : HaveLaws listed Holds span key_in) {groups : List (ℕ × G)} (are : AreGroups listed Holds groups) (key : ℕ) {base : ℕ} (at : base ≡ base_of span key) where
  -- the groups around the one that was found
  pub beside : (found : Option G) → found ≡ value_at base groups → Around listed Holds span laws (base_of span key) groups (group_at listed Holds span laws (base_of span key) found)
  beside found e =
      subst (λ o. Around listed Holds span laws (base_of span key) groups (group_at listed Holds span laws (base_of span key) o))
      (ap (λ (b : ℕ). value_at b groups) (sym at) ∙ sym e)
      (around listed Holds span laws (base_of span key) groups (base_base span laws.positive key) are.ordered are.each)

  -- without a group there is no row
  pub no_row : None ≡ value_at base groups → row_at key_of_pair key (rows_of listed groups) ≡ None
  no_row e = found_beside listed Holds span laws key groups [] (beside None e)

  -- and nothing to change
  pub none_removed : None ≡ value_at base groups → rows_of listed groups ≡ without_row key_of_pair key (rows_of listed groups)
  none_removed e = sym (without_row_absent key_of_pair key (rows_of listed groups) (no_row e))

  pub none_replaced : None ≡ value_at base groups → (row : R) → rows_of listed groups ≡ with_row_at key_of_pair key (key, row) (rows_of listed groups)
  none_replaced e row = sym (with_row_at_absent key_of_pair key (key, row) (rows_of listed groups) (no_row e))

  pub none_there : None ≡ value_at base groups → None ≡ value_at key (rows_of listed groups)
  none_there e = sym (ap (option_map (λ p. p.1)) (no_row e))

  -- and none beside it
  pub none_beside : None ≡ value_at base groups → rows_beside span key (rows_of listed groups) ≡ []
  none_beside e =
      let a = beside None e in
      let low = base_of span key in
      let front_below = rows_below listed Holds span laws low a.front (base_base span laws.positive key) a.front_each a.below in
      let back_from = rows_from listed Holds span laws (low + span) a.back a.back_each a.behind in
      ap (λ gs. rows_beside span key (rows_of listed gs)) a.list
      ∙ ap (rows_beside span key) (rows_of-append listed Holds span laws a.front a.back)
      ∙ ap (keys_below key_of_pair (low + span)) (from_gone low (rows_of listed a.front) (rows_of listed a.back) front_below ∙ from_all key_of_pair low (rows_of listed a.back) (from-weaker key_of_pair low (low + span) (rows_of listed a.back) (omega arith) back_from))
      ∙ below_none key_of_pair (low + span) (rows_of listed a.back) back_from

  module _ (group : G) (found : Some group ≡ value_at base groups) where
    pub around_it : Around listed Holds span laws (base_of span key) groups ((base_of span key, group) ∷ [])
    around_it = beside (Some group) found

    one_group : (some : G) → rows_of listed ((base_of span key, some) ∷ []) ≡ listed (base_of span key) some
    one_group some = append-nil (listed (base_of span key) some)

    -- the group that was found keeps the rules
    pub its_rules : Holds (base_of span key) group
    its_rules = around_it.here_each.0.0

    its_size : 1 ≤ length (listed (base_of span key) group)
    its_size = around_it.here_each.0.1

    -- a row is where its group has it
    pub its_row : row_at key_of_pair key (rows_of listed groups) ≡ row_at key_of_pair key (listed (base_of span key) group)
    its_row = found_beside listed Holds span laws key groups ((base_of span key, group) ∷ []) around_it ∙ ap (row_at key_of_pair key) (one_group group)

    pub its_value : (value : Option R) → value ≡ value_at key (listed (base_of span key) group) → value ≡ value_at key (rows_of listed groups)
    its_value value e = e ∙ sym (ap (option_map (λ p. p.1)) its_row)

    -- a row that its group doesn't have
    pub absent_removed : None ≡ value_at key (listed (base_of span key) group) → rows_of listed groups ≡ without_row key_of_pair key (rows_of listed groups)
    absent_removed e = sym (without_row_absent key_of_pair key (rows_of listed groups) (no_pair key (rows_of listed groups) (its_value None e)))

    pub absent_replaced : None ≡ value_at key (listed (base_of span key) group) → (row : R) → rows_of listed groups ≡ with_row_at key_of_pair key (key, row) (rows_of listed groups)
    absent_replaced e row = sym (with_row_at_absent key_of_pair key (key, row) (rows_of listed groups) (no_pair key (rows_of listed groups) (its_value None e)))

    -- it has all rows of its span
    pub some_beside : rows_beside span key (rows_of listed groups) ≡ listed (base_of span key) group
    some_beside =
        let low = base_of span key in
        let own = listed low group in
        let front = rows_of listed around_it.front in
        let back = rows_of listed around_it.back in
        let front_below = rows_below listed Holds span laws low around_it.front (base_base span laws.positive key) around_it.front_each around_it.below in
        let back_from = rows_from listed Holds span laws (low + span) around_it.back around_it.back_each around_it.behind in
        let both_from = each-append (λ q. low ≤ key_of_pair q) own back (from_base laws low group its_rules) (from-weaker key_of_pair low (low + span) back (omega arith) back_from) in
        ap (λ gs. rows_beside span key (rows_of listed gs)) around_it.list
        ∙ ap (rows_beside span key) (rows_of-append listed Holds span laws around_it.front ((low, group) ∷ around_it.back))
        ∙ ap (keys_below key_of_pair (low + span)) (from_gone low front (own ++ back) front_below ∙ from_all key_of_pair low (own ++ back) both_from)
        ∙ filter-append _ own back
        ∙ ap (λ none. keys_below key_of_pair (low + span) own ++ none) (below_none key_of_pair (low + span) back back_from)
        ∙ append-nil (keys_below key_of_pair (low + span) own)
        ∙ filter_all _ own (each-weaker {P = λ q. key_of_pair q < low + span} (λ q less. grind (arith, nat_tests)) own (below_span laws low group its_rules))

    with_it : (new : G) → with_row_at key_of_pair base (base, new) groups ≡ around_it.front ++ (((base_of span key, new) ∷ []) ++ around_it.back)
    with_it new =
        subst (λ (b : ℕ). with_row_at key_of_pair b (b, new) groups ≡ around_it.front ++ (((base_of span key, new) ∷ []) ++ around_it.back)) (sym at)
        (ap (with_row_at key_of_pair (base_of span key) (base_of span key, new)) around_it.list
        ∙ with_row_at-here key_of_pair (base_of span key) (base_of span key, new) around_it.front (base_of span key, group) around_it.back around_it.below refl)

    without_it : without_row key_of_pair base groups ≡ around_it.front ++ ([] ++ around_it.back)
    without_it =
        subst (λ (b : ℕ). without_row key_of_pair b groups ≡ around_it.front ++ ([] ++ around_it.back)) (sym at)
        (ap (without_row key_of_pair (base_of span key)) around_it.list
        ∙ without_row-here key_of_pair (base_of span key) around_it.front (base_of span key, group) around_it.back around_it.below refl)

    module _ (new : G) where
      -- what an edit of the group does to all rows
      pub put_there : (row : R) → listed (base_of span key) new ≡ with_row key_of_pair (key, row) (listed (base_of span key) group) → rows_of listed (with_row_at key_of_pair base (base, new) groups) ≡ with_row key_of_pair (key, row) (rows_of listed groups)
      put_there row e =
          ap (rows_of listed) (with_it new)
          ∙ put_beside listed Holds span laws key groups ((base_of span key, group) ∷ []) around_it ((base_of span key, new) ∷ []) row
          (one_group new ∙ e ∙ ap (with_row key_of_pair (key, row)) (sym (one_group group)))

      pub replaced_there : (row : R) → listed (base_of span key) new ≡ with_row_at key_of_pair key (key, row) (listed (base_of span key) group) → rows_of listed (with_row_at key_of_pair base (base, new) groups) ≡ with_row_at key_of_pair key (key, row) (rows_of listed groups)
      replaced_there row e =
          ap (rows_of listed) (with_it new)
          ∙ replaced_beside listed Holds span laws key groups ((base_of span key, group) ∷ []) around_it ((base_of span key, new) ∷ []) row
          (one_group new ∙ e ∙ ap (with_row_at key_of_pair key (key, row)) (sym (one_group group)))

      pub removed_there : listed (base_of span key) new ≡ without_row key_of_pair key (listed (base_of span key) group) → rows_of listed (with_row_at key_of_pair base (base, new) groups) ≡ without_row key_of_pair key (rows_of listed groups)
      removed_there e =
          ap (rows_of listed) (with_it new)
          ∙ removed_beside listed Holds span laws key groups ((base_of span key, group) ∷ []) around_it ((base_of span key, new) ∷ [])
          (one_group new ∙ e ∙ ap (without_row key_of_pair key) (sym (one_group group)))

      -- the groups with another one in its place
      pub are_with : Holds (base_of span key) new → 1 ≤ length (listed (base_of span key) new) → AreGroups listed Holds (with_row_at key_of_pair base (base, new) groups)
      are_with holds some =
          let it : IsFilled listed Holds (base, new) = subst (λ (b : ℕ). IsFilled listed Holds (b, new)) (sym at) (holds, some) in
          record {
            ordered = ordered-with_row_at key_of_pair base (base, new) groups refl are.ordered;
            each = each-with_row_at key_of_pair (IsFilled listed Holds) base (base, new) groups it are.each;
          }

    -- a row that is put into its group
    pub put_are : (new : G) (row : R) → listed (base_of span key) new ≡ with_row key_of_pair (key, row) (listed (base_of span key) group) → Holds (base_of span key) new → AreGroups listed Holds (with_row_at key_of_pair base (base, new) groups)
    put_are new row e holds = are_with new holds (rw (e, length-with_row key_of_pair (key, row) (listed (base_of span key) group)) (omega arith))

    pub put_answer : (new : G) (row : R) → row_at key_of_pair key (listed (base_of span key) group) ≡ None → listed (base_of span key) new ≡ with_row key_of_pair (key, row) (listed (base_of span key) group)
        → IsInserted key row (rows_of listed groups) (rows_of listed (with_row_at key_of_pair base (base, new) groups)) (Ok tt)
    put_answer new row free e = (its_row ∙ free, put_there new row e)

    -- one that is refused
    pub put_refused : (row : R) → IsSome (row_at key_of_pair key (listed (base_of span key) group)) → IsInserted key row (rows_of listed groups) (rows_of listed groups) (Err (record { why = Exists; item = row }))
    put_refused row there = (refl, refl, sym (ap (λ o. if is_some o then Exists else Memory) its_row ∙ rw there refl))

    -- a row that replaces another one
    pub replaced_are : (new : G) (row : R) → listed (base_of span key) new ≡ with_row_at key_of_pair key (key, row) (listed (base_of span key) group) → Holds (base_of span key) new → AreGroups listed Holds (with_row_at key_of_pair base (base, new) groups)
    replaced_are new row e holds =
        are_with new holds (rw (e, length-with_row_at key_of_pair key (key, row) (listed (base_of span key) group)) its_size)

    -- a row that is removed, and isn't the last one
    pub removed_are : (new : G) (rest : ℕ) → rest ≡ length (listed (base_of span key) new) → rest ≢ 0 → Holds (base_of span key) new → AreGroups listed Holds (with_row_at key_of_pair base (base, new) groups)
    removed_are new rest e some holds = are_with new holds (omega arith)

    -- a group whose last row goes
    pub removed_whole : (new : G) (rest : ℕ) → listed (base_of span key) new ≡ without_row key_of_pair key (listed (base_of span key) group) → rest ≡ length (listed (base_of span key) new) → rest ≡ 0 → rows_of listed (without_row key_of_pair base groups) ≡ without_row key_of_pair key (rows_of listed groups)
    removed_whole new rest rows size none =
        let e : without_row key_of_pair key (listed (base_of span key) group) ≡ [] = sym rows ∙ emptied (listed (base_of span key) new) (sym size ∙ none) in
        ap (rows_of listed) without_it
        ∙ removed_beside listed Holds span laws key groups ((base_of span key, group) ∷ []) around_it [] (sym (ap (without_row key_of_pair key) (one_group group) ∙ e))

    pub are_without : AreGroups listed Holds (without_row key_of_pair base groups)
    are_without = record {
      ordered = ordered-without_row key_of_pair base groups are.ordered;
      each = each-without_row key_of_pair (IsFilled listed Holds) base groups are.each;
    }

  module _ (missing : None ≡ value_at base groups) (new : G) (row : R) (lone : listed (base_of span key) new ≡ (key, row) ∷ []) where
    around_none : Around listed Holds span laws (base_of span key) groups []
    around_none = beside None missing

    -- the first row of a group
    pub put_first : rows_of listed (with_row key_of_pair (base, new) groups) ≡ with_row key_of_pair (key, row) (rows_of listed groups)
    put_first =
        subst (λ (b : ℕ). rows_of listed (with_row key_of_pair (b, new) groups) ≡ with_row key_of_pair (key, row) (rows_of listed groups)) (sym at)
        (ap (λ gs. rows_of listed (with_row key_of_pair (base_of span key, new) gs)) around_none.list
        ∙ ap (rows_of listed) (with_row-skip key_of_pair (base_of span key, new) around_none.front around_none.back around_none.below)
        ∙ ap (λ gs. rows_of listed (around_none.front ++ gs)) (with_row-front key_of_pair (base_of span key, new) around_none.back behind)
        ∙ put_beside listed Holds span laws key groups [] around_none ((base_of span key, new) ∷ []) row (append-nil (listed (base_of span key) new) ∙ lone))
      where
        behind : KeysFrom (base_of span key + 1) around_none.back
        behind = from-weaker key_of_pair (base_of span key + 1) (base_of span key + span) around_none.back (omega (arith, laws.positive)) around_none.behind

    pub are_more : Holds (base_of span key) new → AreGroups listed Holds (with_row key_of_pair (base, new) groups)
    are_more holds =
        let some : 1 ≤ length (listed (base_of span key) new) = rw lone (omega arith) in
        let it : IsFilled listed Holds (base, new) = subst (λ (b : ℕ). IsFilled listed Holds (b, new)) (sym at) (holds, some) in
        record {
          ordered = ordered-with_row key_of_pair (base, new) groups (no_pair base groups missing) are.ordered;
          each = each-with_row key_of_pair (IsFilled listed Holds) (base, new) groups it are.each;
        }

    -- what the addition of a group with one row makes of the groups
    pub first_are : Holds (base_of span key) new → (answer : Result (Unit {0}) (Back G)) (after : List (ℕ × G)) → IsInserted base new groups after answer → AreGroups listed Holds after
    first_are holds (Ok u) after h = subst (AreGroups listed Holds) (sym h.1) (are_more holds)
    first_are holds (Err back) after h = subst (AreGroups listed Holds) (sym h.1) are

    first_in : (after : List (ℕ × G)) → after ≡ with_row key_of_pair (base, new) groups → IsInserted key row (rows_of listed groups) (rows_of listed after) (Ok tt)
    first_in after h = (no_row missing, ap (rows_of listed) h ∙ put_first)

    first_refused : (after : List (ℕ × G)) (why : Refusal) → after ≡ groups → why ≡ (if is_some (row_at key_of_pair base groups) then Exists else Memory) → IsInserted key row (rows_of listed groups) (rows_of listed after) (Err (record { why = why; item = row }))
    first_refused after why h w =
        let memory : why ≡ Memory = w ∙ ap (λ o. if is_some o then Exists else Memory) (no_pair base groups missing) in
        (refl, ap (rows_of listed) h, memory ∙ sym (ap (λ o. if is_some o then Exists else Memory) (no_row missing)))

    -- and of the rows
    pub first_answer : (answer : Result (Unit {0}) (Back G)) (after : List (ℕ × G)) (given : Result (Unit {0}) (Back R)) → IsInserted base new groups after answer → IsHandedOn answer row given → IsInserted key row (rows_of listed groups) (rows_of listed after) given
    first_answer (Ok u) after given h same = subst (IsInserted key row (rows_of listed groups) (rows_of listed after)) (sym same) (first_in after h.1)
    first_answer (Err back) after given h same = subst (IsInserted key row (rows_of listed groups) (rows_of listed after)) (sym same) (first_refused after back.why h.1 h.2)

-- a group that was found has all rows of its span; without one there are none
module _ {G R : Type 0} {listed : ℕ → G → List (ℕ × R)} {Holds : ℕ → G → Type 0} {span : ℕ} {key_in : ℕ → ℕ → ℕ} (laws : HaveLaws listed Holds span key_in) {groups : List (ℕ × G)} (are : AreGroups listed Holds groups) (key : ℕ) {base : ℕ} (at : base ≡ base_of span key) where
  pub group_found : (lent : Option (Bor G)) → option_map (λ r. r.now) lent ≡ value_at base groups → IfSome lent (λ group. listed (base_of span key) group.now ≡ rows_beside span key (rows_of listed groups))
  group_found None e = tt
  group_found (Some group) e = sym (some_beside laws are key at group.now e)

  pub group_missing : (lent : Option (Bor G)) → option_map (λ r. r.now) lent ≡ value_at base groups → lent ≡ None → rows_beside span key (rows_of listed groups) ≡ []
  group_missing lent e none = none_beside laws are key at (sym (ap (option_map (λ r. r.now)) none) ∙ e)

-- each group has one to four rows
module _ {G R : Type 0} {listed : ℕ → G → List (ℕ × R)} {Holds : ℕ → G → Type 0} {span : ℕ} {key_in : ℕ → ℕ → ℕ} (laws : HaveLaws listed Holds span key_in) where
  fewer_groups : (groups : List (ℕ × G)) → AllByRecursion (IsFilled listed Holds) groups → length groups ≤ length (rows_of listed groups)
  fewer_groups [] each = omega arith
  fewer_groups (p ∷ groups) each = omega (arith, fewer_groups groups each.1, each.0.1, length-append (listed p.0 p.1) (rows_of listed groups))

  pub height_of_rows : (groups : List (ℕ × G)) → AreGroups listed Holds groups → (height : ℕ) → IsHeightOf height (length groups) → IsHeightOfGroups height (length (rows_of listed groups))
  height_of_rows groups are height h =
      let low = fewer_groups groups are.each in
      let high = few_rows listed Holds span laws groups (each-weaker {P = IsFilled listed Holds} (λ p h. h.0) groups are.each) in
      record {
        low = λ some. omega (arith, h.low some, low);
        high = omega (arith, h.high, high);
      }

  -- memory that is refused to a tree of groups, is refused to one of as many rows
  pub memory_of_rows : (groups : List (ℕ × G)) → AreGroups listed Holds groups → (answer : Result (Unit {0}) (Back G)) (row : R) (given : Result (Unit {0}) (Back R)) → IfErr answer (λ back. back.why ≡ Memory → 32 ≤ length groups) → IsHandedOn answer row given → IfErr given (λ back. back.why ≡ Memory → 32 ≤ length (rows_of listed groups))
  memory_of_rows groups are (Ok u) row given h same = subst (λ x. IfErr x (λ back. back.why ≡ Memory → 32 ≤ length (rows_of listed groups))) (sym same) tt
  memory_of_rows groups are (Err back) row given h same =
      subst (λ x. IfErr x (λ back. back.why ≡ Memory → 32 ≤ length (rows_of listed groups))) (sym same)
      (λ why. let low = fewer_groups groups are.each in let wanted = h why in omega arith)

  -- a tree of so few rows has as few groups
  pub few_of_rows : (groups : List (ℕ × G)) → AreGroups listed Holds groups → length (rows_of listed groups) < 32 → length groups < 32
  few_of_rows groups are few = let low = fewer_groups groups are.each in omega arith

-- what is known of any refusal
pub of_refusal : {R : Type 0} (P : Type 0) (given : Result (Unit {0}) (Back R)) → P → IfErr given (λ back. back.why ≡ Memory → P)
of_refusal P (Ok u) p = tt
of_refusal P (Err back) p = λ why. p
