-- Laws of groups: a row is put, refused or replaced in its place; the rows that a test chooses, place by place; and the
-- rules of rows that have types.
use Rattle.row_groups.proofs.Common.{◌≡◌, ◌∙◌, ◌≤◌, ◌<◌, ◌+◌, ◌++◌, ℕ, refl, sym, subst, List, Option, arith, length, get_or, set, map, take, take_all, option_to_list, true, false, Bool, IsSome, is_some, Some, None, Ok, Err, Exists, is_between, IsPut, filter, row_at, with_row_at, HasKeys, filled, filled-ordered, AreTyped, IsTypedRow, between_from}
use Rattle.row_groups.proofs.FilledLemmas.{chosen-more, filled-each, filled-missing, filled-put, filled-replaced, found-taken, free-found, none_of, read_place, taken-found}

module _ {D R : Type 0} (row : ℕ → D → R) (key : R → ℕ) (at : ℕ → ℕ) (keys : HasKeys row key at) where
  -- a row is put into the free place of its key
  pub put_free : (i n place : ℕ) (d : D) (r : R) (ps : List (Option D)) → i + n ≡ place → row place d ≡ r → n < length ps → get_or ps n None ≡ None
      → IsPut key r (filled row i ps) (filled row i (set ps n (Some d))) (Ok tt)
  put_free i n place d r ps e is within free =
      subst (λ x. IsPut key x (filled row i ps) (filled row i (set ps n (Some d))) (Ok tt)) is
      (rw (keys.keyed place d) (free-found row key at keys i n place ps e free), sym (filled-put row key at keys i n place d ps e within free))

  -- a row whose place is taken is refused
  pub put_refused : (i n place : ℕ) (r : R) (ps : List (Option D)) → i + n ≡ place → key r ≡ at place → is_some (get_or ps n None) ≡ true
      → IsPut key r (filled row i ps) (filled row i ps) (Err Exists)
  put_refused i n place r ps e is taken = (refl, rw is (taken-found row key at keys i n place ps e taken), refl)

  -- a row replaces the one with its key
  pub put_over : (i n place : ℕ) (d : D) (r : R) (ps : List (Option D)) → i + n ≡ place → row place d ≡ r → IsSome (row_at key (at place) (filled row i ps))
      → filled row i (set ps n (Some d)) ≡ with_row_at key (at place) r (filled row i ps)
  put_over i n place d r ps e is found =
      subst (λ x. filled row i (set ps n (Some d)) ≡ with_row_at key (at place) x (filled row i ps)) is
      (sym (filled-replaced row key at keys i n place d ps e (found-taken row key at keys i n place ps e found)))

  -- the same of a place that was read
  module _ (i n place : ℕ) (r : R) (ps : List (Option D)) (from : i + n ≡ place) (within : n < length ps) (found : Option D) (read : found ≡ get_or ps n found) where
    here : get_or ps n found ≡ get_or ps n None
    here = sym read ∙ read_place ps n found within read

    pub put_read : (d : D) → row place d ≡ r → is_some (get_or ps n found) ≡ false → IsPut key r (filled row i ps) (filled row i (set ps n (Some d))) (Ok tt)
    put_read d own free = put_free i n place d r ps from own within (none_of (get_or ps n None) (subst (λ o. is_some o ≡ false) here free))

    pub refused_read : key r ≡ at place → is_some (get_or ps n found) ≡ true → IsPut key r (filled row i ps) (filled row i ps) (Err Exists)
    refused_read own taken = put_refused i n place r ps from own (subst (λ o. is_some o ≡ true) here taken)

  module _ {S : Type 0} (with : R → S) (places : List R → List (Option D)) (test : R → Bool) (i : ℕ) (ps : List (Option D)) (same : places (filled row i ps) ≡ ps) where
    -- the rows that a test chooses, of one place more
    pub chosen_more : (n place : ℕ) (items chosen new : List S) → i + n ≡ place → n < length ps
        → items ≡ map with (filter test (filled row i (take n (places (filled row i ps)))))
        → chosen ≡ map with (filter test (option_to_list (row_at key (at place) (filled row i ps)))) → new ≡ items ++ chosen
        → new ≡ map with (filter test (filled row i (take (n + 1) (places (filled row i ps)))))
    chosen_more n place items chosen new e within so_far more step =
        subst (λ qs. new ≡ map with (filter test (filled row i (take (n + 1) qs)))) (sym same)
        (chosen-more row key at keys with test i n place ps items chosen new e within
        (subst (λ qs. items ≡ map with (filter test (filled row i (take n qs)))) same so_far) more step)

    -- and of all places
    pub chosen_whole : (n : ℕ) (items : List S) → length ps ≤ n
        → items ≡ map with (filter test (filled row i (take n (places (filled row i ps)))))
        → items ≡ map with (filter test (filled row i ps))
    chosen_whole n items past so_far =
        let all = take_all n ps past in
        subst (λ qs. items ≡ map with (filter test (filled row i qs))) all
        (subst (λ qs. items ≡ map with (filter test (filled row i (take n qs)))) same so_far)

-- rows in four places by their types
module _ {D R : Type 0} (row : ℕ → D → R) (type_of : R → ℕ) (keys : HasKeys row type_of (λ place. place)) (ps : List (Option D)) (size : length ps ≡ 4) where
  -- the rows keep the rules of a group
  pub typed_rules : (s_id : R → ℕ) → ((place : ℕ) (d : D) → s_id (row place d) ≡ 0) → AreTyped s_id type_of (filled row 1 ps)
  typed_rules s_id none = record {
    ordered = filled-ordered row type_of (λ place. place) keys 1 ps;
    each = filled-each row (IsTypedRow s_id type_of) 1 ps (λ place d from below. let own = keys.keyed place d in (none place d, omega (arith, own), omega (arith, own)));
  }

  -- no row has a type that is out of range
  pub no_type : (k : ℕ) → is_between 1 4 k ≡ false → row_at type_of k (filled row 1 ps) ≡ None
  no_type k out = filled-missing row type_of (λ place. place) keys k 1 ps (λ place from below same.
      let within : is_between 1 4 k ≡ true = between_from 1 4 k (omega arith) (omega (arith, size)) in let wrong : true ≡ false = sym within ∙ out in absurd cc)

  -- a row is put into the place of its type, or is refused there
  module _ (n : ℕ) (r : R) (at : n + 1 ≡ type_of r) (within : n < 4) (found : Option D) (read : found ≡ get_or ps n found) where
    pub type_put : (d : D) → row (type_of r) d ≡ r → is_some (get_or ps n found) ≡ false → IsPut type_of r (filled row 1 ps) (filled row 1 (set ps n (Some d))) (Ok tt)
    type_put d own free = put_read row type_of (λ place. place) keys 1 n (type_of r) r ps (omega arith) (omega arith) found read d own free

    pub type_refused : is_some (get_or ps n found) ≡ true → IsPut type_of r (filled row 1 ps) (filled row 1 ps) (Err Exists)
    type_refused taken = refused_read row type_of (λ place. place) keys 1 n (type_of r) r ps (omega arith) (omega arith) found read refl taken
