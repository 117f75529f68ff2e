-- Jobs of different parts commute.
use Rattle.hlr_core.proofs.Common.{◌≡◌, ◌≢◌, ◌∙◌, refl, sym, ap, ℕ, zero, suc, List, [], ◌∷◌, ◌++◌, get_or, set, arith, true, Some, position, slice_get, ◌==◌, AllByRecursion, by_test, nat_tests, set_comm, position-Some, is_part, is_part_place, Place, Region, blank, Job, RegionOwner, Part, AreDone, IsDoneAt, JobReply, JobsCommute, jobs_of_others, jobs_of, Reply}
use Rattle.part_table.specs.declared.region.Place.TheVariants as place

-- a place is that of one part
one_part : (of : Place) (p q : ℕ) → is_part_place p of ≡ true → is_part_place q of ≡ true → p ≡ q
one_part (place.Part n) p q one other =
    let a : n ≡ p = grind (arith, nat_tests) in
    let b : n ≡ q = grind (arith, nat_tests) in
    sym a ∙ b
one_part (place.Piece n) p q one other = absurd cc

apart : (regions : List Region) (p q i j : ℕ) → p ≢ q → position (is_part p) regions ≡ Some i → position (is_part q) regions ≡ Some j → i ≢ j
apart regions p q i j other here there same =
    let one = (position-Some (is_part p) regions i blank here).1 in
    let two = (position-Some (is_part q) regions j blank there).1 in
    other (one_part (get_or regions i blank).place p q one (rw (← same) at two))

-- what stands at another index is as it was
others_stay : {X : Type 0} (xs : List X) (i j : ℕ) (x : X) → i ≢ j → slice_get (set xs i x) j ≡ slice_get xs j
others_stay [] i j x other = refl
others_stay (y ∷ xs) zero zero x other = absurd (other refl)
others_stay (y ∷ xs) zero (suc j) x other = refl
others_stay (y ∷ xs) (suc i) zero x other = refl
others_stay (y ∷ xs) (suc i) (suc j) x other = others_stay xs i j x (λ same. other (ap suc same))

-- two jobs of different parts, done in either order
exchanged : (regions : List Region) (p q : ℕ) → p ≢ q → (job next : Job) (a b c : List RegionOwner) (answer told : Reply) → IsDoneAt regions p job a answer b → IsDoneAt regions q next b told c
    → (d : List RegionOwner) × IsDoneAt regions q next a told d × IsDoneAt regions p job d answer c
exchanged regions p q other job next a b c answer told first second =
    let differ = apart regions p q first.index second.index other first.region second.region in
    let here : RegionOwner = Part (record first.part_owner_state { holding = first.holding }) in
    let there : RegionOwner = Part (record second.part_owner_state { holding = second.holding }) in
    let stood : slice_get a second.index ≡ Some (Part second.part_owner_state) = sym (others_stay a first.index second.index here differ) ∙ rw first.is at second.owner in
    let stands : slice_get (set a second.index there) first.index ≡ Some (Part first.part_owner_state) = others_stay a second.index first.index there (λ same. differ (sym same)) ∙ first.owner in (
      set a second.index there,
      record { index = second.index; part_owner_state = second.part_owner_state; holding = second.holding; region = second.region; owner = stood; done = second.done; is = refl },
      record {
        index = first.index;
        part_owner_state = first.part_owner_state;
        holding = first.holding;
        region = first.region;
        owner = stands;
        done = first.done;
        is = second.is ∙ ap (λ (owners : List RegionOwner). set owners second.index there) first.is ∙ set_comm a first.index second.index here there differ;
      },
    )

-- a job before those of another part, and behind them
module _ (regions : List Region) (p : ℕ) (one : JobReply) (other : one.part ≢ p) (ys : List JobReply) where
  moved_behind : (xs : List JobReply) → AllByRecursion (λ x. x.part ≡ p) xs → (a b c : List RegionOwner) → IsDoneAt regions one.part one.job a one.answer b → AreDone regions b (xs ++ ys) c
      → AreDone regions a (xs ++ one ∷ ys) c
  moved_behind [] own a b c first rest = (b, first, rest)
  moved_behind (x ∷ xs) own a b c first rest =
      let turned = exchanged regions one.part x.part (λ same. other (same ∙ own.0)) one.job x.job a b rest.0 one.answer x.answer first rest.1 in
      (turned.0, turned.1, moved_behind xs own.1 turned.0 rest.0 c turned.2 rest.2)

  moved_before : (xs : List JobReply) → AllByRecursion (λ x. x.part ≡ p) xs → (a c : List RegionOwner) → AreDone regions a (xs ++ one ∷ ys) c
      → (b : List RegionOwner) × IsDoneAt regions one.part one.job a one.answer b × AreDone regions b (xs ++ ys) c
  moved_before [] own a c done = done
  moved_before (x ∷ xs) own a c done =
      let rest = moved_before xs own.1 done.0 c done.2 in
      let turned = exchanged regions x.part one.part (λ same. other (sym same ∙ own.0)) x.job one.job a done.0 rest.0 x.answer one.answer done.1 rest.1 in
      (turned.0, turned.1, (rest.0, turned.2, rest.2))

each_own : (p : ℕ) (jobs : List JobReply) → AllByRecursion (λ x. x.part ≡ p) (jobs_of p jobs)
each_own p [] = tt
each_own p (one ∷ jobs) =
    by_test (one.part == p)
    (λ e. rw e ((grind (arith, nat_tests)), each_own p jobs))
    (λ e. rw e (each_own p jobs))

pub jobs_commute : (regions : List Region) → JobsCommute regions
jobs_commute regions p [] before after = (λ done. done, λ done. done)
jobs_commute regions p (one ∷ jobs) before after =
    by_test (one.part == p)
    (λ e. rw e (
      λ done. (done.0, done.1, (jobs_commute regions p jobs done.0 after).0 done.2),
      λ done. (done.0, done.1, (jobs_commute regions p jobs done.0 after).1 done.2),
    ))
    (λ e.
    let other : one.part ≢ p = grind (arith, nat_tests) in
    rw e (
      λ done. moved_behind regions p one other (jobs_of_others p jobs) (jobs_of p jobs) (each_own p jobs) before done.0 after done.1 ((jobs_commute regions p jobs done.0 after).0 done.2),
      λ done. (let first = moved_before regions p one other (jobs_of_others p jobs) (jobs_of p jobs) (each_own p jobs) before after done in
          (first.0, first.1, (jobs_commute regions p jobs first.0 after).1 first.2)),
    ))
