-- The moves of a re-cut, one after another.
use Rattle.hlr_owners.proofs.Common.{◌≡◌, ◌∙◌, refl, sym, ap, ℕ, ◌+◌, ◌<◌, ◌≤◌, List, [], ◌∷◌, length, get_or, drop, inl, inr, Result, Ok, Err, IsOk, drop_more, drop_all, Refusal, parts_between, moved, all_moved, CutMove, Region, IsStopped, IsRecutBy, half_moved, IsHanded, Store}

-- where a re-cut stands in front of the moves that are left: they lead to its bounds, and what stops them stops all
-- moves
pub record IsMoving (bounds : List ℕ) (moves left : List CutMove) (before now : Store) : Type 0 where
  pub leads : all_moved left (Ok now.regions) ≡ Ok (parts_between 0 1 bounds)
  pub same : now ≡ record before { regions = now.regions }
  pub stops : (regions : List Region) → IsStopped left now.regions regions → IsStopped moves before.regions regions

pub moving_begins : (bounds : List ℕ) (moves : List CutMove) (before : Store) → all_moved moves (Ok before.regions) ≡ Ok (parts_between 0 1 bounds) → IsMoving bounds moves moves before before
moving_begins bounds moves before leads = record { leads = leads; same = refl; stops = λ regions stopped. stopped }

-- the next move can be done
moves_on : (move : CutMove) (left : List CutMove) (regions ends : List Region) → all_moved (move ∷ left) (Ok regions) ≡ Ok ends → IsOk (moved move regions)
moves_on move left regions ends leads = cases (moved move regions) left leads
  where
    cases : (next : Result (List Region) Refusal) (left : List CutMove) → all_moved left next ≡ Ok ends → IsOk next
    cases (Ok next) left leads = refl
    cases (Err why) [] leads = absurd cc
    cases (Err why) (other ∷ left) leads = absurd cc

module _ (bounds : List ℕ) (moves : List CutMove) (i : ℕ) (d : CutMove) (before now : Store) (within : i < length moves)
    (moving : IsMoving bounds moves (drop i moves) before now) where
  abbrev move : CutMove
  move = get_or moves i d

  here : drop i moves ≡ get_or moves i d ∷ drop (i + 1) moves
  here = drop_more moves i d within

  pub move_can : IsOk (moved move now.regions)
  move_can = moves_on move (drop (i + 1) moves) now.regions (parts_between 0 1 bounds) (rw here at moving.leads)

  -- a move more
  pub moving_more : (after : Store) → IsHanded (moved move now.regions) (half_moved move now.regions) now (Ok tt) after → IsMoving bounds moves (drop (i + 1) moves) before after
  moving_more after done = record {
    leads = ap (all_moved (drop (i + 1) moves)) (sym done.0) ∙ rw here at moving.leads;
    same = done.1 ∙ ap (λ (s : Store). record s { regions = after.regions }) moving.same;
    stops = λ regions stopped. moving.stops regions (rw here (inr (inr (after.regions, done.0, stopped))));
  }

  -- a move that is stopped
  pub moving_stopped : (after : Store) (why : Refusal) → IsHanded (moved move now.regions) (half_moved move now.regions) now (Err why) after
      → IsRecutBy (Ok moves) bounds before (Err why) after
  moving_stopped after why stopped = (
    stopped.0,
    stopped.1 ∙ ap (λ (s : Store). record s { regions = after.regions }) moving.same,
    moving.stops after.regions (rw here (elim stopped.2 [ inl same ↦ inl same | inr half ↦ inr (inl half) ])),
  )

-- all moves
pub all_moves : (bounds : List ℕ) (moves : List CutMove) (i : ℕ) (before now : Store) → length moves ≤ i → IsMoving bounds moves (drop i moves) before now
    → now ≡ record before { regions = parts_between 0 1 bounds }
all_moves bounds moves i before now past moving =
    let told = rw (drop_all i moves past) at moving.leads in
    let ends : now.regions ≡ parts_between 0 1 bounds = cc in
    moving.same ∙ ap (λ (regions : List Region). record before { regions = regions }) ends

-- a re-cut leaves the book
pub recut_stays : (moves : Result (List CutMove) Refusal) (bounds : List ℕ) (before after : Store) (answer : Result ℕ Refusal) → IsRecutBy moves bounds before answer after → after.book ≡ before.book
recut_stays (Ok moves) bounds before after (Ok count) done = ap (λ (s : Store). s.book) done.1
recut_stays moves bounds before after answer done = ap (λ (s : Store). s.book) done.1
