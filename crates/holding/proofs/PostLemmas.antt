-- A posting, cell by cell.
use Rattle.holding.proofs.Common.{◌≡◌, ℕ, ◌+◌, ◌-◌, ◌<◌, ◌≤◌, refl, arith, zero, suc, true, false, not, List, ◌∷◌, take, set, sym, subst, ◌∙◌, Some, None, Ok, Err, ℤ, pos, negsuc, ◌+ℤ◌, range_with_len, filter, take-nil, nat_tests, ints, get_or-set_other, Refusal, CELLS, net_of, posted, is_worn, View, raises_once, delta_at, is_zero, AreZero, IsNextNonzero, HoldingState, IsCellPosted, post_cells, gap, post}
use Rattle.tatp_rows.specs.declared.refusal.Refusal.TheVariants as refusal
use Rattle.holding.specs.Post.{all_cells}

-- the cells from one on, with a gap
abbrev pub open_from : (ℕ → ℤ) → ℕ → ℕ → List ℕ
open_from gaps c left = filter (λ k. not (is_zero (gaps k))) (range_with_len c left)

-- where a posting stands before cell c: what is left of it gives the whole answer, the deltas from c on are the gaps,
-- the desk has the slots that it had, and it raised a word for each cell that was posted
pub record IsPosting (count : ℕ → ℕ) (slot limit : ℕ) (start : View) (c done : ℕ) (pending : List ℤ) (view : View) : Type 0 where
  pub goes : (left : ℕ) → c + left ≡ CELLS →
      post_cells (gap count start) slot (take (limit - done) (open_from (gap count start) c left)) done view ≡ post count slot limit start
  pub ahead : (k : ℕ) → c ≤ k → k < CELLS → delta_at pending k ≡ gap count start k
  pub owned : view.owned ≡ start.owned
  pub raises : view.raises ≡ start.raises + done
  pub few : done ≤ c
  pub within : done ≤ limit

-- a zero amount is zero, and no other is
other_is_not : (z : ℤ) → (z ≡ pos 0 → ⊥) → is_zero z ≡ false
other_is_not (pos zero) never = absurd (never refl)
other_is_not (pos (suc n)) never = grind (arith, nat_tests)
other_is_not (negsuc n) never = refl

-- the cells with a gap, where the first has none, and where it has one
open_past : (gaps : ℕ → ℤ) (c left : ℕ) → gaps c ≡ pos 0 → open_from gaps c (suc left) ≡ open_from gaps (c + 1) left
open_past gaps c left none = rw none refl

open_here : (gaps : ℕ → ℤ) (c left : ℕ) → (gaps c ≡ pos 0 → ⊥) → open_from gaps c (suc left) ≡ c ∷ open_from gaps (c + 1) left
open_here gaps c left some = rw (other_is_not (gaps c) some) refl

-- one cell is posted, and one whose word would wear
post_one : (gaps : ℕ → ℤ) (slot c : ℕ) (cells : List ℕ) (done : ℕ) (view : View) → is_worn view.numbers slot c (gaps c) ≡ false
    → post_cells gaps slot (c ∷ cells) done view ≡ post_cells gaps slot cells (done + 1) (posted view slot c (gaps c))
post_one gaps slot c cells done view e = rw e refl

post_none : (gaps : ℕ → ℤ) (slot c : ℕ) (cells : List ℕ) (done : ℕ) (view : View) → is_worn view.numbers slot c (gaps c) ≡ true
    → post_cells gaps slot (c ∷ cells) done view ≡ (Err refusal.Worn, view)
post_none gaps slot c cells done view e = rw e refl

module _ (count : ℕ → ℕ) (slot limit : ℕ) (start : View) where
  -- a posting begins
  pub posting_begins : (pending : List ℤ) → ((k : ℕ) → k < CELLS → net_of start k +ℤ delta_at pending k ≡ pos (count k)) → IsPosting count slot limit start 0 0 pending start
  unfolding all_cells
  posting_begins pending law = record {
    goes = λ left whole. let all : left ≡ CELLS = omega arith in let limit_is : limit - 0 ≡ limit = omega arith in rw (all, limit_is) refl;
    ahead = λ k from below. let held = law k below in omega (arith, ints);
    owned = refl;
    raises = omega arith;
    few = omega arith;
    within = omega arith;
  }

  -- a cell with nothing pending
  posting_passes : (c done : ℕ) (pending : List ℤ) (view : View) → c < CELLS → delta_at pending c ≡ pos 0
      → IsPosting count slot limit start c done pending view → IsPosting count slot limit start (c + 1) done pending view
  posting_passes c done pending view below none now = record {
    goes = λ left whole. let no_gap : gap count start c ≡ pos 0 = sym (now.ahead c (omega arith) below) ∙ none in
        let was = now.goes (suc left) (omega arith) in rw (open_past (gap count start) c left no_gap) at was;
    ahead = λ k from within. now.ahead k (omega arith) within;
    owned = now.owned;
    raises = now.raises;
    few = omega (arith, now.few);
    within = now.within;
  }

  -- a cell that is posted
  posting_goes_on : (c done : ℕ) (pending : List ℤ) (view : View) → c < CELLS → (done ≡ limit → ⊥)
      → (delta_at pending c ≡ pos 0 → ⊥) → is_worn view.numbers slot c (delta_at pending c) ≡ false
      → IsPosting count slot limit start c done pending view
      → IsPosting count slot limit start (c + 1) (done + 1) (set pending c (pos 0)) (posted view slot c (delta_at pending c))
  posting_goes_on c done pending view below room some fits now = record {
    goes = λ left whole.
        let gap_is = now.ahead c (omega arith) below in
        let there : gap count start c ≡ pos 0 → ⊥ = λ e. some (gap_is ∙ e) in
        let fits' : is_worn view.numbers slot c (gap count start c) ≡ false = rw (← gap_is) fits in
        let one_left : limit - done ≡ suc (limit - (done + 1)) = omega (arith, now.within) in
        let was = now.goes (suc left) (omega arith) in
        let first = rw (open_here (gap count start) c left there, one_left) at was in
        let rest = take (limit - (done + 1)) (open_from (gap count start) (c + 1) left) in
        rw gap_is (sym (post_one (gap count start) slot c rest done view fits') ∙ first);
    ahead = λ k from within. get_or-set_other pending c k (pos 0) (pos 0) (omega arith) ∙ now.ahead k (omega arith) within;
    owned = now.owned;
    raises = let once = raises_once (delta_at pending c) some in let before = now.raises in omega arith;
    few = omega (arith, now.few);
    within = omega (arith, now.within);
  }

  -- the cells up to one, with nothing pending
  posting_skips : (from c done : ℕ) (pending : List ℤ) (view : View) → from ≤ c → c ≤ CELLS → AreZero from c pending
      → IsPosting count slot limit start from done pending view → IsPosting count slot limit start c done pending view
  posting_skips from c done pending view up within none now = steps (c - from) from (omega arith) none now
    where
      steps : (n from : ℕ) → from + n ≡ c → AreZero from c pending → IsPosting count slot limit start from done pending view → IsPosting count slot limit start c done pending view
      steps zero from there none now = let same : from ≡ c = omega arith in subst (λ (k : ℕ). IsPosting count slot limit start k done pending view) same now
      steps (suc n) from there none now =
          steps n (from + 1) (omega arith) (λ k ahead below. none k (omega arith) below)
          (posting_passes from done pending view (omega arith) (none from (omega arith) (omega arith)) now)

  -- the next cell with something pending
  posting_next : (from c done : ℕ) (pending : List ℤ) (view : View) → IsNextNonzero from pending (Some c)
      → IsPosting count slot limit start from done pending view → IsPosting count slot limit start c done pending view
  posting_next from c done pending view found now = posting_skips from c done pending view found.0 (omega (arith, found.1)) found.3 now

  -- the limit is reached
  pub posting_full : (from c done : ℕ) (pending : List ℤ) (view : View) → IsNextNonzero from pending (Some c) → done ≡ limit
      → IsPosting count slot limit start from done pending view → (Ok done, view) ≡ post count slot limit start
  posting_full from c done pending view found full now =
      let here = posting_next from c done pending view found now in
      let below = found.1 in
      let none_left : limit - done ≡ 0 = omega arith in
      let was = here.goes (CELLS - c) (omega arith) in rw none_left at was

  -- no cell is left
  pub posting_ends : (from done : ℕ) (pending : List ℤ) (view : View) → from ≤ CELLS → IsNextNonzero from pending None
      → IsPosting count slot limit start from done pending view → (Ok done, view) ≡ post count slot limit start
  posting_ends from done pending view within none now =
      let last = posting_skips from CELLS done pending view within (omega arith) none now in
      let was = last.goes 0 (omega arith) in rw (take-nil (limit - done)) at was

  -- one turn: where it stands after a cell that was posted, and its answer where the cell was worn
  pub posting_turn : (from c done : ℕ) (before after : HoldingState) → slot ≡ before.slot → (done ≡ limit → ⊥)
      → IsNextNonzero from before.pending (Some c) → IsCellPosted c before (Ok tt) after
      → IsPosting count slot limit start from done before.pending before.desk.view
      → IsPosting count slot limit start (c + 1) (done + 1) after.pending after.desk.view
  posting_turn from c done before after own room found cell now =
      rw (cell.1, ← own) (posting_goes_on c done before.pending before.desk.view found.1 room found.2 (rw own cell.0) (posting_next from c done before.pending before.desk.view found now))

  pub posting_worn : (from c done : ℕ) (before after : HoldingState) (why : Refusal) → slot ≡ before.slot → (done ≡ limit → ⊥)
      → IsNextNonzero from before.pending (Some c) → IsCellPosted c before (Err why) after
      → IsPosting count slot limit start from done before.pending before.desk.view → (Err why, after.desk.view) ≡ post count slot limit start
  posting_worn from c done before after why own room found cell now =
      let here = posting_next from c done before.pending before.desk.view found now in
      let below = found.1 in
      let gap_is = here.ahead c (omega arith) below in
      let there : gap count start c ≡ pos 0 → ⊥ = λ e. found.2 (gap_is ∙ e) in
      let worn : is_worn before.desk.view.numbers slot c (gap count start c) ≡ true = rw (← gap_is, own) cell.0 in
      let left = CELLS - (c + 1) in
      let one_left : limit - done ≡ suc (limit - (done + 1)) = omega (arith, here.within) in
      let was = here.goes (suc left) (omega arith) in
      let first = rw (open_here (gap count start) c left there, one_left) at was in
      let rest = take (limit - (done + 1)) (open_from (gap count start) (c + 1) left) in
      rw (cell.1, cell.2) (sym (post_none (gap count start) slot c rest done before.desk.view worn) ∙ first)
