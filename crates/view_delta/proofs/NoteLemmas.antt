-- The notes of a change fit deltas that are far from the limits.
use Rattle.view_delta.proofs.Common.{ℕ, ◌*◌, ◌^◌, ◌<◌, ◌≤◌, ◌==◌, arith, List, [], ◌∷◌, length, ℤ, pos, neg_ℤ, ◌≤ℤ◌, AllByRecursion, ints, by_test, change_at, IsNote, CELLS, NOTES, delta_at, NotesFit}

-- notes move a cell by at most eight each
notes_small : (notes : List (ℕ × ℤ)) (c : ℕ) → AllByRecursion IsNote notes → (neg_ℤ (pos (8 * length notes)) ≤ℤ change_at notes c) × (change_at notes c ≤ℤ pos (8 * length notes))
notes_small [] c each = (omega (arith, ints), omega (arith, ints))
notes_small (note ∷ notes) c each =
    let rest = notes_small notes c each.1 in
    let low = rest.0 in
    let high = rest.1 in
    let least = each.0.1 in
    let most = each.0.2 in
    by_test (note.0 == c)
    (λ e. rw e (omega (arith, ints), omega (arith, ints)))
    (λ e. rw e (omega (arith, ints), omega (arith, ints)))

-- so few notes fit
pub notes_fit : (pending : List ℤ) (notes : List (ℕ × ℤ)) → AllByRecursion IsNote notes → length notes ≤ NOTES
    → ((c : ℕ) → c < CELLS → (neg_ℤ (pos (2 ^ 60)) ≤ℤ delta_at pending c) × (delta_at pending c ≤ℤ pos (2 ^ 60))) → NotesFit pending notes
notes_fit pending notes each few small c below =
    let bounds = notes_small notes c each in
    let low = bounds.0 in
    let high = bounds.1 in
    let from = (small c below).0 in
    let to = (small c below).1 in
    (omega (arith, ints), omega (arith, ints))
