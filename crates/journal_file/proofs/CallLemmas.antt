-- What one call more makes of a file's list of calls.
use Rattle.std.proofs.Common.{inl, inr, ⊎_elim, ◌≡◌, ◌⊎◌, Bool, true, false, ℕ, ◌-◌, ◌≤◌, List, [], ◌∷◌, length, replicate, Result, Ok, Err, OnOk, OnErr, refl, sym, ◌∙◌, subst, arith}
use Rattle.std.proofs.lemmas.List.{append-nil}
use Rattle.journal_file.specs.Calls.{Call, seen_after, left_after, left_since}
use Rattle.journal_file.specs.Laws.{seen_left}
use Rattle.journal_file.specs.Device.{Elapses, Follows, Mixes, Fades, IsFront, Only}
use Rattle.journal_file.specs.declared.record.Step.TheVariants.{Held, Wrote, Blanked, Grew, Synced, Replaced}
use Rattle.journal_file.proofs.ByteLemmas.{fades_same, fades_blanked, mixes_same, mixes_over, front_same}

pub one_call : (calls : List Call) (call : Call)
    → Elapses (length calls) (length (call ∷ calls)) (left_since calls) (left_since (call ∷ calls)) (left_after (call ∷ calls))
one_call calls call = record {
  later = omega arith;
  nothing_else = λ t c le left. ⊎_elim (λ now. inr now) (λ was. inl was.1) left;
  keeps = λ t c le was. inr (le, was);
}

-- what holds of the list with one call more, and of the list without it, holds of the one that a call which may give up leaves
pub noted_or_same : {T E : Type 0} (result : Result T E) (P : List Call → Type 0) {calls later : List Call} {call : Call}
    → OnOk result (later ≡ call ∷ calls) → OnErr result (later ≡ calls) → P (call ∷ calls) → P calls → P later
noted_or_same (Ok done) P noted same with_it without = subst P (sym noted) with_it
noted_or_same (Err why) P noted same with_it without = subst P (sym same) without

pub wrote_follows : (calls : List Call) (at : ℕ) (is_done : Bool) (bytes : List ℕ)
    → Follows (Mixes at bytes) (left_after calls) (left_after ((Wrote at is_done, bytes) ∷ calls))
wrote_follows calls at true bytes c (inl is) =
    (seen_after calls, seen_left calls, subst (Mixes at bytes (seen_after calls)) (sym is) (mixes_over at bytes (seen_after calls)))
wrote_follows calls at false bytes c (inl is) =
    (seen_after calls, seen_left calls, subst (Mixes at bytes (seen_after calls)) (sym is) (mixes_same at bytes (seen_after calls)))
wrote_follows calls at is_done bytes c (inr left) = left

pub blanked_follows : (calls : List Call) (from : ℕ) (is_done : Bool) (bytes : List ℕ) → from ≤ length (seen_after calls)
    → Follows (Fades from) (left_after calls) (left_after ((Blanked from is_done, bytes) ∷ calls))
blanked_follows calls from true bytes fits c (inl is) = (
  seen_after calls,
  seen_left calls,
  subst (Fades from (seen_after calls)) (sym is)
      (fades_blanked from (seen_after calls) (length (seen_after calls) - from) fits refl),
)
blanked_follows calls from false bytes fits c (inl is) =
    (seen_after calls, seen_left calls, subst (Fades from (seen_after calls)) (sym is) (fades_same from (seen_after calls)))
blanked_follows calls from is_done bytes fits c (inr left) = left

pub grew_follows : (calls : List Call) (more : ℕ) (is_done : Bool) (bytes : List ℕ)
    → Follows IsFront (left_after calls) (left_after ((Grew more is_done, bytes) ∷ calls))
grew_follows calls more true bytes c (inl is) = (seen_after calls, seen_left calls, (replicate more 0, is))
grew_follows calls more false bytes c (inl is) =
    (seen_after calls, seen_left calls, subst (IsFront (seen_after calls)) (sym is) (front_same (seen_after calls)))
grew_follows calls more is_done bytes c (inr left) = left

pub synced_leaves : (calls : List Call) (is_done : Bool) (bytes c : List ℕ) → left_after ((Synced is_done, bytes) ∷ calls) c → left_after calls c
synced_leaves calls true bytes c (inl is) = subst (left_after calls) (sym is) (seen_left calls)
synced_leaves calls true bytes c (inr is) = subst (left_after calls) (sym is) (seen_left calls)
synced_leaves calls false bytes c (inl is) = subst (left_after calls) (sym is) (seen_left calls)
synced_leaves calls false bytes c (inr was) = was

pub synced_only : (calls : List Call) (bytes : List ℕ) → Only (seen_after calls) (left_after ((Synced true, bytes) ∷ calls))
synced_only calls bytes c (inl is) = is
synced_only calls bytes c (inr is) = is

pub held_only : (calls : List Call) → Only (seen_after calls) (left_after ((Held, []) ∷ calls))
held_only calls c (inl is) = is ∙ append-nil (seen_after calls)
held_only calls c (inr is) = is ∙ append-nil (seen_after calls)

pub replaced_leaves : (calls : List Call) (is_done : Bool) (bytes c : List ℕ)
    → left_after ((Replaced is_done, bytes) ∷ calls) c → left_after calls c ⊎ (c ≡ bytes)
replaced_leaves calls true bytes c (inl is) = inr is
replaced_leaves calls true bytes c (inr is) = inr is
replaced_leaves calls false bytes c (inl is) = inl (subst (left_after calls) (sym is) (seen_left calls))
replaced_leaves calls false bytes c (inr left) = left

pub replaced_only : (calls : List Call) (bytes : List ℕ) → Only bytes (left_after ((Replaced true, bytes) ∷ calls))
replaced_only calls bytes c (inl is) = is
replaced_only calls bytes c (inr is) = is
