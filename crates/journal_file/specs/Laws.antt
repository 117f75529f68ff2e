-- The laws of a file's moments, of a list of calls and of a list of contents.
use Rattle.std.specs.Prelude.{◌≡◌, ◌⊎◌, ◌≤◌, ℕ, zero, suc, List, [], ◌∷◌, ◌++◌, length, take, drop, Vec}
use Rattle.std.specs.declared.alloc.Global.{Global}
use Rattle.std.proofs.Common.{inl, inr, refl, sym, ap, ◌∙◌, append_assoc, arith}
use Rattle.std.proofs.lemmas.List.{append-nil}
use Rattle.std.proofs.Math.Path.{subst}
use Rattle.journal_file.specs.Calls.{AreReads, Call, HasReadOn, IsRead, seen_after, left_after, left_since}
use Rattle.journal_file.specs.Device.{IsFront}
use Rattle.journal_file.specs.Memory.{HadBeen}
use Rattle.journal_file.specs.declared.record.Step.TheVariants.{Held, Unreadable, Wrote, Blanked, Grew, Synced, Replaced}

-- what a crash may leave now counts among what it might have left since an earlier moment
pub now_counts : (calls : List Call) (t : ℕ) (c : List ℕ) → left_after calls c → left_since calls t c
now_counts [] t c now = now
now_counts (call ∷ earlier) t c now = inl now

-- the bytes that a file has are among those that a crash may leave
pub seen_left : (calls : List Call) → left_after calls (seen_after calls)
seen_left [] = refl
seen_left (call ∷ calls) = inl refl

-- since the last call, a crash leaves what it may leave now, and nothing else
pub now_alone : (calls : List Call) (c : List ℕ) → left_since calls (length calls) c → left_after calls c
now_alone [] c left = left
now_alone (call ∷ earlier) c (inl now) = now
now_alone (call ∷ earlier) c (inr before) = absurd (omega (arith, before.0))

-- behind the last content there is no other one
none_left : (past : List (Vec ℕ Global)) (c : List ℕ) → HadBeen (drop (length past) past) c → ⊥
none_left [] c had = had
none_left (content ∷ past) c had = none_left past c had

-- since the last call, a crash leaves the content of now, and nothing else
pub bytes_alone : (past : List (Vec ℕ Global)) (bytes c : List ℕ) → (c ≡ bytes) ⊎ HadBeen (drop (length past) past) c → c ≡ bytes
bytes_alone past bytes c (inl now) = now
bytes_alone past bytes c (inr had) = absurd (none_left past c had)

-- nothing was read behind some calls
pub no_more_reads : (calls : List Call) → HasReadOn calls calls
no_more_reads calls = ([], tt, refl)

-- one call has read
pub one_more_read : (call : Call) (first last : List Call) → IsRead call.0 → last ≡ call ∷ first → HasReadOn first last
one_more_read call first last reads is = (call ∷ [], (reads, tt), is)

-- reads behind reads
reads-append : (more again : List Call) → AreReads more → AreReads again → AreReads (again ++ more)
reads-append more [] reads further = reads
reads-append more (call ∷ again) reads further = (further.0, reads-append more again reads further.1)

-- reads came twice
pub more_reads : (first then last : List Call) → HasReadOn first then → HasReadOn then last → HasReadOn first last
more_reads first then last more again =
    (again.0 ++ more.0, reads-append more.0 again.0 more.1 again.1, again.2 ∙ ap (λ (l : List Call). again.0 ++ l) more.2 ∙ sym (append_assoc again.0 more.0 first))

-- reads add bytes behind those that were read before
reads_behind : (more first : List Call) → AreReads more → IsFront (seen_after first) (seen_after (more ++ first))
reads_behind [] first reads = ([], sym (append-nil (seen_after first)))
reads_behind ((Held, bytes) ∷ more) first reads =
    let before = reads_behind more first reads.1 in
    (before.0 ++ bytes, ap (λ (l : List ℕ). l ++ bytes) before.1 ∙ append_assoc (seen_after first) before.0 bytes)
reads_behind ((Unreadable, bytes) ∷ more) first reads = reads_behind more first reads.1
reads_behind ((Wrote _ _, bytes) ∷ more) first reads = absurd reads.0
reads_behind ((Blanked _ _, bytes) ∷ more) first reads = absurd reads.0
reads_behind ((Grew _ _, bytes) ∷ more) first reads = absurd reads.0
reads_behind ((Synced _, bytes) ∷ more) first reads = absurd reads.0
reads_behind ((Replaced _, bytes) ∷ more) first reads = absurd reads.0

-- what was read before more reads is the front of what is read behind them
pub read_front : (first last : List Call) → HasReadOn first last → IsFront (seen_after first) (seen_after last)
read_front first last more = subst (λ (calls : List Call). IsFront (seen_after first) (seen_after calls)) (sym more.2) (reads_behind more.0 first more.1)

-- the first bytes of a list are the front of more of them
longer_take : (n m : ℕ) (l : List ℕ) → n ≤ m → IsFront (take n l) (take m l)
longer_take zero m l le = (take m l, refl)
longer_take (suc n) zero l le = absurd (omega (arith, le))
longer_take (suc n) (suc m) [] le = ([], refl)
longer_take (suc n) (suc m) (byte ∷ l) le = let rest = longer_take n m l (omega (arith, le)) in (rest.0, ap (λ (k : List ℕ). byte ∷ k) rest.1)

-- so are they of more of an equal list
pub longer_front : (n m : ℕ) (l k : List ℕ) → k ≡ l → n ≤ m → IsFront (take n l) (take m k)
longer_front n m l k same le = subst (λ (k : List ℕ). IsFront (take n l) (take m k)) (sym same) (longer_take n m l le)
