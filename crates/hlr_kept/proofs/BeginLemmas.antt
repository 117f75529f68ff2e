-- A file that is made ready to be written.
use Rattle.std.proofs.Common.{◌≡◌, ◌∙◌, sym, ap, subst, ℕ, ◌+◌, ◌<◌, ◌≤◌, List, [], ◌∷◌, ◌++◌, arith, length, length-append, take, Some}
use Rattle.std.specs.Prelude.{◌==◌, nat_lt}
use Rattle.std.proofs.lemmas.Bool.Decides.{nat_tests}
use Rattle.std.specs.List.{AllByRecursion}
use Rattle.tatp_rows.proofs.OrderedLemmas.{by_test}
use Rattle.journal_file.specs.Device.{LeavesOnly}
use Rattle.journal.specs.Lines.{HasFence, IsWhole, lines, lines_from, open_from, recovered, text}
use Rattle.journal.specs.Tape.{AreEnds, HasLinesBetween, IsOpen}
use Rattle.journal.specs.declared.tape.Ends.{Ends}
use Rattle.journal.specs.declared.tape.Tape.{Tape}
use Rattle.journal.proofs.MomentLemmas.{joined, weaker}
use Rattle.journal.proofs.TextLemmas.{length-text}
use Rattle.std.proofs.lemmas.List.{length-take}
use Rattle.edit_lines.specs.Lines.{first_line}
use Rattle.hlr_owners.specs.Store.{Store}
use Rattle.hlr_kept.specs.Rows.{HasRowsOf, book_of, book_of_lines}
use Rattle.hlr_kept.specs.Runs.{IsBegun, IsGroup, IsOnDisk}
use Rattle.hlr_kept.proofs.GroupLemmas.{one_line}
use Rattle.hlr_kept.proofs.KeptLemmas.{both_leave, first_stands}

-- whole lines that aren't empty are there
some_lines : (begun bytes : List ℕ) → 0 < length begun + length bytes → open_from begun bytes ≡ [] → IsBegun (lines_from begun bytes)
some_lines begun [] some whole =
    let none : length begun ≡ 0 = ap length whole in
    absurd (omega (arith, some, none))
some_lines begun (byte ∷ bytes) some whole =
    by_test (byte == 10)
    (λ e. rw e tt)
    (λ e. rw e (some_lines (begun ++ byte ∷ []) bytes (omega (arith, length-append begun (byte ∷ []))) (rw e at whole)))

-- a file with whole lines has its first one, and one with none has no line
pub has_first : (file : List ℕ) (ends : Ends) → AreEnds file ends → 0 < ends.whole → IsBegun (recovered file)
has_first file ends are some =
    let within = length-text file in
    let long = length-take ends.whole file in
    subst IsBegun are.same (some_lines [] (take ends.whole file) (omega (arith, some, are.order, are.at_text, within, long)) are.is_whole)

pub has_none : (file : List ℕ) (ends : Ends) → AreEnds file ends → ends.whole ≡ 0 → recovered file ≡ []
has_none file ends are none = sym are.same ∙ ap (λ (n : ℕ). lines (take n file)) none

-- the first line is a group
pub first_group : (nothing bytes : List ℕ) → nothing ≡ [] → bytes ≡ nothing ++ (first_line ++ 10 ∷ []) → AllByRecursion (λ byte. 10 < byte) first_line → IsGroup (first_line ∷ []) bytes
first_group nothing bytes none is plain =
    subst (λ (b : List ℕ). IsGroup (first_line ∷ []) b) (sym (is ∙ ap (λ (n : List ℕ). n ++ (first_line ++ 10 ∷ [])) none)) (one_line first_line plain)

-- the rows stay where the lines do
pub same_rows : (file now : List ℕ) → recovered now ≡ recovered file → book_of now ≡ book_of file
same_rows file now same = ap book_of_lines same

module _ {D : Type 0} (seen : D → List ℕ) (may_leave : D → List ℕ → Type 0) where
  -- the first line is there
  pub stored_first : (old : D) (tape : Tape D) → IsOpen seen may_leave tape → tape.synced ≡ tape.end → IsWhole (text (seen tape.device)) → recovered (seen tape.device) ≡ recovered (seen old)
      → IsBegun (recovered (seen old)) → (stored : Store) → book_of (seen old) ≡ Some stored.book → IsOnDisk seen may_leave stored tape
  stored_first old tape opened synced whole same begun stored rows = record {
    open_tape = opened;
    synced = synced;
    whole = whole;
    begun = subst IsBegun (sym same) begun;
    rows = same_rows (seen old) (seen tape.device) same ∙ rows;
  }

  -- the first line was written
  pub stored_new : (old : D) (mid tape : Tape D) (group : List ℕ) → IsOpen seen may_leave tape → tape.synced ≡ tape.end → IsWhole (text (seen tape.device))
      → recovered (seen mid.device) ≡ recovered (seen old) → recovered (seen old) ≡ [] → IsGroup (first_line ∷ []) group
      → recovered (seen tape.device) ≡ recovered (seen mid.device) ++ lines group → (stored : Store) → book_of (seen old) ≡ Some stored.book → IsOnDisk seen may_leave stored tape
  stored_new old mid tape group opened synced whole same blank is written stored rows =
      let now : recovered (seen tape.device) ≡ first_line ∷ [] =
      written ∙ ap (λ (l : List (List ℕ)). l ++ lines group) (same ∙ blank) ∙ is.lines in
      record {
        open_tape = opened;
        synced = synced;
        whole = whole;
        begun = subst IsBegun (sym now) tt;
        rows = ap book_of_lines now ∙ sym (ap book_of_lines blank) ∙ rows;
      }

module _ {D : Type 0} (seen : D → List ℕ) (moment : D → ℕ) (left_since : D → ℕ → List ℕ → Type 0) (old : D) where
  -- a file has the rows of the old one
  abbrev pub Stays : List ℕ → Type 0
  Stays = HasRowsOf (seen old)

  -- lines that stay, and a fence that does if it was there
  pub recovers : (new : D) → LeavesOnly moment left_since old new (λ c. recovered c ≡ recovered (seen old))
      → (HasFence (seen old) → LeavesOnly moment left_since old new HasFence) → LeavesOnly moment left_since old new Stays
  recovers new same fence =
      by_test (nat_lt (length (text (seen old))) (length (seen old)))
      (λ e. let fenced : HasFence (seen old) = grind (arith, nat_tests) in
      both_leave moment left_since old new (λ c. recovered c ≡ recovered (seen old)) HasFence Stays same (fence fenced)
      (λ c is now. (λ _. now, same_rows (seen old) c is)))
      (λ e. let unfenced : length (seen old) ≤ length (text (seen old)) = grind (arith, nat_tests) in
      weaker moment left_since old new (λ c. recovered c ≡ recovered (seen old)) Stays same
      (λ c is. (λ fenced. absurd (omega (arith, fenced, unfenced)), same_rows (seen old) c is)))

  pub begins : (mid new : D) (group : List ℕ) → LeavesOnly moment left_since old mid Stays → recovered (seen mid) ≡ recovered (seen old) → recovered (seen old) ≡ [] → IsGroup (first_line ∷ []) group
      → LeavesOnly moment left_since mid new (HasLinesBetween (recovered (seen mid)) (recovered (seen mid) ++ lines group)) → LeavesOnly moment left_since old new Stays
  begins mid new group before same blank is after =
      joined moment left_since old mid new Stays before
      (weaker moment left_since mid new (HasLinesBetween (recovered (seen mid)) (recovered (seen mid) ++ lines group)) Stays after
      (λ c between. let now = first_stands c (recovered (seen mid)) (lines group) (same ∙ blank) is.lines between in
      (λ _. now.0, now.1 ∙ sym (ap book_of_lines blank))))
