-- What an opening makes of the file that it is handed. The parameters are what is known of such a file while it is read,
-- and of the file to be written that it becomes.
use Rattle.std.specs.Prelude.{◌≡◌, ◌≢◌, ℕ, List, Some}
use Rattle.tatp_actions.specs.Book.{Book}
use Rattle.journal_file.specs.Device.{LeavesOnly}
use Rattle.journal_file.specs.declared.fault.JournalFault.{JournalFault}
use Rattle.journal_file.specs.declared.fault.JournalFault.TheVariants.{NoJournal}
use Rattle.journal.specs.Lines.{HasFence}
use Rattle.hlr_kept.specs.Rows.{HasRowsOf, IsGivenUp, book_of}
use Rattle.hlr_kept.specs.declared.not_opened.GivenBack.{GivenBack}
use Rattle.hlr_kept.specs.declared.not_opened.GivenBack.TheVariants.{Unread, Read}

-- All of the file was read, and it stands for these rows. A crash at any moment since then leaves a file with the same
-- rows, which can be opened.
pub record HasItsRows {U F : Type 0} (IsReadOn : U → U → Type 0) (IsRead : U → Type 0) (read : U → List ℕ) (file : U → F)
    (moment : F → ℕ) (left_since : F → ℕ → List ℕ → Type 0) (unread : U) (book : Book) (now : F) : Type 0 where
  pub last : U
  pub same : IsReadOn unread last
  pub whole : IsRead last
  pub rows : book_of (read last) ≡ Some book
  pub leaves : LeavesOnly moment left_since (file last) now (λ c. HasFence c × (book_of c ≡ book_of (read last)))

-- All of the file was read, and it comes back for this reason. A crash at any moment since then leaves the same rows, in a
-- file that can be opened if this one could.
pub record HasKeptRows {U F : Type 0} (IsReadOn : U → U → Type 0) (IsRead : U → Type 0) (read : U → List ℕ) (file : U → F)
    (moment : F → ℕ) (left_since : F → ℕ → List ℕ → Type 0) (faults : U → ℕ) (faults_now : F → ℕ) (unread : U) (why : JournalFault) (now : F) : Type 0 where
  pub last : U
  pub same : IsReadOn unread last
  pub whole : IsRead last
  pub leaves : LeavesOnly moment left_since (file last) now (HasRowsOf (read last))
  pub cause : IsGivenUp (faults last) (faults_now now) (read last) why

-- The file comes back for this reason: nothing was written to it, or what was written stands for the same rows.
abbrev pub IsGivenBack : {U F : Type 0} (IsReadOn : U → U → Type 0) (IsRead : U → Type 0) (read : U → List ℕ) (file : U → F)
    (moment : F → ℕ) (left_since : F → ℕ → List ℕ → Type 0) (faults : U → ℕ) (faults_now : F → ℕ) → U → JournalFault → GivenBack U F → Type 0
IsGivenBack IsReadOn IsRead read file moment left_since faults faults_now unread why (Unread last) =
    IsReadOn unread last × IsGivenUp (faults unread) (faults last) (read last) why × (why ≢ NoJournal)
IsGivenBack IsReadOn IsRead read file moment left_since faults faults_now unread why (Read now) =
    HasKeptRows IsReadOn IsRead read file moment left_since faults faults_now unread why now
