-- Who makes the calls on a file, if the file can't reach the disk by itself.
use Rattle.std.specs.Prelude.{ℕ, ℤ, List, [], ◌∷◌, Option, Some}
use Rattle.journal_file.specs.Calls.{Call}
use Rattle.journal_file.specs.declared.record.Step.TheVariants.{Held}

-- the number by which the owner knows the file, and the calls that he has made on it, of which the last one comes first
pub record Owner : Type 0 where
  pub fd : ℤ
  pub made : List Call

-- the owner of a file that has these bytes, and on which he has made no call since
abbrev pub owner_of_held : ℤ → List ℕ → Option Owner
owner_of_held fd bytes = Some (record { fd = fd; made = (Held, bytes) ∷ [] })
