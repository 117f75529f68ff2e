-- What is said of a reader that knows how far it has read whole records.
use Rattle.std.specs.Prelude.{ℕ, List, Option}
use Rattle.std.specs.Io.Buffered.{reader_remaining}
use Rattle.hlr.specs.declared.whole_records.WholeRecords.{WholeRecords}

-- the bytes that it has left: those of the block that aren't handed on, and those of the reader underneath
abbrev pub inner_remaining : {R : Type 0} → (R → Option (List ℕ)) → WholeRecords R → Option (List ℕ)
inner_remaining rem s = reader_remaining rem s.reader
