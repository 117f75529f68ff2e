-- Why a run ended early.
use Rattle.std.specs.Prelude.{ℕ, List, codes}
use Rattle.csv.specs.declared.error.ErrorKind.{ErrorKind}
use Rattle.csv.specs.declared.error.ErrorKind.TheVariants as kind
use Rattle.journal_file.specs.declared.fault.JournalFault.{JournalFault}
use Rattle.journal_file.specs.declared.fault.JournalFault.TheVariants as journal
use Rattle.hlr.specs.declared.fault.Fault.{Fault}
use Rattle.hlr.specs.declared.fault.Fault.TheVariants.{Memory, Field, Thread, Read, Write}

-- the number of a fault
abbrev pub fault_code : Fault → ℕ
fault_code Memory = 1
fault_code Field = 2
fault_code Thread = 18
fault_code Read = 20
fault_code Write = 21

-- what the program says of a fault
abbrev pub fault_words : Fault → List ℕ
fault_words Memory = codes "no memory"
fault_words Field = codes "bad option"
fault_words Thread = codes "no thread"
fault_words Read = codes "read fault"
fault_words Write = codes "write fault"

-- want of memory while a record is read is Memory; any other failure of reading is Read
abbrev pub read_fault_of : ErrorKind → Fault
read_fault_of kind.OutOfMemory = Memory
read_fault_of (kind.Io e) = Read
read_fault_of (kind.Utf8 pos err) = Read
read_fault_of (kind.UnequalLengths pos expected len) = Read
read_fault_of (kind.Serialize text) = Read
read_fault_of (kind.Deserialize pos err) = Read

-- what the program says of a journal that it can't open
abbrev pub opening_words : JournalFault → List ℕ
opening_words journal.Memory = codes "no memory"
opening_words journal.Failed = codes "read fault: the journal can't be made or read; see to its path, its rights and its disk"
opening_words journal.Full = codes "read fault: the journal has more than 2^62 bytes; name another file"
opening_words journal.Locked = codes "read fault: another process has the journal open; end that one first"
opening_words journal.NoJournal = codes "read fault: the file is no journal; name another one, or restore a copy of it"
opening_words journal.BadLine = codes "read fault: the journal is damaged or of another version; restore a copy of it"
