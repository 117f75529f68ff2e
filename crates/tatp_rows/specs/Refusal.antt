-- The numbers and names of the refusals, as replies write them.
use Rattle.std.specs.Prelude.{ℕ, List, codes}
use Rattle.tatp_rows.specs.declared.refusal.Refusal.{Refusal}
use Rattle.tatp_rows.specs.declared.refusal.Refusal.TheVariants.{Memory, Field, NoSubscriber, NoNumber, NoAccess, NoFacility, NoForwarding, NoDestination, Exists, NumberTaken, Moving, NoPart, NoPiece, OutOfRange, NotAdjacent, ManyPieces, Worn, Thread, Syntax, Read, Write, ManyParts}

-- the number of a refusal
abbrev pub code_of : Refusal → ℕ
code_of Memory = 1
code_of Field = 2
code_of NoSubscriber = 3
code_of NoNumber = 4
code_of NoAccess = 5
code_of NoFacility = 6
code_of NoForwarding = 7
code_of NoDestination = 8
code_of Exists = 9
code_of NumberTaken = 10
code_of Moving = 11
code_of NoPart = 12
code_of NoPiece = 13
code_of OutOfRange = 14
code_of NotAdjacent = 15
code_of ManyPieces = 16
code_of Worn = 17
code_of Thread = 18
code_of Syntax = 19
code_of Read = 20
code_of Write = 21
code_of ManyParts = 22

-- the name of a refusal
abbrev pub name_of : Refusal → List ℕ
name_of Memory = codes "Memory"
name_of Field = codes "Field"
name_of NoSubscriber = codes "NoSubscriber"
name_of NoNumber = codes "NoNumber"
name_of NoAccess = codes "NoAccess"
name_of NoFacility = codes "NoFacility"
name_of NoForwarding = codes "NoForwarding"
name_of NoDestination = codes "NoDestination"
name_of Exists = codes "Exists"
name_of NumberTaken = codes "NumberTaken"
name_of Moving = codes "Moving"
name_of NoPart = codes "NoPart"
name_of NoPiece = codes "NoPiece"
name_of OutOfRange = codes "OutOfRange"
name_of NotAdjacent = codes "NotAdjacent"
name_of ManyPieces = codes "ManyPieces"
name_of Worn = codes "Worn"
name_of Thread = codes "Thread"
name_of Syntax = codes "Syntax"
name_of Read = codes "Read"
name_of Write = codes "Write"
name_of ManyParts = codes "ManyParts"
