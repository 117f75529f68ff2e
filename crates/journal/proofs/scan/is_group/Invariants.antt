use Rattle.std.proofs.Common.{◌≡◌, true, take}
use Rattle.journal.specs.Lines.{HasNoZero, IsWhole}
use Rattle.journal.proofs.scan.is_group.Given as goal

abbrev pub invariant-loop-byte : goal.invariant-loop-byte
invariant-loop-byte l = record {
  none : HasNoZero (take l.byte-index l.bytes);
  whole : l.is_whole ≡ true → IsWhole (take l.byte-index l.bytes);
  all : IsWhole (take l.byte-index l.bytes) → l.is_whole ≡ true;
}
