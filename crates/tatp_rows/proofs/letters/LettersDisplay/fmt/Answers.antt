-- Letters are a text, and it is written as it is.
use Rattle.tatp_rows.proofs.RowLemmas.{letters_utf8}
use Rattle.tatp_rows.proofs.letters.LettersDisplay.fmt.Goals as goal

pub unreachable-requires : goal.unreachable-requires
unreachable-requires g c = c.in_default.ensures.cases.0 (letters_utf8 g.row.N _ c.self.invariant)
