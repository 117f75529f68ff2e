use Rattle.tatp_rows.proofs.Common.{rules}
use Rattle.tatp_rows.proofs.DigitLemmas.{eight_joined}
use Rattle.tatp_rows.proofs.number.eight_digits.Goals as goal

pub returns : goal.returns
returns c = eight_joined c.args.text (search rules) c.requires _ c.from_le_bytes-ones.ensures
