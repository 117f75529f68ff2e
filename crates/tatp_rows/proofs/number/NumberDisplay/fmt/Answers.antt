-- The call writes what `{:015}` stands for, which is the number's text.
use Rattle.tatp_rows.proofs.Common.{◌∙◌, ap, styled_decimal, number_text}
use Rattle.tatp_rows.proofs.NumberLemmas.{written}
use Rattle.tatp_rows.proofs.number.NumberDisplay.fmt.Goals as goal

pub returns-clause-writes : goal.returns-clause-writes
returns-clause-writes g c plain ok =
    let is = ap (λ s. styled_decimal s c.self.inside.value) c.laid_out.ensures ∙ (written c.self.inside.value ∙ ap number_text c.self.view_is) in
    rw is at (c.write.ensures.writes plain ok)
