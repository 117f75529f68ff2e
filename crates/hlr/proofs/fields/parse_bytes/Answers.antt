use Rattle.hlr.proofs.FieldFacts.{digits_below}
use Rattle.hlr.proofs.fields.parse_bytes.Goals as goal

pub pair_digits-requires : goal.pair_digits-requires
pair_digits-requires c = digits_below 16 20 c.args.text.now _ c.in_ok-digits.ensures
