use Rattle.tatp_actions.proofs.Common.{refl, sym, ◌∙◌, facility_at}
use Rattle.tatp_actions.proofs.RevisedLemmas.{keeps_bit}
use Rattle.tatp_actions.proofs.TransactionLemmas.{subscriber_updated}
use Rattle.tatp_actions.proofs.part.Part.update_subscriber.Goals as goal

pub returns : goal.returns
returns g c =
    rw c.none.ensures
    (subscriber_updated c.args.self.now c.revise_facility.new.self c.revise_subscriber.new.self c.args.s_id c.args.sf_type c.args.bit_1 c.to-bit.result c.args.data_a (facility_at c.args.self.now.book c.args.s_id c.args.sf_type)
    c.revise_facility.ensures.rules c.requires (sym c.if-not-is_between.ensures) c.ranges.sf_type.fits c.if-bit_1-gt1.false c.ranges.data_a.fits refl
    (sym c.if-not-revise_facility.false ∙ c.revise_facility.ensures.found) c.revise_facility.ensures.kept c.revise_facility.ensures.asked c.to-bit.ensures c.revise_subscriber.ensures.kept c.revise_subscriber.ensures.asked)

pub revise_subscriber-requires : goal.revise_subscriber-requires
revise_subscriber-requires g c = keeps_bit c.to-bit.result c.args.bit_1 c.to-bit.ensures c.if-bit_1-gt1.false
