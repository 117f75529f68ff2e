use Rattle.tatp_actions.proofs.Common.{◌<◌, arith, refl, sym, ◌∙◌, subscriber_at}
use Rattle.tatp_actions.proofs.AdministrationLemmas.{number_set}
use Rattle.tatp_actions.proofs.part.Part.set_number.Goals as goal

pub returns : goal.returns
returns g c =
    let now = c.value-number.ensures.value in
    let below = c.value-number.ensures.in_range in
    let small : c.args.sub_nbr < 1000000000000000 = omega arith in
    rw c.none.ensures
    (number_set c.args.self.now c.revise_subscriber.new.self c.args.s_id c.args.sub_nbr (subscriber_at c.args.self.now.book c.args.s_id) c.revise_subscriber.ensures.rules c.requires small refl
    (sym c.if-not-revise_subscriber.false ∙ c.revise_subscriber.ensures.found) c.revise_subscriber.ensures.kept c.revise_subscriber.ensures.asked)
