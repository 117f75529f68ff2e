use Rattle.hlr_lent.proofs.Common.{◌∙◌, ap, Some}
use Rattle.hlr_lent.proofs.SentLemmas.{sent_behind}
use Rattle.hlr_lent.proofs.lent_part.LentPart.send_home.Goals as goal

pub returns : goal.returns
returns c =
    let may = c.self.invariant.2 in
    rw (c.push_reserved.ensures.sent.0) (sent_behind _ may.0 may.1 _ ∙ ap Some c.self.view_is)
