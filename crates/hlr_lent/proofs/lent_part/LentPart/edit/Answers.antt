use Rattle.hlr_lent.proofs.Common.{◌∙◌, ap, refl, sent, done_reply, DeskState, HoldingState, Act, IsActed, reply_of}
use Rattle.hlr_lent.proofs.JobLemmas.{one_more}
use Rattle.hlr_lent.proofs.lent_part.LentPart.edit.Goals as goal

pub invariant_of-self : goal.invariant_of-self
invariant_of-self g c =
    let did = c.edit.ensures in
    let act = g.E.Edit.action c.args.edit in
    let reply = reply_of (done_reply c.edit.result) in
    let acted : IsActed act c.deref_mut.result.now reply c.edit.new.self =
    record { rows = done_reply c.edit.result; outcome = did.outcome; answered = refl; range = did.range; desk = did.desk; rules = did.after } in (
      ap (λ (d : DeskState). d.board) did.desk.0 ∙ ap (λ (k : HoldingState). k.desk.board) c.deref_mut.ensures.value ∙ c.self.invariant.0,
      c.self.invariant.1,
      one_more (sent c.self.inside.ring) c.self.inside.holding.value c.edit.new.self (Act act) reply c.self.invariant.2 c.requires.number (rw c.deref_mut.ensures.value at acted),
    )
