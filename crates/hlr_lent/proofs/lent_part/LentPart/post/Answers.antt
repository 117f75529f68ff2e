use Rattle.hlr_lent.proofs.Common.{◌∙◌, ap, refl, sent, HoldingState, Post, IsPosted, posted_reply}
use Rattle.hlr_lent.proofs.JobLemmas.{one_more}
use Rattle.hlr_lent.proofs.lent_part.LentPart.post.Goals as goal

pub invariant_of-self : goal.invariant_of-self
invariant_of-self c =
    let did = c.post.ensures in
    let reply = posted_reply c.post.result in
    let posted : IsPosted c.args.limit c.deref_mut.result.now reply c.post.new.self =
    record { posted = c.post.result; done = did.posted; answered = refl; part = did.part; desk = did.desk; lawful = did.before; rules = did.after } in (
      did.desk.0 ∙ ap (λ (k : HoldingState). k.desk.board) c.deref_mut.ensures.value ∙ c.self.invariant.0,
      c.self.invariant.1,
      one_more (sent c.self.inside.ring) c.self.inside.holding.value c.post.new.self (Post c.args.limit) reply c.self.invariant.2 tt (rw c.deref_mut.ensures.value at posted),
    )
