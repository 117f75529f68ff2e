use Rattle.hlr_lent.proofs.lender.Lender.post.Goals as goal

pub returns : goal.returns
returns c = rw (← c.self.view_is) c.post.ensures
