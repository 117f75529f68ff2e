use Rattle.hlr.proofs.OwedFacts.{settled_text}
use Rattle.hlr.proofs.owed.write_owed.Goals as goal

pub returns-clause-text : goal.returns-clause-text
returns-clause-text g c = λ rows start old under.
    let s = c.settle-replies in
    settled_text rows start c.args.engine.now s.result.items s.new.self.register s.ensures.right s.ensures.each old _ _ under _ c.write_replies.result (rw c.as_slice.ensures.value at c.write_replies.ensures.text)
