use Rattle.hlr.proofs.Common.{refl, rules}
use Rattle.hlr.proofs.OwedFacts.{nothing_more, recut_settled}
use Rattle.hlr.proofs.owed.build_recut_by.Goals as goal

pub register-register-requires : goal.register-register-requires
register-register-requires g c = let none = nothing_more _ _ c.requires.rest.none c.recut_to.ensures.pending in search rules

pub returns-in-Ok-clause-text : goal.returns-in-Ok-clause-text
returns-in-Ok-clause-text g c = record {
  text = _;
  answer = rw (← c.in-Ok.ensures)
      (record {
        answer = c.recut_to.result;
        right = recut_settled _ _ _ c.recut_to.new.self c.requires.rest (rw c.as_slice.ensures.value at c.recut_to.ensures.took) c.register-register.ensures.right c.recut_to.ensures.spare;
        line = refl;
      });
  grew = c.build_recut.ensures;
}

pub returns-in-Err-clause-text : goal.returns-in-Err-clause-text
returns-in-Err-clause-text g c = record { text = _; answer = rw (← c.in-Err.ensures) (refl, refl); grew = c.build_refused.ensures }
