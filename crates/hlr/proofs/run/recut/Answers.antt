use Rattle.hlr.proofs.Common.{refl, cut_home_of_all}
use Rattle.hlr.proofs.run.recut.Goals as goal

pub recut_to-requires : goal.recut_to-requires
recut_to-requires c = cut_home_of_all c.as_slice.result.now c.args.register.now c.requires.home

pub returns-in-Ok-clause-text : goal.returns-in-Ok-clause-text
returns-in-Ok-clause-text c = record {
  text = _;
  answer = rw (← c.in-Ok.ensures) (record { answer = c.recut_to.result; right = rw c.as_slice.ensures.value at c.recut_to.ensures.recut; line = refl });
  grew = c.build_recut.ensures;
}

pub returns-in-Err-clause-text : goal.returns-in-Err-clause-text
returns-in-Err-clause-text c = record { text = _; answer = rw (← c.in-Err.ensures) (refl, refl); grew = c.build_refused.ensures }
