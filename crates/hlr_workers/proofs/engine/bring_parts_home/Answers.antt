use Rattle.hlr_workers.proofs.engine.bring_parts_home.Goals as goal

pub join_parts-requires-clause-kept : goal.join_parts-requires-clause-kept
join_parts-requires-clause-kept g c κs lives = rw (c.stop_parts.ensures, c.hand_on.ensures) c.requires.kept

pub returns : goal.returns
returns g c = rw (c.stop_parts.ensures, c.hand_on.ensures) at c.join_parts.ensures
