use Rattle.tatp_actions.proofs.Common.{arith, refl, IsRowsOf, zero_heights, Tables, AreKeyed, stored_book}
use Rattle.tatp_actions.proofs.KeyedLemmas.{more_forwardings_holds}
use Rattle.tatp_actions.proofs.StoredLemmas.{Holds}
use Rattle.tatp_actions.proofs.tests.makers.put_forwarding.Goals as goal

-- the rows keep the rules of a part
held : (tables : Tables) → IsRowsOf 1 10 (stored_book tables) → AreKeyed tables → Holds tables 0 1 10 1 0 zero_heights
held tables rows keys = (record { range = (omega arith, omega arith, omega arith); width = (omega arith, omega arith); rows = rows }, keys)

pub returns-clause-rows : goal.returns-clause-rows
returns-clause-rows g c =
    (more_forwardings_holds _ _ 0 0 1 10 1 0 _ c.args.row refl (held _ c.requires.rows c.requires.keys) c.in_default.ensures.table c.in_default.ensures.others {h1 = zero_heights} (rw (c.requires.subscriber, c.requires.kind) c.requires.there) c.s_id-s_id.ensures.in_range).0.rows

pub returns-clause-keys : goal.returns-clause-keys
returns-clause-keys g c =
    (more_forwardings_holds _ _ 0 0 1 10 1 0 _ c.args.row refl (held _ c.requires.rows c.requires.keys) c.in_default.ensures.table c.in_default.ensures.others {h1 = zero_heights} (rw (c.requires.subscriber, c.requires.kind) c.requires.there) c.s_id-s_id.ensures.in_range).1
