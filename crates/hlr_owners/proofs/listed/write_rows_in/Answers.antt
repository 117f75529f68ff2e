use Rattle.hlr_owners.proofs.Common.{◌≡◌, ◌+◌, arith, refl, suc, map, state_of}
use Rattle.tatp_actions.specs.Listed.{rows_listed}
use Rattle.hlr_owners.proofs.HomeLemmas.{home_at}
use Rattle.hlr_owners.proofs.ListedLemmas.{listed_next, listed_past}
use Rattle.tatp_actions.proofs.ListedLemmas.{writing_done, writing_full, writing_next, writing_starts}
use Rattle.hlr_owners.proofs.listed.write_rows_in.Goals as goal

pub loop-owner-init : goal.loop-owner-init
loop-owner-init g c = writing_starts _ 0 c.args.rows.now _ (omega arith) refl

pub write_rows_of-behind-requires-clause-home : goal.write_rows_of-behind-requires-clause-home
write_rows_of-behind-requires-clause-home g c = home_at c.args.owners.now c.loop-owner.owner-index c.owner-item.result c.requires c.loop-owner-test.true c.owner-item.is

pub loop-owner-preserved : goal.loop-owner-preserved
loop-owner-preserved g c =
    let next : c.loop-owner.owner-index + 1 ≡ suc c.loop-owner.owner-index = omega arith in
    let parts = listed_next g.V.TableRow.fields g.T.FromRow.of_row c.args.from.now g.V.TableRow.table g.met.V.TableRow.joined c.loop-owner.owner-index c.args.owners.now c.owner-item.result c.loop-owner-test.true c.owner-item.is in
    rw next
    (writing_next _ 0 c.args.rows.now _ (map g.T.FromRow.of_row (rows_listed g.V.TableRow.fields c.args.from.now (g.V.TableRow.table (state_of c.owner-item.result).part.book))) _ c.loop-owner.behind c.write_rows_of-behind.result c.loop-owner.rows
    c.write_rows_of-behind.new.rows c.loop-owner.invariant parts c.write_rows_of-behind.ensures)

pub returns-then-behind-rows : goal.returns-then-behind-rows
returns-then-behind-rows g c = let full = c.if-behind-rows.true in writing_full _ 0 c.args.rows.now _ c.loop-owner.behind c.loop-owner.rows c.loop-owner.invariant (omega (arith, full))

pub returns : goal.returns
returns g c =
    writing_done _ 0 c.args.rows.now _ c.loop-owner.behind c.loop-owner.rows c.loop-owner.invariant
    (listed_past g.V.TableRow.fields g.T.FromRow.of_row c.args.from.now g.V.TableRow.table g.met.V.TableRow.none c.loop-owner.owner-index c.args.owners.now c.loop-owner-test.false)
