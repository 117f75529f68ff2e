use Rattle.hlr_owners.proofs.Common.{drop, map, book_in}
use Rattle.tatp_actions.proofs.ListedLemmas.{IsWriting}
use Rattle.tatp_actions.specs.Listed.{rows_listed}
use Rattle.hlr_owners.proofs.listed.write_rows_in.Given as goal

abbrev pub invariant-loop-owner : goal.invariant-loop-owner
invariant-loop-owner g l =
    IsWriting (map g.T.FromRow.of_row (rows_listed g.V.TableRow.fields l.from (g.V.TableRow.table (book_in l.owners)))) 0 l.initial.rows (map g.T.FromRow.of_row (rows_listed g.V.TableRow.fields l.from (g.V.TableRow.table (book_in (drop l.owner-index l.owners))))) l.behind
    l.rows
