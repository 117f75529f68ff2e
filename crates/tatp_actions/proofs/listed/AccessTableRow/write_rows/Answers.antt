use Rattle.tatp_actions.proofs.Common.{arith, tables_of}
use Rattle.tatp_actions.specs.Listed.{AreListed, access_fields}
use Rattle.tatp_actions.proofs.ListedLemmas.{access_listed, listed_small, table_written}
use Rattle.tatp_actions.proofs.listed.AccessTableRow.write_rows.Goals.{After-part}
use Rattle.tatp_actions.proofs.listed.AccessTableRow.write_rows.Goals as goal

-- the pairs of the tree
listed : (g : _) (c : After-part g) → AreListed access_fields c.part.inside.rows.access.rows
listed g c = access_listed (tables_of c.part.inside.rows) c.part.invariant.0.rows.rules c.part.invariant.1

pub write_groups_from-requires : goal.write_groups_from-requires
write_groups_from-requires g c = (
  omega arith,
  (omega arith, (omega arith, (c.requires, ((listed g (goal.at.write_groups_from-requires g c).After-part).ordered, listed_small access_fields c.part.inside.rows.access.rows (listed g (goal.at.write_groups_from-requires g c).After-part))))),
)

pub returns : goal.returns
returns g c =
    rw (← c.part.view_is)
    (table_written access_fields g.T.FromRow.of_row c.args.from.now c.packed.result c.part.inside.rows.access.rows c.args.place c.args.rows.now c.write_groups_from.result c.write_groups_from.new.rows
    (listed g (goal.at.returns g c).After-part) c.packed.ensures c.write_groups_from.ensures)
