use Rattle.tatp_actions.proofs.Common.{◌≡◌, map, take}
use Rattle.tatp_actions.specs.Listed.{written_at}
use Rattle.tatp_actions.proofs.listed.write_page.Given as goal

abbrev pub invariant-loop-at : goal.invariant-loop-at
invariant-loop-at g l = l.rows ≡ written_at l.place (map (λ pair. g.T.FromRow.of_row pair.1) (take l.at l.page)) l.initial.rows
