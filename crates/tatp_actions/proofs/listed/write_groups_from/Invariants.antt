use Rattle.tatp_actions.proofs.Common.{◌-◌, length, map, key_of_pair, keys_from}
use Rattle.tatp_actions.proofs.ListedLemmas.{IsWriting}
use Rattle.tatp_actions.proofs.listed.write_groups_from.Given as goal

abbrev pub invariant-loop-behind : goal.invariant-loop-behind
invariant-loop-behind g l =
    IsWriting (map (λ pair. g.T.FromRow.of_row pair.1) (keys_from key_of_pair l.key l.tree.rows)) l.place l.initial.rows (map (λ pair. g.T.FromRow.of_row pair.1) (keys_from key_of_pair l.from l.tree.rows)) l.behind l.rows

abbrev pub decreases-loop-behind : goal.decreases-loop-behind
decreases-loop-behind g l = length l.initial.rows - l.behind
