-- Trees of groups may go to another thread, where their rows and groups may.
use denote.RattleType.{RattleType}
use denote.Param.Send.{IsSend, sendable}
use Rattle.std.specs.declared.default.Default.{Ghosts as DefaultGhosts}
use Rattle.mr_subtree.proofs.CrossingLemmas.{tree_send}
use Rattle.group_tree.specs.contracts.tree.GroupTree as GroupTree
use Rattle.group_tree.specs.declared.group.Group.{Ghosts as GroupGhosts}
use Rattle.group_tree.specs.declared.group.Row.{Ghosts as RowGhosts}

pub groups_send : (R G : RattleType) (row : RowGhosts R.Denot) (empty_row : DefaultGhosts R.Denot) (group : GroupGhosts G.Denot R.Denot) (empty_group : DefaultGhosts G.Denot)
    → IsSend R → IsSend G → IsSend (GroupTree.the_row R G row empty_row group empty_group)
groups_send R G row empty_row group empty_group row_sends group_sends = let groups = tree_send G group_sends in search sendable depth 20
