use Rattle.mr_node.proofs.node.Node.+insert_room.Given as goal

abbrev pub decreases-insert_room : goal.decreases-insert_room
decreases-insert_room g l = goal.size-insert_room g l
