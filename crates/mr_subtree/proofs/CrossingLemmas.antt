-- Nodes and trees may go to another thread, where their values may.
use denote.RattleType.{RattleType}
use denote.Param.Send.{IsSend, sendable}
use Rattle.mr_subtree.proofs.Common.{Box-send, send-Node}
use Rattle.mr_node.proofs.body.Body.TheSendSync.{the_send as body_send}
use Rattle.mr_node.proofs.stock.Blanks.TheSendSync.{the_send as blanks_send}
use Rattle.mr_node.specs.contracts.node.Node as Node
use Rattle.mr_subtree.specs.contracts.subtree.SubTree as SubTree

node_send : (V : RattleType) → IsSend V → IsSend (Node.the_row V)
node_send V value = send-Node V (λ below send. body_send V _ value (Box-send below send))

pub tree_send : (V : RattleType) → IsSend V → IsSend (SubTree.the_row V)
tree_send V value = let root = node_send V value in let spare = blanks_send (Node.the_row V) root in search sendable depth 20
