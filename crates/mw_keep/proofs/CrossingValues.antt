-- Texts, lists and trees may cross threads.
use denote.RattleType.{RattleType}
use denote.Param.Send.{IsSend, recorded_send, sendable, struct_send, view_send}
use denote.Struct.Declared.{shape}
use Rattle.std.proofs.Crossing.{crosses, Vec-send}
use Rattle.std.specs.contracts.alloc.Global as heap
use Rattle.std.specs.contracts.impls.GlobalAllocator.TheImpl as heap_impl
use Rattle.std.specs.contracts.string.String as string
use Rattle.mw_base.specs.contracts.list.List as list
use Rattle.mw_base.specs.contracts.text.Text as text
use Rattle.mw_base.specs.contracts.text.Text.TheInside as text_inside
use Rattle.mw_json.specs.contracts.tree.Tree as tree
use Rattle.mw_json.proofs.tree.Tree.TheLaws.TheKnot as knot

string_send : IsSend (string.the_field heap.the_row heap_impl.ghosts).row
string_send = search (sendable, crosses) depth 30

pub text_send : IsSend text.the_row
text_send = view_send text_inside.the_row _ _ _ _
    (recorded_send (text_inside.the_field).row _ _ (text_inside.the_type).to_one (struct_send (shape text_inside.the_type) (string_send, tt)))

pub list_send : (T : RattleType) → IsSend T → IsSend (list.the_row T)
list_send T s = search (Vec-send, sendable) depth 30 fits 20000

tree_field : IsSend (tree.the_field).row
tree_field = knot.send-Tree (search sendable depth 20) (search sendable depth 20) text_send list_send

pub tree_send : IsSend tree.the_row
tree_send = recorded_send (tree.the_field).row _ _ (tree.the_type).to_one tree_field
