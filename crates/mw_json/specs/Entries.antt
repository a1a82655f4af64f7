-- For proofs alone. The members that a map of trees holds, in its order.
use Rattle.std.specs.Prelude.{ℕ, List, map, String, string_bytes}
use Rattle.std.specs.declared.alloc.Global.{Global}
use Rattle.mw_model.specs.Json.{Json, Members}
use Rattle.mw_json.specs.View.{view, members_of}
use Rattle.mw_json.specs.declared.tree.Tree.{Tree}

abbrev pub entry_view : String Global × Tree → List ℕ × Json
entry_view e = (string_bytes e.0, view e.1)

abbrev pub entries_view : List (String Global × Tree) → Members
entries_view es = members_of (map entry_view es)
