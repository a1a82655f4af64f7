-- Trees that can be written, one after another.
use Rattle.std.proofs.Common.{List, [], ◌∷◌, ◌++◌}
use Rattle.mw_model.specs.Json.{IsWritable, ItemsAreWritable}
use Rattle.mw_json.specs.View.{view, items_view}
use Rattle.mw_json.specs.declared.tree.Tree.{Tree}

pub one_more : (ts : List Tree) (t : Tree) → ItemsAreWritable (items_view ts) → IsWritable (view t) → ItemsAreWritable (items_view (ts ++ t ∷ []))
one_more [] t all one = (one, tt)
one_more (s ∷ ts) t all one = (all.0, one_more ts t all.1 one)
