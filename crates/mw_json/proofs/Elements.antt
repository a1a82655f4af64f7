-- The elements of a list of trees, by their index.
use Rattle.std.proofs.Common.{◌≡◌, ◌<◌, ℕ, zero, suc, List, [], ◌∷◌, length, get_or, Ok, arith, refl}
use Rattle.mw_json.specs.View.{view, items_view}
use Rattle.mw_json.specs.declared.tree.Tree.{Tree}
use Rattle.mw_json.specs.Parts.{item_at, not_empty}

pub item_at_view : (ts : List Tree) (i : ℕ) (d : Tree) → i < length ts → item_at i (items_view ts) ≡ view (get_or ts i d)
unfolding item_at
item_at_view [] i d h = absurd (omega arith)
item_at_view (t ∷ ts) zero d h = refl
item_at_view (t ∷ ts) (suc i) d h = item_at_view ts i d (omega arith)

pub not_empty_view : (ts : List Tree) → 0 < length ts → not_empty (items_view ts) ≡ Ok (items_view ts)
not_empty_view [] h = absurd (omega arith)
not_empty_view (t ∷ ts) h = refl
