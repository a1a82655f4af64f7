-- Trees, one for each element of a list.
use Rattle.std.proofs.Common.{◌≡◌, ◌<◌, ◌≤◌, ◌+◌, ℕ, List, [], ◌∷◌, ◌++◌, length, get_or, take, map, ap, sym, subst, ◌∙◌}
use Rattle.std.proofs.lemmas.List.{map_more, take_all}
use Rattle.mw_model.specs.Json.{Json, many, IsWritable, ItemsAreWritable}
use Rattle.mw_model.specs.Trees.{items_of}
use Rattle.mw_json.specs.View.{view, items_view, tree_step, member_step}
use Rattle.mw_json.specs.declared.tree.Tree.{Tree, fold-roll-Tree}
use Rattle.mw_json.specs.declared.tree.Tree.TheOpen.{Tree-F}
use Rattle.mw_json.specs.declared.tree.Tree.TheVariants.{Many, rolls-Many}

-- one tree more, of the next element
pub next_tree : {X : Type 0} (to : X → Json) (xs : List X) (i : ℕ) (d : X) (before after : List Tree) (t : Tree) → i < length xs → map view before ≡ map to (take i xs) → map view after ≡ map view before ++ view t ∷ [] → view t ≡ to (get_or xs i d) → map view after ≡ map to (take (i + 1) xs)
next_tree to xs i d before after t there told more is =
    more ∙ ap (λ (js : List Json). js ++ view t ∷ []) told ∙ ap (λ (j : Json). map to (take i xs) ++ j ∷ []) is ∙ sym (map_more to xs i d there)

-- what a list of trees means
pub view_of_many : (trees : List Tree) → view (Many trees) ≡ many (items_view trees)
view_of_many trees = ap view (sym (rolls-Many trees)) ∙ fold-roll-Tree Json (List ℕ × Json) tree_step member_step (Tree-F.Many trees)

-- it can be written if each of them can
pub many_writable : (trees : List Tree) → ItemsAreWritable (items_view trees) → IsWritable (view (Many trees))
many_writable trees all = subst IsWritable (sym (view_of_many trees)) all

-- the trees of all elements
pub all_trees : {X : Type 0} (to : X → Json) (xs : List X) (i : ℕ) (trees : List Tree) → length xs ≤ i → map view trees ≡ map to (take i xs) → view (Many trees) ≡ many (items_of (map to xs))
all_trees to xs i trees all told = view_of_many trees ∙ ap (λ (js : List Json). many (items_of js)) (told ∙ ap (map to) (take_all i xs all))
