-- The meaning of a `Tree`.
use Rattle.std.specs.Prelude.{ℕ, List, [], ◌∷◌, map}
use Rattle.mw_model.specs.Json.{Json, null, flag, whole, not_whole, numeral, words, many, members, Items, Members, no_members, member}
use Rattle.mw_model.specs.Trees.{items_of}
use Rattle.mw_json.specs.declared.tree.Tree.{Tree, fold-Tree}
use Rattle.mw_json.specs.declared.tree.Member.{Member, fold-Member}
use Rattle.mw_json.specs.declared.tree.Tree.TheOpen.{Tree-F, Member-F}

abbrev pub members_of : List (List ℕ × Json) → Members
members_of [] = no_members
members_of (m ∷ ms) = member m.0 m.1 (members_of ms)

-- one level, with what each tree inside means
abbrev pub tree_step : Tree-F Json (List ℕ × Json) → Json
tree_step Tree-F.Null = null
tree_step (Tree-F.Flag b) = flag b
tree_step (Tree-F.Whole z) = whole z
tree_step Tree-F.NotWhole = not_whole
tree_step (Tree-F.Numeral s) = numeral s
tree_step (Tree-F.Words s) = words s
tree_step (Tree-F.Many js) = many (items_of js)
tree_step (Tree-F.Members ms) = members (members_of ms)

abbrev pub member_step : Member-F Json (List ℕ × Json) → List ℕ × Json
member_step m = (m.name, m.value)

abbrev pub view : Tree → Json
view = fold-Tree Json (List ℕ × Json) tree_step member_step

abbrev pub member_view : Member → List ℕ × Json
member_view = fold-Member Json (List ℕ × Json) tree_step member_step

abbrev pub items_view : List Tree → Items
items_view ts = items_of (map view ts)

abbrev pub members_view : List Member → Members
members_view ms = members_of (map member_view ms)
