-- A tree beside the value of the crate that it was made of.
use Rattle.std.proofs.Common.{◌≡◌, ℕ, ◌≤◌, List, [], ◌∷◌, ◌++◌, length, map, String, Global, string_bytes, refl, ap, arith}
use Rattle.serde_json.specs.View.{view as data_view, items_view as data_items, members_view as data_members}
use Rattle.serde_json.specs.declared.value.Value.{Value}
use Rattle.mw_model.specs.Json.{Json, item, member, depth, items_depth, members_depth}
use Rattle.mw_json.specs.Reading.{of_data, of_items, of_members}
use Rattle.mw_model.specs.Trees.{items_of}
use Rattle.mw_json.specs.View.{view, member_view, members_of, items_view, members_view, tree_step, member_step}
use Rattle.mw_json.specs.Grammar.{items_length}
use Rattle.mw_json.specs.declared.tree.Tree.{Tree}
use Rattle.mw_json.specs.declared.tree.Member.{Member, roll-Member, fold-roll-Member}

-- what a value of the crate means
abbrev pub meaning : Value → Json
meaning v = of_data (data_view v)

abbrev pub Entry : Type 0
Entry = String Global × Value

abbrev pub named : Entry → List ℕ × Json
named e = (string_bytes e.0, meaning e.1)

pub of_items-list : (vs : List Value) → of_items (data_items vs) ≡ items_of (map meaning vs)
of_items-list [] = refl
of_items-list (v ∷ vs) = ap (item (meaning v)) (of_items-list vs)

pub of_members-list : (es : List Entry) → of_members (data_members es) ≡ members_of (map named es)
of_members-list [] = refl
of_members-list (e ∷ es) = ap (member (string_bytes e.0) (meaning e.1)) (of_members-list es)

-- no part is deeper than all of them together
pub depth_of_item : (done : List Value) (v : Value) (left : List Value) → depth (meaning v) ≤ items_depth (of_items (data_items (done ++ v ∷ left)))
depth_of_item [] v left = omega arith
depth_of_item (x ∷ done) v left = omega (arith, depth_of_item done v left)

pub depth_of_member : (done : List Entry) (e : Entry) (left : List Entry) → depth (meaning e.1) ≤ members_depth (of_members (data_members (done ++ e ∷ left)))
depth_of_member [] e left = omega arith
depth_of_member (x ∷ done) e left = omega (arith, depth_of_member done e left)

pub shallow_item : (js : List Json) (j : Json) (n : ℕ) → items_depth (items_of js) ≤ n → depth j ≤ n → items_depth (items_of (js ++ j ∷ [])) ≤ n
shallow_item [] j n h k = omega arith
shallow_item (i ∷ js) j n h k = omega (arith, shallow_item js j n (omega arith) k)

pub shallow_member : (ms : List (List ℕ × Json)) (m : List ℕ × Json) (n : ℕ) → members_depth (members_of ms) ≤ n → depth m.1 ≤ n → members_depth (members_of (ms ++ m ∷ [])) ≤ n
shallow_member [] m n h k = omega arith
shallow_member (x ∷ ms) m n h k = omega (arith, shallow_member ms m n (omega arith) k)

pub member_view-made : (name : List ℕ) (value : Tree) → member_view (roll-Member record { name = name; value = value }) ≡ (name, view value)
member_view-made name value = fold-roll-Member Json (List ℕ × Json) tree_step member_step record { name = name; value = value }

-- a list has as many elements as its trees
pub as_many : (ts : List Tree) → items_length (items_view ts) ≡ length ts
as_many [] = refl
as_many (t ∷ ts) = omega (arith, as_many ts)

-- lists that mean the same have as many elements
pub same_items_count : (ts us : List Tree) → items_view ts ≡ items_view us → length ts ≡ length us
same_items_count ts us e = omega (arith, ap items_length e, as_many ts, as_many us)

pub same_members_count : (ms ns : List Member) → members_view ms ≡ members_view ns → length ms ≡ length ns
same_members_count [] [] e = refl
same_members_count [] (n ∷ ns) e = cc
same_members_count (m ∷ ms) [] e = cc
same_members_count (m ∷ ms) (n ∷ ns) e =
    let rest : members_view ms ≡ members_view ns = cc in
    omega (arith, same_members_count ms ns rest)
