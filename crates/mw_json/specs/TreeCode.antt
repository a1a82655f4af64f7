-- For proofs alone. How plain JSON is told apart: each value is what some `Tree` stands for.
use Rattle.std.specs.Coded.{Coded, code_by}
use mathlib.Core.Path.{◌≡◌, refl, ap, sym, ◌∙◌}
use Rattle.std.specs.Prelude.{ℕ, List, [], ◌∷◌}
use Rattle.mw_model.specs.Json.{Json, null, flag, whole, not_whole, numeral, words, many, members, Items, no_items, item, Members, no_members, member}
use Rattle.mw_json.specs.View.{view, member_view, items_view, members_view, tree_step, member_step}
use Rattle.mw_json.specs.contracts.tree.Tree as row
use Rattle.mw_json.specs.declared.tree.Tree.{Tree, fold-roll-Tree}
use Rattle.mw_json.specs.declared.tree.Tree.TheVariants as tree
use Rattle.mw_json.specs.declared.tree.Tree.TheOpen.{Tree-F}
use Rattle.mw_json.specs.declared.tree.Member.{Member, roll-Member, fold-roll-Member}

-- a tree that stands for this value
abbrev mutual
  pub written : Json → Tree
  written null = tree.Null
  written (flag b) = tree.Flag b
  written (whole z) = tree.Whole z
  written not_whole = tree.NotWhole
  written (numeral s) = tree.Numeral s
  written (words s) = tree.Words s
  written (many js) = tree.Many (items_written js)
  written (members ms) = tree.Members (members_written ms)

  pub items_written : Items → List Tree
  items_written no_items = []
  items_written (item j js) = written j ∷ items_written js

  pub members_written : Members → List Member
  members_written no_members = []
  members_written (member k j ms) = roll-Member record { name = k; value = written j }
      ∷ members_written ms

abbrev Named : Type 0
Named = List ℕ × Json

made : (name : List ℕ) (value : Tree)
    → member_view (roll-Member record { name = name; value = value }) ≡ (name, view value)
made name value =
    fold-roll-Member Json Named tree_step member_step record { name = name; value = value }

mutual
  pub stands_for_it : (j : Json) → view (written j) ≡ j
  stands_for_it null = ap view (sym tree.rolls-Null) ∙ fold-roll-Tree Json Named tree_step
      member_step Tree-F.Null
  stands_for_it (flag b) = ap view (sym (tree.rolls-Flag b)) ∙ fold-roll-Tree Json Named tree_step
      member_step (Tree-F.Flag b)
  stands_for_it (whole z) = ap view (sym (tree.rolls-Whole z)) ∙ fold-roll-Tree Json Named tree_step
      member_step (Tree-F.Whole z)
  stands_for_it not_whole = ap view (sym tree.rolls-NotWhole) ∙ fold-roll-Tree Json Named tree_step
      member_step Tree-F.NotWhole
  stands_for_it (numeral s) = ap view (sym (tree.rolls-Numeral s)) ∙ fold-roll-Tree Json Named
      tree_step member_step (Tree-F.Numeral s)
  stands_for_it (words s) = ap view (sym (tree.rolls-Words s)) ∙ fold-roll-Tree Json Named tree_step
      member_step (Tree-F.Words s)
  stands_for_it
      (many js) = (ap view (sym (tree.rolls-Many (items_written js))) ∙ fold-roll-Tree Json Named
      tree_step member_step (Tree-F.Many (items_written js))) ∙ ap many (stand_for_items js)
  stands_for_it
      (members ms) = (ap view (sym (tree.rolls-Members (members_written ms))) ∙ fold-roll-Tree Json
      Named tree_step member_step (Tree-F.Members (members_written ms))) ∙ ap members
      (stand_for_members ms)

  pub stand_for_items : (js : Items) → items_view (items_written js) ≡ js
  stand_for_items no_items = refl
  stand_for_items (item j js) = ap (λ x. item x (items_view (items_written js))) (stands_for_it j) ∙
      ap (item j) (stand_for_items js)

  pub stand_for_members : (ms : Members) → members_view (members_written ms) ≡ ms
  stand_for_members no_members = refl
  stand_for_members (member k j ms) =
      ap (λ p. member p.0 p.1 (members_view (members_written ms))) (made k (written j))
      ∙ (ap (λ x. member k x (members_view (members_written ms))) (stands_for_it j) ∙ ap
      (member k j) (stand_for_members ms))

abbrev pub coded_json : Coded Json
coded_json = code_by Tree row.the_row.coded written view stands_for_it

-- an object's members
abbrev pub members_in : Json → Members
members_in (members ms) = ms
members_in null = no_members
members_in (flag b) = no_members
members_in (whole z) = no_members
members_in not_whole = no_members
members_in (numeral s) = no_members
members_in (words s) = no_members
members_in (many js) = no_members

abbrev pub coded_members : Coded Members
coded_members = code_by Json coded_json members members_in (λ ms. refl)
