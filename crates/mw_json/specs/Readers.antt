-- What a function that reads a value has to keep.
use Rattle.std.specs.Prelude.{ℕ, ◌+◌, List, [], ◌∷◌, Option, Some, None, Result, Ok}
use Rattle.std.specs.declared.alloc.Global.{Global}
use denote.Ref.{Bor}
use denote.Param.Members.{Once, Shared}
use Rattle.mw_model.specs.Json.{Json, Items, no_items, item, Members, no_members, member, find_member}
use Rattle.mw_json.specs.View.{view}
use Rattle.mw_json.specs.Grammar.{Breach, ◌>>=◌, Gives, GivesBy, under, list_up_to}
use Rattle.mw_json.specs.declared.refusal.Refusal.{Refusal}
use Rattle.mw_json.specs.declared.refusal.Step.TheVariants.{Name, Index}
use Rattle.mw_json.specs.declared.tree.Tree.{Tree}

-- each answer of the function, seen by seen, is what the grammar gives
abbrev pub SeesAs : {F T P : Type 0} → Once F (Global × (Bor Tree × Unit {0})) (Result T Refusal)
    → F → (T → P) → (Json → Result P Breach) → Type 0
SeesAs {F} {T} g f seen at =
    (alloc : Global) (tree : Bor Tree) (answer : Result T Refusal)
    → g.post f (alloc, (tree, tt)) answer → GivesBy seen answer (at (view tree.now))

-- each answer of the function is what the grammar gives
abbrev pub ReadsAs : {F T : Type 0} → Once F (Global × (Bor Tree × Unit {0})) (Result T Refusal) → F
    → (Json → Result T Breach) → Type 0
ReadsAs g f at = SeesAs g f (λ x. x) at

-- the same of a function that is called more than once
abbrev pub SeesEach : {F T P : Type 0}
    → Shared F (Global × (Bor Tree × Unit {0})) (Result T Refusal) → F → (T → P)
    → (Json → Result P Breach) → Type 0
SeesEach {F} {T} g f seen at =
    (alloc : Global) (tree : Bor Tree) (answer : Result T Refusal)
    → g.post f (alloc, (tree, tt)) answer → GivesBy seen answer (at (view tree.now))

abbrev pub ReadsEach : {F T : Type 0} → Shared F (Global × (Bor Tree × Unit {0})) (Result T Refusal)
    → F → (Json → Result T Breach) → Type 0
ReadsEach g f at = SeesEach g f (λ x. x) at

-- the same of a value that stands under a name
abbrev pub ReadsNamed : {F T : Type 0}
    → Shared F (Global × (Bor (List ℕ) × (Bor Tree × Unit {0}))) (Result T Refusal) → F
    → (List ℕ → Json → Result T Breach) → Type 0
ReadsNamed {F} {T} g f at =
    (alloc : Global) (name : Bor (List ℕ)) (tree : Bor Tree) (answer : Result T Refusal)
    → g.post f (alloc, (name, (tree, tt))) answer → Gives answer (at name.now (view tree.now))

-- each element, the first of which stands at this index
abbrev pub each_from : {A : Type 0} → (Json → Result A Breach) → ℕ → Items → Result (List A) Breach
each_from at i no_items = Ok []
each_from at i (item j js) = do
  first ← under (Index i) (at j)
  others ← each_from at (i + 1) js
  Ok (first ∷ others)

-- a list of at most this many elements
unfoldable pub list_of_at : {A : Type 0} → ℕ → (Json → Result A Breach) → Json
    → Result (List A) Breach
list_of_at most at j = do
  js ← list_up_to most j
  each_from at 0 js

-- what stands there, or else what comes next
abbrev pub first_at : {A : Type 0} → Option Json → (Json → Result A Breach) → Result A Breach
    → Result A Breach
first_at (Some j) at next = at j
first_at None at next = next

-- what stands under a name, or what it is where it is absent
unfoldable pub field_or_at : {A : Type 0} → List ℕ → A → (Json → Result A Breach) → Members
    → Result A Breach
field_or_at name absent at ms =
    first_at (find_member name ms) (λ j. under (Name name) (at j)) (Ok absent)

-- each member, in the order of the names
abbrev pub each_member_at : {A : Type 0} → (List ℕ → Json → Result A Breach) → Members
    → Result (List A) Breach
each_member_at at no_members = Ok []
each_member_at at (member name j ms) = do
  first ← under (Name name) (at name j)
  others ← each_member_at at ms
  Ok (first ∷ others)
