-- Names and ids that stand at no earlier place of a table.
use Rattle.std.specs.Prelude.{ℕ, ℤ, ◌+◌, ◌==◌, List, [], ◌∷◌, Bool, true, false, Option, Some, None, Result, Ok, if◌then◌else◌}
use Rattle.mw_json.specs.Grammar.{Breach, ◌>>=◌, refused, under}
use Rattle.mw_json.specs.declared.refusal.Kind.{Kind}
use Rattle.mw_json.specs.declared.refusal.Kind.TheVariants.{DuplicateName, UnknownName}
use Rattle.mw_json.specs.declared.refusal.Step.TheVariants.{Index}
use Rattle.mw_multi.specs.Indexes.{index_of_name, index_of_id}

-- nothing to refuse, or the first breach
abbrev pub Check : Type 0
Check = Result (Unit {0}) Breach

-- refused in this way where the test fails
abbrev pub demand : Kind → Bool → Check
demand kind holds = if holds then Ok tt else refused kind

-- what has to be there
abbrev pub known : {A : Type 0} → Option A → Result A Breach
known (Some x) = Ok x
known None = refused UnknownName

abbrev pub is_at : ℕ → Option ℕ → Bool
is_at i (Some k) = k == i
is_at i None = false

-- the name of this place stands at no earlier one
abbrev pub stands_first : List (List ℕ) → ℕ → List ℕ → Bool
stands_first names i name = is_at i (index_of_name names name)

-- the same of its id, if it has one
abbrev pub id_stands_first : List (Option ℤ) → ℕ → Option ℤ → Bool
id_stands_first ids i None = true
id_stands_first ids i (Some id) = is_at i (index_of_id ids id)

-- each of these names, the first of which stands at this place, stands at no earlier one
abbrev pub names_once : List (List ℕ) → ℕ → List (List ℕ) → Check
names_once whole i [] = Ok tt
names_once whole i (n ∷ ns) = do
  first ← under (Index i) (demand DuplicateName (stands_first whole i n))
  names_once whole (i + 1) ns
