-- Names and ids by their first place in a table.
use Rattle.std.specs.Prelude.{ℕ, ℤ, suc, List, [], ◌∷◌, Bool, Option, Some, None, option_map, bytes_eq, if◌then◌else◌}
use Rattle.std.specs.Ordering.{int_eq}

-- where a name first stands
abbrev pub index_of_name : List (List ℕ) → List ℕ → Option ℕ
index_of_name [] name = None
index_of_name (n ∷ ns) name =
    if bytes_eq n name then Some 0 else option_map suc (index_of_name ns name)

-- where an id first stands, of those that there are
abbrev pub index_of_id : List (Option ℤ) → ℤ → Option ℕ
index_of_id [] id = None
index_of_id (Some x ∷ ids) id = if int_eq x id then Some 0 else option_map suc (index_of_id ids id)
index_of_id (None ∷ ids) id = option_map suc (index_of_id ids id)

-- ---- a table of first places that grows by one row

-- what was found, or else this place where it is the one
abbrev pub or_here : Option ℕ → Bool → ℕ → Option ℕ
or_here (Some k) here i = Some k
or_here None here i = if here then Some i else None

abbrev pub or_its_place : Option ℕ → Option ℤ → ℤ → ℕ → Option ℕ
or_its_place found (Some id) q i = or_here found (int_eq id q) i
or_its_place found None q i = found
