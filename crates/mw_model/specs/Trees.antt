-- Trees made of lists and of single values.
use Rattle.std.specs.Prelude.{ℕ, ℤ, ◌∷◌, [], List, if◌then◌else◌}
use Rattle.std.specs.Ordering.{nat_cmp, is_lt}
use Rattle.std.specs.Cmp.Lexicographic.{slice_cmp}
use Rattle.std.specs.declared.cmp.Ordering.TheVariants.{Less, Equal, Greater}
use Rattle.mw_model.specs.Json.{Json, whole, words, Items, no_items, item, Members, no_members, member}

abbrev pub items_of : List Json → Items
items_of [] = no_items
items_of (j ∷ js) = item j (items_of js)

-- a member more, at its place in byte order
abbrev pub put_member : List ℕ → Json → Members → Members
put_member name j no_members = member name j no_members
put_member name j (member other k ms) =
    if is_lt (slice_cmp nat_cmp name other) then member name j (member other k ms)
    else member other k (put_member name j ms)

abbrev pub text_json : List ℕ → Json
text_json s = words s

abbrev pub id_json : ℤ → Json
id_json id = whole id

-- a member with this value: the one of this name, or a new one at its place in byte order
abbrev pub set_member : List ℕ → Json → Members → Members
set_member name value no_members = member name value no_members
set_member name value (member k j ms) =
    elim (slice_cmp nat_cmp name k) [
      | Less ↦ member name value (member k j ms)
      | Equal ↦ member k value ms
      | Greater ↦ member k j
          (set_member name value ms)
    ]
