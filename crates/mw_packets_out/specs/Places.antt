-- Where a member stands among others in byte order.
use Rattle.std.specs.Prelude.{ℕ, List, suc, if◌then◌else◌}
use Rattle.std.specs.Ordering.{nat_cmp, is_lt}
use Rattle.std.specs.Cmp.Lexicographic.{slice_cmp}
use Rattle.mw_model.specs.Json.{Members, no_members, member}

-- how many members stand before the first whose name is greater
abbrev pub place_in : List ℕ → Members → ℕ
place_in name no_members = 0
place_in name (member other j ms) =
    if is_lt (slice_cmp nat_cmp name other) then 0 else suc (place_in name ms)
