-- Values that pass through a room as they stand: those of the data storage, and a packet's further members.
use Rattle.std.specs.Prelude.{◌≡◌, ◌≤◌, ℕ, List, false}
use Rattle.mw_model.specs.Json.{Json, Members, no_members, member, depth, IsWritable, IsOrdered, ComeAfter}
use Rattle.mw_model.specs.Texts.{has_text}

-- it is written and read again as it stands, also as a member of an object in a list, of which 64 levels are read
pub record IsPassed (j : Json) : Type 0 where
  pub writable : IsWritable j
  pub ordered : IsOrdered j
  pub shallow : depth j ≤ 62

-- members in ascending byte order of their names, none of which is among these
abbrev pub AreFurther : List (List ℕ) → Members → Type 0
AreFurther names no_members = Unit {0}
AreFurther names (member k j ms) =
    (has_text names k ≡ false) × IsPassed j × ComeAfter k ms × AreFurther names ms
