-- Names and ids, and that no two of a table are equal.
use Rattle.std.specs.Prelude.{ℕ, ℤ, pos, ◌<◌, ◌≤◌, ◌≤ℤ◌, ◌<ℤ◌, ◌^◌, List, Option, All, bytes_eq, chars, length, filter_map}
use Rattle.std.specs.List.{IsDistinct}
use Rattle.std.specs.Ordering.{int_eq}

-- 1 to so many characters, none below U+0020
pub record IsName (most : ℕ) (name : List ℕ) : Type 0 where
  pub there : 0 < length name
  pub short : length (chars name) ≤ most
  pub plain : All (λ byte. 32 ≤ byte) name

-- from 1 to 2^53 - 1
pub record IsId (id : ℤ) : Type 0 where
  pub low : pos 1 ≤ℤ id
  pub high : id <ℤ pos (2 ^ 53)

-- no two names are equal
abbrev pub NamesDiffer : List (List ℕ) → Type 0
NamesDiffer names = IsDistinct bytes_eq names

-- no two ids are equal, where there are some
abbrev pub IdsDiffer : List (Option ℤ) → Type 0
IdsDiffer ids = IsDistinct int_eq (filter_map (λ id. id) ids)
