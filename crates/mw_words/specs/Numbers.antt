-- Words that are numbers.
use Rattle.std.specs.Prelude.{◌≡◌, ◌<◌, ◌⊎◌, ℕ, List, Bool, true, false, Option, Some, None, codes, decimal, length, slice_index}

-- it begins with a sign, or with a 0 before more
abbrev pub BeginsAmiss : List ℕ → Type 0
BeginsAmiss word = (slice_index word 0 ≡ 43) ⊎ ((slice_index word 0 ≡ 48) × (1 < length word))

-- a number in decimal, where there is one
abbrev pub spelt : Option ℕ → Option (List ℕ)
spelt (Some n) = Some (decimal n)
spelt None = None

-- a flag that was given, or wasn't, as clap tells it
abbrev pub said : Bool → List ℕ
said true = codes "true"
said false = codes "false"
