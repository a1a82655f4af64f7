-- The lines of `stress`.
use Rattle.std.specs.Prelude.{ℕ, ℤ, zero, suc, ◌+◌, ◌-◌, ◌==◌, ◌++◌, List, [], ◌∷◌, Option, Some, None, codes, decimal, flat_map, length, slice_get, if◌then◌else◌}
use Rattle.std.specs.Fmt.{signed_decimal}
use Rattle.mw_stress.specs.Received.{received_in}
use Rattle.mw_stress.specs.declared.taken.Taken.{Taken}

-- the items that a session received by what was taken
abbrev pub received_by : Taken → ℕ → List ℤ
received_by t session = if t.session == session then flat_map received_in t.texts else []

abbrev pub received : List Taken → ℕ → List ℤ
received [] session = []
received (t ∷ ts) session = received_by t session ++ received ts session

-- the last of numbers in decimal, and 0 where there is none
abbrev pub number_text : Option ℤ → List ℕ
number_text None = codes "0"
number_text (Some z) = signed_decimal z

abbrev pub last_text : List ℤ → List ℕ
last_text items = number_text (slice_get items (length items - 1))

-- how many items a slot received, and the last of them
abbrev pub slot_line : ℕ → List ℤ → List ℕ
slot_line slot items =
    codes "slot " ++ decimal slot ++ codes " received " ++ decimal (length items) ++ codes " last "
    ++ last_text items ++ codes "\n"

-- so many slots, a line for each
abbrev pub slot_lines : List Taken → ℕ → List ℕ
slot_lines taken zero = []
slot_lines taken (suc n) = slot_lines taken n ++ slot_line (n + 1) (received taken (n + 1))

-- what was asked for
abbrev pub asked_line : ℕ → ℕ → List ℕ
asked_line many seed = codes "stress " ++ decimal many ++ codes " " ++ decimal seed ++ codes "\n"

-- the try, and how many spheres there are
abbrev pub made_lines : ℕ → ℕ → List ℕ
made_lines stream spheres =
    codes "try " ++ decimal stream ++ codes "\nspheres " ++ decimal spheres ++ codes "\n"

-- the text of so many players' seed, of which the sessions took this
abbrev pub stress_lines : ℕ → ℕ → ℕ → ℕ → List Taken → List ℕ
stress_lines many seed stream spheres taken =
    asked_line many seed ++ (made_lines stream spheres ++ slot_lines taken many)
