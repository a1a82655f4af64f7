-- Checks that are asked for, and those of them that are new.
use Rattle.std.specs.Prelude.{◌≡◌, ℕ, ℤ, ◌++◌, ◌∷◌, List, filter, is_some}
use Rattle.mw_model.specs.Seed.{Seed, held_at}
use Rattle.mw_protocol.specs.Checks.{Check, unseen}
use Rattle.mw_protocol.specs.Locations
use Rattle.mw_checks.specs.Log.{Log, check_of, checks_of}

-- those that are locations of their slots
abbrev pub known_checks : Seed → List Check → List Check
known_checks seed asked = filter (λ c. is_some (held_at seed c.slot c.location)) asked

-- those that are locations of their slots and aren't checked, each once, in order
abbrev pub new_checks : Seed → List Check → List Check → List Check
new_checks seed checked asked = unseen checked (known_checks seed asked)

-- the new ones among the numbers that a client of a slot sent
abbrev pub new_at : Log → ℕ → ℕ → List ℤ → List Check
new_at log team slot numbers = Locations.new_checks log.seed log.checked team slot numbers

-- the new ones among pairs
abbrev pub new_among : Log → ℕ → List (ℕ × ℤ) → List Check
new_among log team pairs = new_checks log.seed log.checked (checks_of team pairs)

-- a pair more was looked at: what was found, with what is new after it among this and any others, is now what is found, with what is new among the others
abbrev pub Notes : Seed → List Check → ℕ → ℕ × ℤ → List (ℕ × ℤ) → List (ℕ × ℤ) → Type 0
Notes seed checked team pair old new = (others : List Check)
    → checks_of team new ++ new_checks seed (checked ++ checks_of team new) others
    ≡ checks_of team old
    ++ new_checks seed (checked ++ checks_of team old) (check_of team pair ∷ others)

-- what is found, with what is new after it among others
abbrev pub looked : Seed → List Check → ℕ → List (ℕ × ℤ) → List Check → List Check
looked seed checked team found others =
    checks_of team found ++ new_checks seed (checked ++ checks_of team found) others

-- the same of checks that were all looked at
abbrev pub NotesAll : Seed → List Check → ℕ → List Check → List (ℕ × ℤ) → List (ℕ × ℤ) → Type 0
NotesAll seed checked team asked old new =
    (others : List Check)
    → looked seed checked team new others ≡ looked seed checked team old (asked ++ others)
