-- Locations that are scouted.
use Rattle.std.specs.Prelude.{ℕ, ℤ, ◌++◌, List}
use Rattle.mw_model.specs.Seed.{Seed}
use Rattle.mw_protocol.specs.Checks.{Check, checks_at, unseen}
use Rattle.mw_protocol.specs.Locations.{known}

-- what is found, and after it the known ones among further numbers that aren't found yet
abbrev pub found_with : Seed → ℕ → ℕ → List ℤ → List ℤ → List Check
found_with seed team slot found numbers =
    checks_at team slot found
    ++ unseen (checks_at team slot found) (checks_at team slot (known seed slot numbers))
