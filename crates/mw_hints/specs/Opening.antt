-- Locations whose items a slot may buy a hint of.
use Rattle.std.specs.Prelude.{ℕ, ℤ, ◌&&◌, List, Bool}
use Rattle.std.specs.Ordering.{int_eq}
use Rattle.mw_model.specs.Seed.{Seed, Held, is_owner}
use Rattle.mw_protocol.specs.Checks.{CheckedAt}
use Rattle.mw_protocol.specs.Hints.{is_open}
use Rattle.mw_protocol.specs.Records.{Hint}

-- the location holds the slot's item of a number, isn't checked and has no hint
unfoldable pub opens : Seed → CheckedAt → List Hint → ℕ → ℕ → ℤ → Held → Bool
opens seed is_found hints team slot item h =
    is_owner seed h.receiver slot && int_eq h.item item && is_open is_found hints team h
