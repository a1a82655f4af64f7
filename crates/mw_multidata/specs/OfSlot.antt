-- The locations of a slot.
use Rattle.std.specs.Prelude.{ℕ, ◌==◌, List, filter}
use Rattle.mw_model.specs.Seed.{Held}

-- those that this slot finds, in order
abbrev pub held_of : ℕ → List Held → List Held
held_of slot hs = filter (λ h. h.slot == slot) hs
