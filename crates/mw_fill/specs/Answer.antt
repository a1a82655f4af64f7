-- What a fill answers.
use Rattle.std.specs.Prelude.{ℕ}
use Rattle.mw_fill.specs.declared.error.FillError.{FillError}
use Rattle.mw_fill.specs.declared.error.FillError.TheVariants.{Stuck, Memory}

-- what holds of the slot and the item where a copy finds no location; nothing where memory ran out
abbrev pub OnStuck : FillError → (ℕ → ℕ → Type 0) → Type 0
OnStuck (Stuck slot item) P = P slot item
OnStuck Memory P = Unit {0}
