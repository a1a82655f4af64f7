-- Code that answers the rules of the world.
use Rattle.std.specs.Prelude.{ℕ, ◌<◌, length}
use Rattle.mw_rules.specs.Ruling.{rule_at}
use Rattle.mw_native.specs.Told.{Pre, Post, AnswersRule}
use Rattle.mw_clock.specs.Clockwork.{clock_rules}

-- each rule of the world with so many gears is answered by its number
abbrev pub AnswersClock : Pre → Post → ℕ → Type 0
AnswersClock pre post gears =
    (number : ℕ) → number < length (clock_rules gears)
    → AnswersRule pre post number (rule_at (clock_rules gears) number)
