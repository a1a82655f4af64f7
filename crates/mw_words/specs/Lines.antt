-- A command line, and the words that ask for it.
use Rattle.std.specs.Prelude.{◌≡◌, ◌≤◌, ℕ, List, IfSome, ⊤}
use Rattle.mw_words.specs.Words.{IsGenerate, IsCheck, IsReach, IsNewRoom, IsDrive, IsServe, IsStress, IsThin}
use Rattle.mw_words.specs.declared.command_line.CommandLine.{CommandLine}
use Rattle.mw_words.specs.declared.command_line.CommandLine.TheVariants.{Generate, Check, Reach, NewRoom, Drive, Serve, Stress, Thin}

-- the words ask for this
abbrev pub AsksFor : List (List ℕ) → CommandLine → Type 0
AsksFor words (Generate w) = IsGenerate words w
AsksFor words (Check w) = IsCheck words w
AsksFor words (Reach w) = IsReach words w.players
AsksFor words (NewRoom w) = IsNewRoom words w
AsksFor words (Drive w) = IsDrive words w
AsksFor words (Serve w) = IsServe words w
AsksFor words (Stress w) = IsStress words w
AsksFor words (Thin w) = IsThin words w

-- they ask for nothing
abbrev pub IsNoCommand : List (List ℕ) → Type 0
IsNoCommand words = (line : CommandLine) → AsksFor words line → ⊥

-- no words ask for two things
abbrev pub HasOneMeaning : Type 0
HasOneMeaning =
    (words : List (List ℕ)) (one other : CommandLine) → AsksFor words one → AsksFor words other
    → one ≡ other

-- how many tries there are is from 1 to 1,000
abbrev pub HasTries : CommandLine → Type 0
HasTries (Generate w) = (1 ≤ w.tries) × (w.tries ≤ 1000)
HasTries (Check w) = ⊤
HasTries (Reach w) = ⊤
HasTries (NewRoom w) = ⊤
HasTries (Drive w) = ⊤
HasTries (Serve w) = ⊤
HasTries (Stress w) = ⊤
HasTries (Thin w) = ⊤

-- how many workers there are is from 1 to 64, and how many connections are accepted, where it is said, from 1 to
-- 4,294,967,295; how many players there are is from 1 to 64
abbrev pub HasRanges : CommandLine → Type 0
HasRanges (Generate w) = ⊤
HasRanges (Check w) = ⊤
HasRanges (Reach w) = ⊤
HasRanges (NewRoom w) = ⊤
HasRanges (Drive w) = ⊤
HasRanges (Serve w) =
    ((1 ≤ w.workers) × (w.workers ≤ 64)) × IfSome w.accept (λ n. (1 ≤ n) × (n ≤ 4294967295))
HasRanges (Stress w) = (1 ≤ w.players) × (w.players ≤ 64)
HasRanges (Thin w) = ⊤
