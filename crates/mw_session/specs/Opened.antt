-- Which sessions a history of calls opened.
use Rattle.std.specs.Prelude.{◌≡◌, ℕ, ◌+◌, List, [], ◌∷◌}
use Rattle.mw_keep.specs.declared.call.Call.{Call}
use Rattle.mw_keep.specs.declared.reply.Reply.{Reply}
use Rattle.mw_keep.specs.declared.reply.Reply.TheVariants.{Opened, Done, Messages, Gone, Overrun, Stopped, Memory}

-- how many sessions a reply opened
abbrev pub opened_by : Reply → ℕ
opened_by (Opened session) = 1
opened_by Done = 0
opened_by (Messages texts) = 0
opened_by Gone = 0
opened_by Overrun = 0
opened_by (Stopped cause) = 0
opened_by Memory = 0

-- how many sessions these calls opened
abbrev pub opens : List (Call × Reply) → ℕ
opens [] = 0
opens (x ∷ xs) = opened_by x.1 + opens xs

-- a session that is opened has the next number
abbrev pub FitsAfter : ℕ → Reply → Type 0
FitsAfter before (Opened session) = session ≡ before + 1
FitsAfter before Done = Unit {0}
FitsAfter before (Messages texts) = Unit {0}
FitsAfter before Gone = Unit {0}
FitsAfter before Overrun = Unit {0}
FitsAfter before (Stopped cause) = Unit {0}
FitsAfter before Memory = Unit {0}

abbrev pub Fits : List (Call × Reply) → Call → Reply → Type 0
Fits past call reply = FitsAfter (opens past) reply
