-- The statuses of `multiplay`, and their lines.
use Rattle.std.specs.Prelude.{ℕ, List, [], codes}
use Rattle.mw_play.specs.declared.end.PlayEnd.{PlayEnd}
use Rattle.mw_play.specs.declared.end.PlayEnd.TheVariants.{Ended, TurnedAway, EndedEarly, Spent, BadWords, Fault, Memory, Refused, Full}
use Rattle.mw_play.specs.declared.save_error.SaveRefusal.{SaveRefusal}
use Rattle.mw_play.specs.declared.save_error.SaveRefusal.TheVariants.{NotJournal, OtherSeed, BadBody}

abbrev pub end_status : PlayEnd → ℕ
end_status Ended = 0
end_status (TurnedAway line) = 1
end_status EndedEarly = 1
end_status BadWords = 2
end_status Fault = 5
end_status Memory = 6
end_status (Refused refusal) = 7
end_status Full = 8
end_status Spent = 9

abbrev pub save_line : SaveRefusal → List ℕ
save_line NotJournal = codes "save refused: NotJournal\n"
save_line OtherSeed = codes "save refused: OtherSeed\n"
save_line BadBody = codes "save refused: BadBody\n"

-- the line on the error sink
abbrev pub end_line : PlayEnd → List ℕ
end_line Ended = []
end_line (TurnedAway line) = line
end_line EndedEarly = codes "ended early\n"
end_line BadWords = codes "bad words\n"
end_line Fault = codes "device failed\n"
end_line Memory = codes "no memory\n"
end_line (Refused refusal) = save_line refusal
end_line Full = codes "save full\n"
end_line Spent = codes "turns spent\n"
