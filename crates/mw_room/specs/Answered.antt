-- Texts that are answered by a print, and record nothing.
use Rattle.std.specs.Prelude.{◌∷◌, []}
use Rattle.mw_protocol.specs.Sayings as said

abbrev pub IsAnswered : said.Said → Type 0
IsAnswered (said.chat text) = Unit {0}
IsAnswered said.help = Unit {0}
IsAnswered said.players = Unit {0}
IsAnswered said.missing = Unit {0}
IsAnswered said.checked = Unit {0}
IsAnswered said.remaining = Unit {0}
IsAnswered said.release = ⊥
IsAnswered said.collect = ⊥
IsAnswered (said.hint []) = Unit {0}
IsAnswered (said.hint (c ∷ cs)) = ⊥
IsAnswered (said.hint_location name) = ⊥
IsAnswered said.unknown_command = Unit {0}
