-- What a saying and a piece of a print mean.
use Rattle.mw_protocol.specs.Sayings as plain
use Rattle.mw_protocol.specs.Prints as prints
use Rattle.mw_chat.specs.declared.parts.Piece as code
use Rattle.mw_chat.specs.declared.parts.Piece.TheVariants.{Item, Location, Player, Text}
use Rattle.mw_chat.specs.declared.say.Said.{Said}
use Rattle.mw_chat.specs.declared.say.Said.TheVariants.{Chat, Help, Players, Missing, Checked, Remaining, Release, Collect, Hint, HintLocation, UnknownCommand}

abbrev pub said_view : Said → plain.Said
said_view (Chat text) = plain.chat text
said_view Help = plain.help
said_view Players = plain.players
said_view Missing = plain.missing
said_view Checked = plain.checked
said_view Remaining = plain.remaining
said_view Release = plain.release
said_view Collect = plain.collect
said_view (Hint name) = plain.hint name
said_view (HintLocation name) = plain.hint_location name
said_view UnknownCommand = plain.unknown_command

abbrev pub piece_view : code.Piece → prints.Part
piece_view (Text text) = prints.text text.now
piece_view (Player slot) = prints.player slot
piece_view (Item id receiver flags) = prints.item id receiver flags
piece_view (Location id finder) = prints.location id finder
