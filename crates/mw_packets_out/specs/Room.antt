-- The order of RoomInfo's games.
use Rattle.std.specs.Prelude.{List}
use Rattle.mw_model.specs.Json.{MembersAreOrdered}
use Rattle.mw_protocol.specs.Messages.{GameSum, checksum_members}

-- the games ascend strictly in byte order of their names, as the members of an object do
abbrev pub GamesAscend : List GameSum → Type 0
GamesAscend games = MembersAreOrdered (checksum_members games)
