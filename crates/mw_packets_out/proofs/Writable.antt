-- Trees that can be written, one after another.
use Rattle.std.proofs.Common.{◌≡◌, ℕ, List, [], ◌∷◌, ◌++◌, map, refl, ap, append-nil}
use Rattle.mw_model.specs.Json.{Json, words, member, MembersAreWritable}
use Rattle.mw_protocol.specs.Messages.{ServerPacket, GameSum, checksum_members, message_text}
use Rattle.mw_json.specs.View.{members_of}

pub nothing_more : (ps : List ServerPacket) → message_text (ps ++ []) ≡ message_text ps
nothing_more ps = ap message_text (append-nil ps)

-- a checksum under its game's name
abbrev pub sum_member : GameSum → List ℕ × Json
sum_member g = (g.game, words g.checksum)

pub same_checksums : (gs : List GameSum) → members_of (map sum_member gs) ≡ checksum_members gs
same_checksums [] = refl
same_checksums (g ∷ gs) = ap (member g.game (words g.checksum)) (same_checksums gs)

pub checksums : (gs : List GameSum) → MembersAreWritable (checksum_members gs)
checksums [] = tt
checksums (g ∷ gs) = (tt, checksums gs)
