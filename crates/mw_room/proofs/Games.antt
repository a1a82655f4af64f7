-- The games that are played ascend, as the seed's games do.
use Rattle.std.proofs.Common.{ℕ, List, [], ◌∷◌, Bool, true, false, map}
use Rattle.std.specs.Prelude.{if◌then◌else◌}
use Rattle.std.specs.Ordering.{nat_cmp}
use Rattle.std.specs.Cmp.Lexicographic.{slice_cmp}
use Rattle.mw_model.specs.Json.{ComeAfter, MembersAreOrdered}
use Rattle.mw_model.specs.Seed.{Slot, Game}
use Rattle.mw_model.specs.Games.{checksum_of}
use Rattle.mw_protocol.specs.Messages.{GameSum, checksum_members}
use Rattle.mw_protocol.specs.Players.{plays, games_played}
use Rattle.mw_model.specs.Ascending.{ComesBefore, NamesAscend}
use Rattle.mw_multidata.specs.SeedKept.{game_name}
use Rattle.mw_packets_out.specs.Room.{GamesAscend}

-- what a game adds where it is played
abbrev with_game : List GameSum → Game → Bool → List GameSum
with_game sums g played = if played then record { game = g.name; checksum = checksum_of g } ∷ sums else sums

after_played : (k : List ℕ) (slots : List Slot) (games : List Game) → ComesBefore (slice_cmp nat_cmp) k (map game_name games) → ComeAfter k (checksum_members (games_played slots games))
after_played k slots [] h = tt
after_played k slots (g ∷ gs) h =
    let rest = after_played k slots gs h.1 in
    let P : Bool → Type 0 = λ b. ComeAfter k (checksum_members (with_game (games_played slots gs) g b)) in
    elim (plays slots g.name) as P [ true ↦ (h.0, rest) | false ↦ rest ]

pub played_ascend : (slots : List Slot) (games : List Game) → NamesAscend (map game_name games) → GamesAscend (games_played slots games)
played_ascend slots [] h = tt
played_ascend slots (g ∷ gs) h =
    let rest = played_ascend slots gs h.1 in
    let P : Bool → Type 0 = λ b. MembersAreOrdered (checksum_members (with_game (games_played slots gs) g b)) in
    elim (plays slots g.name) as P [ true ↦ (tt, after_played g.name slots gs h.0, rest) | false ↦ rest ]
