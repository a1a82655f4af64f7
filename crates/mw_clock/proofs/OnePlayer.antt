-- The players file of `Clockwork` is accepted, and stands for its player.
use Rattle.std.proofs.Common.{◌≡◌, ℕ, List, [], Ok, refl, sym, subst}
use Rattle.std.specs.Str.{chars}
use Rattle.mw_json.specs.Grammar.{name_at, list_up_to, field_at}
use Rattle.mw_json.specs.Parts.{list_of_length}
use Rattle.mw_json.specs.Readers.{field_or_at}
use Rattle.mw_json.specs.Valid.{IsValid}
use Rattle.mw_model.specs.Seed.{RoomOptions}
use Rattle.mw_multi.specs.Players.{Player, ItemLink}
use Rattle.mw_multi.specs.PlayersKept.{IsPlayers}
use Rattle.mw_tables.specs.PlayersShape.{form_at, team_names_at, player_at, player_list_at, players_shape_at}
use Rattle.mw_tables.specs.PlayersOf.{all_named, players_at}
use Rattle.mw_tables.proofs.PlayersAccepted.{is_players}
use Rattle.mw_clock.specs.Clockwork.{players}
use Rattle.mw_clock.specs.Tables.{players_json}
use Rattle.mw_clock.specs.Words.{IsFileName}

shaped : (file : List ℕ) → IsFileName file → players_shape_at (players_json file) ≡ Ok (players file)
unfolding players_shape_at player_list_at player_at team_names_at form_at name_at list_up_to list_of_length field_at field_or_at chars
shaped file named = rw named refl

differ : (file : List ℕ) → all_named (players file) ≡ Ok tt
unfolding all_named
differ file = refl

pub players_accepted : (file : List ℕ) → IsFileName file → players_at (players_json file) ≡ Ok (players file)
unfolding players_at
players_accepted file named = rw (shaped file named, differ file) refl

valid : (file : List ℕ) → IsValid (players_json file)
valid file = (tt, (refl, tt), (((((tt, tt), (refl, tt), (tt, tt, tt))), tt), tt, tt))

-- what is accepted is a players file
pub are_players : (file : List ℕ) → IsFileName file → IsPlayers (players file)
are_players file named = is_players (players_json file) (players file) tt (valid file) (shaped file named) (differ file)

-- a room, a list of players and no links that are those of a players file make one
pub players_so : (file : List ℕ) (room : RoomOptions) (list : List Player) (links : List ItemLink) → IsFileName file → room ≡ (players file).room → list ≡ (players file).players → links ≡ []
    → IsPlayers record { teams = 1; room = room; players = list; links = links }
players_so file room list links named room_is list_is links_are =
    subst (λ (r : RoomOptions). IsPlayers record { teams = 1; room = r; players = list; links = links }) (sym room_is)
    (subst (λ (ps : List Player). IsPlayers record { teams = 1; room = (players file).room; players = ps; links = links }) (sym list_is)
    (subst (λ (ls : List ItemLink). IsPlayers record { teams = 1; room = (players file).room; players = (players file).players; links = ls }) (sym links_are) (are_players file named)))
