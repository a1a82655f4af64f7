use Rattle.std.proofs.Common.{◌≡◌, ◌++◌, take, drop}
use Rattle.mw_tables.specs.PlayersOf.{players_named, names_of_players}
use Rattle.mw_tables.proofs.player_names.judge_players.Given as goal

abbrev pub invariant-loop-i : goal.invariant-loop-i
invariant-loop-i l =
    (players_named l.seen l.i (drop l.i l.players) ≡ players_named l.initial.seen 0 l.players)
    × (l.seen ≡ l.initial.seen ++ names_of_players (take l.i l.players))
