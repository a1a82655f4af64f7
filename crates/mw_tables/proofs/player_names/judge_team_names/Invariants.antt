use Rattle.std.proofs.Common.{◌≡◌, ◌++◌, take, drop}
use Rattle.mw_tables.specs.PlayersOf.{names_differ}
use Rattle.mw_tables.proofs.player_names.judge_team_names.Given as goal

abbrev pub invariant-loop-i : goal.invariant-loop-i
invariant-loop-i l =
    (names_differ l.seen l.i (drop l.i l.names) ≡ names_differ l.initial.seen 0 l.names)
    × (l.seen ≡ l.initial.seen ++ take l.i l.names)
