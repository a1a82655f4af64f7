use Rattle.mw_stress.proofs.Crowd.{players_so}
use Rattle.mw_stress.proofs.players.stress_players.Goals as goal

pub invariant_of-result : goal.invariant_of-result
invariant_of-result c = players_so c.args.many c.in_ok-room.room c.in_ok-players.players c.new.result c.requires c.in_ok-room.ensures c.in_ok-players.ensures c.new.ensures
