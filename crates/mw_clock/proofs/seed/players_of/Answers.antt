use Rattle.std.proofs.Common.{codes, refl}
use Rattle.std.specs.Str.{chars}
use Rattle.mw_clock.specs.Words.{IsFileName}
use Rattle.mw_clock.proofs.OnePlayer.{players_so}
use Rattle.mw_clock.proofs.seed.players_of.Goals as goal

named : IsFileName (codes "clockwork.json")
unfolding chars
named = refl

pub invariant_of-result : goal.invariant_of-result
invariant_of-result c = players_so (codes "clockwork.json") c.in_ok-room.room c.in_ok-players.players c.new.result named c.in_ok-room.ensures c.in_ok-players.ensures c.new.ensures
