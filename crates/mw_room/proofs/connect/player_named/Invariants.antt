use Rattle.std.proofs.Common.{◌≡◌, ◌+◌, drop}
use Rattle.std.specs.List.{All}
use Rattle.mw_protocol.specs.Connecting.{player_among}
use Rattle.mw_effects.specs.Playable.{HasFewNames}
use Rattle.mw_room.proofs.connect.player_named.Given as goal

abbrev pub invariant-loop-before : goal.invariant-loop-before
invariant-loop-before l = (player_among l.name 1 l.slots ≡ player_among l.name (l.before + 1) (drop l.before l.slots)) × All HasFewNames (drop l.before l.slots)
