use Rattle.std.proofs.Common.{◌≡◌, [], drop}
use Rattle.mw_multi.specs.Files.{files_with}
use Rattle.mw_multi.proofs.players.Players.world_files.Given as goal

abbrev pub invariant-loop-player : goal.invariant-loop-player
invariant-loop-player l = files_with l.files (drop l.player-index l.player-items) ≡ files_with [] l.fn.self.players
