use Rattle.std.proofs.Common.{◌≡◌, map, take}
use Rattle.mw_json.specs.View.{member_view}
use Rattle.mw_packets_out.proofs.Writable.{sum_member}
use Rattle.mw_packets_out.proofs.room_info.checksums_tree.Given as goal

abbrev pub invariant-loop-game : goal.invariant-loop-game
invariant-loop-game l = map member_view l.sums ≡ map sum_member (take l.game-index l.games)
