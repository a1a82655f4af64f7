use Rattle.std.proofs.Common.{subst, sym}
use Rattle.mw_packets_out.specs.Room.{GamesAscend}
use Rattle.mw_room_rows.proofs.server_packets.room_info.Goals as goal

pub invariant_of-result : goal.invariant_of-result
invariant_of-result c = subst GamesAscend (sym c.in_ok-list.ensures) (tt, tt, tt)
