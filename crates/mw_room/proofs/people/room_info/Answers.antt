use Rattle.std.proofs.Common.{sym, ◌∙◌, subst}
use Rattle.mw_multidata.specs.SeedKept.{IsSeed}
use Rattle.mw_packets_out.specs.Room.{GamesAscend}
use Rattle.mw_room.proofs.Games.{played_ascend}
use Rattle.mw_room.proofs.people.room_info.Goals as goal

pub invariant_of-result : goal.invariant_of-result
invariant_of-result c =
    let seed = c.args.seed.now in
    let kept : IsSeed seed = subst IsSeed c.seed.view_is c.seed.invariant in
    subst GamesAscend (sym (c.in_ok-games.ensures ∙ c.requires)) (played_ascend seed.slots seed.games kept.games.ascend)
