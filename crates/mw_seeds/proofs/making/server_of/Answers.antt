use Rattle.std.proofs.Common.{◌≤◌, ◌∙◌, length, sym, subst}
use Rattle.std.specs.Prelude.{chars}
use Rattle.mw_multi.specs.PlayersKept.{RoomKept}
use Rattle.mw_seeds.proofs.SeedMade.{permission_is, remaining_is}
use Rattle.mw_seeds.proofs.making.server_of.Goals as goal

pub returns-clause-kept : goal.returns-clause-kept
returns-clause-kept c =
    let room = subst RoomKept (sym c.room.view_is) c.players.invariant.room in
    record {
      password = subst (λ p. length (chars p) ≤ 128) (sym (c.in_ok-password.ensures ∙ c.as_str.ensures)) room.password;
      hint_cost = room.hint_cost;
      points = room.location_check_points;
      release = permission_is c.room.inside.release;
      collect = permission_is c.room.inside.collect;
      remaining = remaining_is _ room.remaining;
    }
