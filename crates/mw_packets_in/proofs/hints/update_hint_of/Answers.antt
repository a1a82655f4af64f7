use Rattle.std.proofs.Common.{ℤ, rules, codes, refl, subst, sym, to_z, of_z, SFits, to_z-of_z}
use Rattle.std.specs.Int.{w128}
use Rattle.mw_model.specs.Json.{IsInRange}
use Rattle.mw_json.specs.View.{members_view}
use Rattle.mw_packets_in.specs.Fields.{hint_status_at, whole_at}
use Rattle.mw_packets_in.proofs.Kept.{hint_status_kept}
use Rattle.mw_packets_in.proofs.Ranges.{whole_kept}
use Rattle.mw_packets_in.proofs.hints.update_hint_of.Goals as goal

-- a number that fits its type is in the packet as it was read
put_in : (z : ℤ) → SFits w128 z → IsInRange z → IsInRange (to_z w128 (of_z w128 z))
put_in z fits h = subst IsInRange (sym (to_z-of_z fits)) h

pub invariant_of-result : goal.invariant_of-result
invariant_of-result c =
    let ms = members_view c.args.members.now in
    let player : SFits w128 c.in_ok-player.player = search rules in
    let location : SFits w128 c.in_ok-location.location = search rules in
    record {
      player = put_in _ player (whole_kept (codes "player") c.in_ok-player.player ms c.requires (c.in_ok-player.ensures whole_at (codes "player") refl (search rules)));
      location = put_in _ location (whole_kept (codes "location") c.in_ok-location.location ms c.requires (c.in_ok-location.ensures whole_at (codes "location") refl (search rules)));
      status = hint_status_kept c.in_ok-status.status ms (c.in_ok-status.ensures hint_status_at (codes "status") refl (search rules));
    }
