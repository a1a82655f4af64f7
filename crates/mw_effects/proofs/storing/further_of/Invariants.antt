use Rattle.std.proofs.Common.{◌≡◌, drop, map}
use Rattle.mw_json.specs.View.{member_view, members_view}
use Rattle.mw_protocol.specs.Further.{others}
use Rattle.mw_protocol.specs.Storing.{reply_names}
use Rattle.mw_packets_in.proofs.Others.{ahead}
use Rattle.mw_effects.proofs.storing.further_of.Given as goal

abbrev pub invariant-loop-member : goal.invariant-loop-member
invariant-loop-member l =
    ahead (map member_view l.found) (others reply_names (members_view (drop l.member-index l.further))) ≡ others reply_names (members_view l.further)
