use Rattle.std.proofs.Common.{◌≡◌, drop, map}
use Rattle.mw_json.specs.View.{member_view, members_view}
use Rattle.mw_protocol.specs.Further.{others}
use Rattle.mw_packets_in.specs.Own.{own_names}
use Rattle.mw_packets_in.proofs.Others.{ahead}
use Rattle.mw_packets_in.proofs.further.further_of.Given as goal

abbrev pub invariant-loop-member : goal.invariant-loop-member
invariant-loop-member l = ahead (map member_view l.found) (others (own_names l.row) (members_view (drop l.member-index l.members))) ≡ others (own_names l.row) (members_view l.members)
