use Rattle.std.proofs.Common.{◌≡◌, ◌++◌, map, take}
use Rattle.mw_json.specs.View.{member_view}
use Rattle.mw_packets_out.proofs.placing.put_copies.Given as goal

abbrev pub invariant-loop-member : goal.invariant-loop-member
invariant-loop-member l = map member_view l.members ≡ map member_view l.initial.members ++ map member_view (take l.member-index l.given)
