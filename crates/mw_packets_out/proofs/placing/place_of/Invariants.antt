use Rattle.std.proofs.Common.{◌≡◌, ◌+◌, drop}
use Rattle.mw_json.specs.View.{members_view}
use Rattle.mw_packets_out.specs.Places.{place_in}
use Rattle.mw_packets_out.proofs.placing.place_of.Given as goal

-- it isn't among those that are done
abbrev pub invariant-loop-i : goal.invariant-loop-i
invariant-loop-i l = place_in l.name (members_view l.members) ≡ l.i + place_in l.name (members_view (drop l.i l.members))
