use Rattle.std.proofs.Common.{◌≡◌, take, drop}
use Rattle.mw_json.specs.View.{members_view}
use Rattle.mw_protocol.specs.Operations.{without_member}
use Rattle.mw_storage.specs.Places.{in_front}
use Rattle.mw_storage.proofs.objects.place_of.Given as goal

-- none of those that were passed has the name
abbrev pub invariant-loop-i : goal.invariant-loop-i
invariant-loop-i l = without_member l.name (members_view l.members) ≡ in_front (take l.i l.members) (without_member l.name (members_view (drop l.i l.members)))
