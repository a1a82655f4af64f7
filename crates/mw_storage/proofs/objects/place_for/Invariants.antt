use Rattle.std.proofs.Common.{◌≡◌, take, drop}
use Rattle.mw_model.specs.Json.{Json}
use Rattle.mw_json.specs.View.{members_view}
use Rattle.mw_protocol.specs.Operations.{set_member}
use Rattle.mw_storage.specs.Places.{in_front}
use Rattle.mw_storage.proofs.objects.place_for.Given as goal

-- its place isn't among those that were passed
abbrev pub invariant-loop-i : goal.invariant-loop-i
invariant-loop-i l = (j : Json) → set_member l.name j (members_view l.members) ≡ in_front (take l.i l.members) (set_member l.name j (members_view (drop l.i l.members)))
