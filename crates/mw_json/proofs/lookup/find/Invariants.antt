use Rattle.std.proofs.Common.{◌≡◌, drop}
use Rattle.mw_model.specs.Json.{find_member}
use Rattle.mw_json.specs.View.{members_view}
use Rattle.mw_json.proofs.lookup.find.Given as goal

-- it is the first of those that are left
abbrev pub invariant-loop-member : goal.invariant-loop-member
invariant-loop-member l = find_member l.name (members_view l.members) ≡ find_member l.name (members_view (drop l.member-index l.members))
