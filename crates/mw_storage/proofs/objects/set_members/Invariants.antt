use Rattle.std.proofs.Common.{◌≡◌, drop}
use Rattle.mw_json.specs.View.{members_view}
use Rattle.mw_protocol.specs.Operations.{set_members}
use Rattle.mw_storage.proofs.objects.set_members.Given as goal

-- what is left to set makes the whole of it
abbrev pub invariant-loop-member : goal.invariant-loop-member
invariant-loop-member l = set_members (members_view l.members) (members_view (drop l.member-index l.more)) ≡ set_members (members_view l.initial.members) (members_view l.more)
