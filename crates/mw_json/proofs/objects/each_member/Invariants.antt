use Rattle.std.proofs.Common.{◌≡◌, ℕ, List, Result, drop}
use Rattle.mw_json.specs.View.{members_view}
use Rattle.mw_model.specs.Json.{Json}
use Rattle.mw_json.specs.Grammar.{Breach}
use Rattle.mw_json.specs.Readers.{ReadsNamed, each_member_at}
use Rattle.mw_json.proofs.Fronts.{with_front}
use Rattle.mw_json.proofs.objects.each_member.Given as goal

abbrev pub invariant-loop-member : goal.invariant-loop-member
invariant-loop-member g l = (at : List ℕ → Json → Result g.row.T.Denot Breach) → ReadsNamed g.F.Fn l.read at → with_front l.found (each_member_at at (members_view (drop l.member-index l.members))) ≡ each_member_at at (members_view l.members)
