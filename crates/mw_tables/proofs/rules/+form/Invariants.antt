use Rattle.std.proofs.Common.{◌≡◌, drop, map}
use Rattle.mw_json.specs.View.{items_view, members_view}
use Rattle.mw_tables.specs.RawView.{raw_view}
use Rattle.mw_tables.specs.RuleShape.{rules_under, rules_from}
use Rattle.mw_json.proofs.Fronts.{with_front}
use Rattle.mw_tables.proofs.rules.+form.Given as goal

-- it is the first of those that are left
abbrev pub invariant-rules_under-loop-member : goal.invariant-rules_under-loop-member
invariant-rules_under-loop-member l = rules_under l.name (members_view l.members) ≡ rules_under l.name (members_view (drop l.member-index l.members))

abbrev pub invariant-rules_in-loop-i : goal.invariant-rules_in-loop-i
invariant-rules_in-loop-i l = with_front (map raw_view l.rules) (rules_from l.i (items_view (drop l.i l.items))) ≡ rules_from 0 (items_view l.items)
