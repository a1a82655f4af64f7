use Rattle.std.proofs.Common.{◌≡◌, Result, drop, map}
use Rattle.mw_json.specs.View.{items_view}
use Rattle.mw_model.specs.Json.{Json}
use Rattle.mw_json.specs.Grammar.{Breach}
use Rattle.mw_json.specs.Readers.{SeesEach, each_from}
use Rattle.mw_json.proofs.Fronts.{with_front}
use Rattle.mw_json.proofs.seen_lists.each_seen.Given as goal

abbrev pub invariant-loop-i : goal.invariant-loop-i
invariant-loop-i g l = (at : Json → Result g.T.Seen.Plain Breach) → SeesEach g.F.Fn l.read g.T.Seen.seen at → with_front (map g.T.Seen.seen l.found) (each_from at l.i (items_view (drop l.i l.items))) ≡ each_from at 0 (items_view l.items)
