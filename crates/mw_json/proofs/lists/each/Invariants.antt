use Rattle.std.proofs.Common.{◌≡◌, Result, drop}
use Rattle.mw_json.specs.View.{items_view}
use Rattle.mw_model.specs.Json.{Json}
use Rattle.mw_json.specs.Grammar.{Breach}
use Rattle.mw_json.specs.Readers.{ReadsEach, each_from}
use Rattle.mw_json.proofs.Fronts.{with_front}
use Rattle.mw_json.proofs.lists.each.Given as goal

abbrev pub invariant-loop-i : goal.invariant-loop-i
invariant-loop-i g l = (at : Json → Result g.row.T.Denot Breach) → ReadsEach g.F.Fn l.read at → with_front l.found (each_from at l.i (items_view (drop l.i l.items))) ≡ each_from at 0 (items_view l.items)
