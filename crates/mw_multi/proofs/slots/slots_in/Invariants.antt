use Rattle.std.proofs.Common.{◌≡◌, ◌+◌, ◌*◌, ◌≤◌, drop, length}
use Rattle.std.specs.Prelude.{All}
use Rattle.mw_multi.specs.Files.{world_named}
use Rattle.mw_multi.specs.Joint.{AreNumbered, SlotKept, place_total, item_total}
use Rattle.mw_multi.specs.Links.{HasWholePool}
use Rattle.mw_multi.specs.JointOf.{slots_from}
use Rattle.mw_multi.proofs.Fronts.{with_front}
use Rattle.mw_multi.proofs.slots.slots_in.Given as goal

abbrev pub invariant-loop-i : goal.invariant-loop-i
invariant-loop-i l = record {
  slots : with_front l.slots (slots_from (world_named l.files l.names) (l.i + 1) l.place l.item (drop l.i l.players)) ≡ slots_from (world_named l.files l.names) 1 0 0 l.players;
  kept : All SlotKept l.slots;
  whole : All HasWholePool l.slots;
  numbered : AreNumbered 0 0 l.slots;
  places : l.place ≡ place_total l.slots;
  items : l.item ≡ item_total l.slots;
  few_places : l.place ≤ 15000 * l.i;
  few_items : l.item ≤ 10000 * l.i;
  many : length l.slots ≡ l.i;
}
