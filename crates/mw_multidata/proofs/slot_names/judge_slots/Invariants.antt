use Rattle.std.proofs.Common.{◌≡◌, take, drop, []}
use Rattle.mw_multidata.specs.Names.{slots_named}
use Rattle.mw_json.proofs.Fronts.{with_front}
use Rattle.mw_multidata.proofs.slot_names.judge_slots.Given as goal

abbrev pub invariant-loop-i : goal.invariant-loop-i
invariant-loop-i l = with_front l.played (slots_named l.catalogs (take l.i l.slots) l.i (drop l.i l.slots)) ≡ slots_named l.catalogs [] 0 l.slots
