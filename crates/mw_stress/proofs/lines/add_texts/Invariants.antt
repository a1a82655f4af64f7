use Rattle.std.proofs.Common.{◌≡◌, ◌++◌, drop, flat_map}
use Rattle.mw_stress.specs.Received.{received_in}
use Rattle.mw_stress.proofs.lines.add_texts.Given as goal

-- those so far and those of the rest are all
abbrev pub invariant-loop-text : goal.invariant-loop-text
invariant-loop-text l = l.found ++ flat_map received_in (drop l.text-index l.texts) ≡ l.fn.found ++ flat_map received_in l.texts
