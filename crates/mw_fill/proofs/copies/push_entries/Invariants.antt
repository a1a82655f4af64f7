use Rattle.std.proofs.Common.{◌≡◌, ◌++◌, take}
use Rattle.std.specs.Prelude.{flat_map}
use Rattle.mw_fill.specs.Copies.{shared_copies}
use Rattle.mw_fill.proofs.copies.push_entries.Given as goal

abbrev pub invariant-loop-entry : goal.invariant-loop-entry
invariant-loop-entry l = l.copies ≡ l.fn.copies ++ flat_map (shared_copies l.group l.items l.number) (take l.entry-index l.entries)
