use Rattle.std.proofs.Common.{◌≡◌, ◌++◌, take}
use Rattle.std.specs.List.{flat_map, AllByRecursion}
use Rattle.mw_client.specs.Bodies.{IsEntry, entry_bytes}
use Rattle.mw_client.proofs.entry.put_entries.Given as goal

-- the entries so far
abbrev pub invariant-loop-entry : goal.invariant-loop-entry
invariant-loop-entry l = record {
  bytes : l.out.items ≡ l.fn.out.items ++ flat_map entry_bytes (take l.entry-index l.entries);
  are : AllByRecursion IsEntry (take l.entry-index l.entries);
}
