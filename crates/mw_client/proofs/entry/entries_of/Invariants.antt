use Rattle.std.proofs.Common.{◌≡◌, ◌++◌, ◌+◌, ◌*◌, length}
use Rattle.std.specs.List.{flat_map, AllByRecursion}
use Rattle.mw_client.specs.Bodies.{IsEntry, entry_bytes}
use Rattle.mw_client.proofs.entry.entries_of.Given as goal

-- the entries so far, and the bytes of the others
abbrev pub invariant-loop : goal.invariant-loop
invariant-loop l = record {
  bytes : flat_map entry_bytes l.entries.items ++ l.rest ≡ l.fn.bytes;
  count : length l.entries.items ≡ l.counter;
  left : length l.rest + 19 * l.counter ≡ 19 * l.count;
  are : AllByRecursion IsEntry l.entries.items;
}
