use Rattle.std.proofs.Common.{◌≡◌, ◌-◌, length}
use Rattle.mw_records.specs.Reading.{each_location}
use Rattle.mw_records.proofs.Loop.{with_front}
use Rattle.mw_records.proofs.parts.each_of.Given as goal

-- what was read, before what is still read, is all that there is
abbrev pub invariant-loop : goal.invariant-loop
invariant-loop l = record {
  so_far : with_front l.locations (each_location (l.count - l.counter) l.bytes.now) ≡ each_location l.count l.fn.bytes.now;
  number : length l.locations ≡ l.counter;
}
