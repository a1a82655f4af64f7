use Rattle.std.proofs.Common.{◌≤◌, length, take}
use Rattle.std.specs.Io.KnownBytes.{Appends}
use Rattle.mw_edges.proofs.writer.write_whole.Given as goal

-- the bytes before the place were put
abbrev pub invariant-loop : goal.invariant-loop
invariant-loop g l = record {
  within : l.at ≤ length l.bytes;
  put : Appends (g.W.Write.contents l.initial.writer) (g.W.Write.contents l.writer) (take l.at l.bytes);
}
