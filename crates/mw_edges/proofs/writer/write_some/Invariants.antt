use Rattle.std.specs.Io.KnownBytes.{Keeps}
use Rattle.mw_edges.proofs.writer.write_some.Given as goal

-- the writes so far put nothing
abbrev pub invariant-loop : goal.invariant-loop
invariant-loop g l = Keeps (g.W.Write.contents l.initial.writer) (g.W.Write.contents l.writer)
