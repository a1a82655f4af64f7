use Rattle.std.specs.Io.KnownBytes.{Keeps}
use Rattle.mw_edges.proofs.writer.flush_whole.Given as goal

-- the flushes so far changed nothing
abbrev pub invariant-loop : goal.invariant-loop
invariant-loop g l = Keeps (g.W.Write.contents l.initial.writer) (g.W.Write.contents l.writer)
