use Rattle.std.specs.Io.KnownBytes.{Keeps}
use Rattle.mw_edges.proofs.reader.read_some.Given as goal

-- the reads so far took nothing
abbrev pub invariant-loop : goal.invariant-loop
invariant-loop g l = Keeps (g.R.Read.remaining l.initial.reader) (g.R.Read.remaining l.reader)
