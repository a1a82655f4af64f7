use Rattle.std.proofs.Common.{◌≡◌, ◌++◌, drop}
use Rattle.mw_protocol.specs.Hints.{told_hints}
use Rattle.mw_hints.proofs.book.HintBook.list.Given as goal

-- what is told, and what is told of the hints that are left
abbrev pub invariant-loop-at : goal.invariant-loop-at
invariant-loop-at g l =
    l.told ++ told_hints (g.C.Checks.seed l.log) (g.C.Checks.is_found l.log) l.team l.slot (drop l.at l.self.hints)
    ≡ told_hints (g.C.Checks.seed l.log) (g.C.Checks.is_found l.log) l.team l.slot l.self.hints
