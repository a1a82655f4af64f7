use Rattle.std.proofs.Common.{◌≡◌, drop}
use Rattle.mw_protocol.specs.Hints.{first_where}
use Rattle.mw_hints.specs.Opening.{opens}
use Rattle.mw_hints.proofs.book.HintBook.first_open.Given as goal

-- it is the first of those that are left
abbrev pub invariant-loop-held : goal.invariant-loop-held
invariant-loop-held g l =
    first_where (opens (g.C.Checks.seed l.log) (g.C.Checks.is_found l.log) l.self.hints l.team l.slot l.item) l.held-items
    ≡ first_where (opens (g.C.Checks.seed l.log) (g.C.Checks.is_found l.log) l.self.hints l.team l.slot l.item) (drop l.held-index l.held-items)
