use Rattle.std.proofs.Common.{map, sym, ap, ◌∙◌}
use Rattle.mw_hints.specs.Book.{hint_of}
use Rattle.mw_hints.proofs.Keys.{hint_marked, none_marked}
use Rattle.mw_hints.proofs.kept.mark.Goals as goal

pub returns-in-Some-clause-entries : goal.returns-in-Some-clause-entries
returns-in-Some-clause-entries c =
    ap (map hint_of) (rw c.unwrap-old.ensures at c.insert.ensures.entries) ∙ hint_marked c.args.key c.in-Some.old c.args.status c.args.hints.now.entries c.in-Some.ensures

pub returns-in_default-clause-entries : goal.returns-in_default-clause-entries
returns-in_default-clause-entries c =
    sym (none_marked (map hint_of c.args.hints.now.entries) c.args.key.0 c.args.key.1 c.args.key.2 c.args.status (sym c.in_default.ensures))
