use Rattle.std.proofs.Common.{map, ap, ◌∙◌}
use Rattle.mw_hints.specs.Book.{hint_of}
use Rattle.mw_hints.proofs.Keys.{hint_last}
use Rattle.mw_hints.proofs.kept.insert.Goals as goal

pub returns-clause-entries : goal.returns-clause-entries
returns-clause-entries c =
    ap (map hint_of) (rw c.unwrap-old.ensures at c.insert.ensures.entries) ∙ hint_last c.args.key c.args.kept c.args.hints.now.entries c.requires.absent
