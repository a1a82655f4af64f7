use Rattle.std.proofs.Common.{ap, sym, ◌∙◌}
use Rattle.std.specs.Prelude.{bytes_eq, not}
use Rattle.mw_tables.specs.PlayersOf.{has_name}
use Rattle.mw_tables.proofs.SeenNames.{any_of_borrowed}
use Rattle.mw_tables.proofs.player_names.Seen.note.Goals as goal

pub returns-clause-added : goal.returns-clause-added
returns-clause-added c =
    let name = c.args.name.now in
    c.in_ok-insert.ensures.added ∙ ap not (sym (any_of_borrowed (bytes_eq name) c.self.inside.names.keys) ∙ ap (λ ns. has_name ns name) c.self.view_is)
