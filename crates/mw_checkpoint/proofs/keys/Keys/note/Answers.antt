use Rattle.std.proofs.Common.{ap, map, sym, ◌∙◌}
use Rattle.std.specs.Prelude.{bytes_eq, not}
use Rattle.mw_checkpoint.specs.Keys.{has_key, with_key}
use Rattle.mw_checkpoint.proofs.MetKeys.{any_of_borrowed, borrowed_with}
use Rattle.mw_checkpoint.proofs.keys.Keys.note.Goals as goal

pub returns-clause-added : goal.returns-clause-added
returns-clause-added c =
    let name = c.args.key.now in
    c.in_ok-insert.ensures.added ∙ ap not (sym (any_of_borrowed (bytes_eq name) c.self.inside.names.keys) ∙ ap (λ ns. has_key ns name) c.self.view_is)

pub returns-clause-grown : goal.returns-clause-grown
returns-clause-grown c =
    let name = c.args.key.now in
    ap (map (λ k. k.now)) c.in_ok-insert.ensures.keys ∙ borrowed_with c.self.inside.names.keys c.args.key ∙ ap (λ ns. with_key ns name) c.self.view_is
