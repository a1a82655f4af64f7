use Rattle.std.proofs.Common.{List, ℕ, Bool, true, false, Option, ap, ◌∙◌}
use Rattle.std.specs.Prelude.{unwrap_or}
use Rattle.mw_edges.specs.Files.{entry_of, with_entry}
use Rattle.mw_edges.proofs.Replaced.{others_there}
use Rattle.mw_edges.proofs.system.SystemFolder.open_named.Goals as goal

pub returns-in-Ok-put_entry-clause-others : goal.returns-in-Ok-put_entry-clause-others
returns-in-Ok-put_entry-clause-others g c n other =
    let marks : List (List ℕ × Bool) = c.args.self.now.opened.items in
    let now = c.in-Ok-put_entry.ensures.ok ∙ ap (λ (m : List ℕ). with_entry marks m true) c.in-Ok-of.ensures in
    ap (λ (l : List (List ℕ × Bool)). unwrap_or (entry_of l n) false) now
    ∙ ap (λ (o : Option Bool). unwrap_or o false) (others_there marks c.args.name.now true n other)
