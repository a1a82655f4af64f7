use Rattle.std.proofs.Common.{◌+◌, refl}
use Rattle.std.specs.Prelude.{nat_eq}
use Rattle.mw_reach.specs.Reach.{one_if, times_in}
use Rattle.mw_reach.specs.Tables.{shifted, but_at}
use Rattle.mw_reach.proofs.Noting.{one_noted, both_noted}
use Rattle.mw_reach.proofs.watch.note_start.Goals as goal

pub returns : goal.returns
returns c =
    let start = c.args.start in
    let more = but_at start (λ j. times_in j (shifted c.args.first c.args.places.now)) in
    both_noted c.args.table.now c.note.new.self c.note_places.new.table c.args.number (λ k. one_if (nat_eq start k)) more (λ k. one_if (nat_eq start k) + more k) (λ k. refl)
    (rw c.in_ok-note.ensures.noted (one_noted c.args.table.now start c.args.number c.requires.start)) c.in_ok-note_places.ensures
