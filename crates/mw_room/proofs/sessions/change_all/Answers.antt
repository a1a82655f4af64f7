use Rattle.std.proofs.Common.{◌≡◌, ◌∷◌, ◌+◌, List, map, sym, ap, ◌∙◌, subst, arith}
use Rattle.std.specs.Vec.Iter.{into_iter_items}
use Rattle.mw_room.specs.Known.{Shown}
use Rattle.mw_room.specs.Fits.{ChangesFit}
use Rattle.mw_room.specs.Views.{session_view, changed, changed_by}
use Rattle.mw_room.proofs.Places.{put_there, fits_after}
use Rattle.mw_room.proofs.sessions.change_all.Goals as goal

pub loop-change-preserved : goal.loop-change-preserved
loop-change-preserved c =
    let l = c.loop-change in
    let change = c.in-Some.change in
    let rest = into_iter_items c.next.new.self in
    let here : into_iter_items l.change-iterator ≡ change ∷ rest = grind arith in
    let fits : ChangesFit l.invariant.1.0 l.sessions (change ∷ rest) = subst (ChangesFit l.invariant.1.0 l.sessions) here l.invariant.1.1 in
    let s = c.change.new.self in
    let put = put_there (changed_by change c.args.length) l.sessions change.at s c.index-sessions-change.result fits.1 c.change.ensures in (
      ap (λ (ss : List Shown). changed c.args.length ss rest) put ∙ ap (changed c.args.length (map session_view l.sessions)) (sym here) ∙ l.invariant.0,
      (change.at + 1, fits_after (change.at + 1) change.at l.sessions rest s (omega arith) fits.3),
    )
