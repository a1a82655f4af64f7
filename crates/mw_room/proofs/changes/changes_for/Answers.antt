use Rattle.std.proofs.Common.{◌≡◌, ◌++◌, ◌+◌, ◌<◌, length, get_or, sym, ap, ◌∙◌, subst, arith, map}
use Rattle.std.specs.Option.{option_to_list}
use Rattle.std.proofs.lemmas.List.{get_or_default}
use Rattle.mw_room.specs.Fits.{ChangesFit}
use Rattle.mw_room.specs.Views.{session_view, changed, due_after, IsChange}
use Rattle.mw_room.proofs.Sparse.{Below, below_more, fits_more, changes_step}
use Rattle.mw_room.proofs.changes.changes_for.Goals as goal

pub loop-at-preserved : goal.loop-at-preserved
loop-at-preserved c =
    let l = c.loop-at in
    let ss = c.args.sessions.now in
    let s = c.index-sessions-at.result in
    let due = due_after c.args.standing.now c.args.effect.now c.args.sender in
    let cs = l.changes.items in
    let o = c.in_ok-change.change in
    let within : l.at < length ss = omega arith in
    let here : s ≡ get_or ss l.at s = c.index-sessions-at.is in
    let is : IsChange o l.at due (get_or ss l.at s) = subst (IsChange o l.at due) here c.in_ok-change.ensures.is in
    let grew : c.push_change.new.changes.items ≡ cs ++ option_to_list o = c.in_ok-push_change.ensures in
    record {
      shared = c.in_ok-change.ensures.shared;
      done = λ len. ap (changed len (map session_view ss)) grew ∙ changes_step due ss l.at s cs o within is l.invariant.done len;
      fit = subst (ChangesFit 0 ss) (sym grew) (fits_more 0 l.at ss cs o due s (omega arith) within (λ d. get_or_default ss l.at d s within ∙ sym here) c.in_ok-change.ensures.is l.invariant.below l.invariant.fit);
      below = subst (Below (l.at + 1)) (sym grew) (below_more l.at cs o due s c.in_ok-change.ensures.is l.invariant.below);
    }
