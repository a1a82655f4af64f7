use Rattle.std.proofs.Common.{◌≡◌, ◌++◌, sym, subst, ◌∙◌, take-append-drop}
use Rattle.std.proofs.lemmas.Result.{on_ok_weaker}
use Rattle.mw_multi.specs.Bags.{start_count}
use Rattle.mw_multi.specs.Steps.{steps_of}
use Rattle.mw_reach.specs.GoingOn.{IsFinished}
use Rattle.mw_reach.specs.Reached.{counts_in, flags_in}
use Rattle.mw_reach.proofs.Settling.{settled_moved}
use Rattle.mw_spheres.proofs.Only.{only-same}
use Rattle.mw_spheres.proofs.Halving.{same_again, others}
use Rattle.mw_spheres.proofs.thin.+thin.Goals as goal

pub reveal-requires-2-clause-least : goal.reveal-requires-2-clause-least
reveal-requires-2-clause-least t c =
    let a = c.args in
    let joint = a.joint.now in
    let start = start_count joint.slots in
    let below = c.split_at.result.0.now in
    let above = c.split_at.result.1.now in
    let whole : a.places.now ≡ below ++ above = rw (c.split_at.ensures.front, c.split_at.ensures.back) (sym (take-append-drop _ _)) in
    let same = same_again a.kept.now c.thin.new.kept a.shown.now c.reveal.new.shown c.thin.new.shown c.hide.new.shown a.places.now below above whole c.requires.shown c.in_ok-reveal.ensures.shown c.in_ok-thin.ensures.others.0 c.in_ok-thin.ensures.others.1 c.hide.ensures.shown in
    let table : a.table.now ≡ c.hide.new.table = c.requires.table ∙ sym (only-same c.hide.new.shown a.shown.now a.full.now same) ∙ sym c.hide.ensures.table in
    let counts : counts_in a.reached.now ≡ counts_in c.go_back.new.self = sym c.in_ok-mark.ensures.counts ∙ c.go_back.ensures.back.counts in
    let flags : flags_in a.reached.now ≡ flags_in c.go_back.new.self = sym c.in_ok-mark.ensures.done ∙ c.go_back.ensures.back.done in
    subst (λ placed. IsFinished (steps_of joint) start placed (flags_in c.go_back.new.self) (counts_in c.go_back.new.self)) table
    (settled_moved (steps_of joint) start a.table.now (flags_in a.reached.now) (flags_in c.go_back.new.self) (counts_in a.reached.now) (counts_in c.go_back.new.self) flags counts c.requires.least)

pub returns-clause-others : goal.returns-clause-others
returns-clause-others t c =
    let a = c.args in
    let below = c.split_at.result.0.now in
    let above = c.split_at.result.1.now in
    let whole : a.places.now ≡ below ++ above = rw (c.split_at.ensures.front, c.split_at.ensures.back) (sym (take-append-drop _ _)) in
    on_ok_weaker c.thin-2.result
    (λ h. others a.kept.now c.thin.new.kept a.shown.now c.reveal.new.shown c.thin.new.shown c.hide.new.shown a.places.now below above whole c.requires.shown c.in_ok-reveal.ensures.shown c.in_ok-thin.ensures.others.0 c.in_ok-thin.ensures.others.1 c.hide.ensures.shown
    c.thin-2.new.kept c.reveal-2.new.shown c.thin-2.new.shown h.0 c.in_ok-reveal-2.ensures.shown h.1)
    c.thin-2.ensures.others
