use Rattle.std.proofs.Common.{ℕ, ℤ, ◌≡◌, ◌++◌, List, Option, length, map, ap, ap₂, ◌∙◌, arith}
use Rattle.std.proofs.lemmas.List.{map-append}
use Rattle.mw_model.specs.Seed.{Seed}
use Rattle.mw_protocol.specs.Checks.{Check}
use Rattle.mw_protocol.specs.HintList.{hinted_all}
use Rattle.mw_protocol.specs.Records.{Hint}
use Rattle.mw_protocol.specs.Standing.{Standing, steps}
use Rattle.mw_protocol.specs.Statuses.{SlotStatus}
use Rattle.mw_protocol.specs.Storage.{Kept}
use Rattle.mw_checks.specs.Log.{checks_of}
use Rattle.mw_records.specs.Records.{hint_view}
use Rattle.mw_base.specs.declared.hint.HintRecord.{HintRecord}
use Rattle.mw_room.specs.Known.{Shown}
use Rattle.mw_effects.specs.Parts.{kept_by, standing_of, stated_by}
use Rattle.mw_room.specs.Views.{session_view, changed, left, plan_records}
use Rattle.mw_effects.specs.declared.effect.NewValue.{NewValue}
use Rattle.mw_room.specs.declared.session.Session.{Session}
use Rattle.mw_room.proofs.Places.{written_over}
use Rattle.mw_room.proofs.room.Room.apply_known.Goals as goal

pub returns : goal.returns
returns c =
    let room = c.args.self.now in
    let now = room.standing in
    let plan = c.args.plan in
    let old = map session_view room.sessions.items in
    let checked = c.add_grown.ensures.checked ∙ ap (λ (ps : List (ℕ × ℤ)). now.log.checked ++ checks_of plan.effect.team ps) c.as_slice.ensures in
    let hints = c.add_grown-2.ensures ∙ ap (λ (hs : List HintRecord). hinted_all now.hints.hints (map hint_view hs)) c.as_slice-2.ensures in
    let comes : record { checked = c.add_grown.new.self.checked; statuses = c.set_status.new.statuses.items; hints = c.add_grown-2.new.self.hints; storage = c.put_stored.new.store.kept } ≡ steps now.log.seed (standing_of now) (plan_records plan) =
    ap₂ (λ (cs : List Check) (ss : List SlotStatus). record { checked = cs; statuses = ss; hints = c.add_grown-2.new.self.hints; storage = c.put_stored.new.store.kept }) checked c.set_status.ensures
    ∙ ap (λ (hs : List Hint). record { checked = now.log.checked ++ checks_of plan.effect.team plan.effect.new; statuses = stated_by plan.effect.status now.statuses.items; hints = hs; storage = c.put_stored.new.store.kept }) hints
    ∙ ap (λ (ks : List Kept). record { checked = now.log.checked ++ checks_of plan.effect.team plan.effect.new; statuses = stated_by plan.effect.status now.statuses.items; hints = hinted_all now.hints.hints (map hint_view plan.effect.hints); storage = ks }) (c.put_stored.ensures ∙ ap (λ (s : Option NewValue). kept_by s now.store.kept) c.take.ensures.value)
    ∙ c.requires.logged.comes_to in
    let changed_ones : map session_view c.change_all.new.sessions ≡ changed plan.length old plan.changes.items =
    c.change_all.ensures ∙ ap (λ (ss : List Session). changed plan.length (map session_view ss) plan.changes.items) c.deref_mut.ensures.value in
    let same : length c.change_all.new.sessions ≡ room.sessions.len = grind arith in
    let many : length room.sessions.items ≡ room.sessions.len = grind arith in
    let written = written_over room.sessions.len c.change_all.new.sessions room.sessions.items same many in
    let filled : c.fill.new.items.items ≡ c.change_all.new.sessions ++ plan.new_sessions.items = c.fill.ensures ∙ ap (λ (ss : List Session). ss ++ plan.new_sessions.items) written in
    let sessions : map session_view c.close_lost.new.sessions.items ≡ left plan.lost (changed plan.length old plan.changes.items ++ map session_view plan.new_sessions.items) =
    c.close_lost.ensures
    ∙ ap (λ (ss : List Session). left plan.lost (map session_view ss)) filled
    ∙ ap (left plan.lost) (map-append session_view c.change_all.new.sessions plan.new_sessions.items ∙ ap (λ (ss : List Shown). ss ++ map session_view plan.new_sessions.items) changed_ones) in
    ap (λ (d : Seed). record { seed = d; now = record { checked = c.add_grown.new.self.checked; statuses = c.set_status.new.statuses.items; hints = c.add_grown-2.new.self.hints; storage = c.put_stored.new.store.kept }; length = plan.length; opened = plan.opened; sessions = map session_view c.close_lost.new.sessions.items }) c.add_grown.ensures.seed
    ∙ ap₂ (λ (s : Standing) (ss : List Shown). record { seed = now.log.seed; now = s; length = plan.length; opened = plan.opened; sessions = ss }) comes sessions
