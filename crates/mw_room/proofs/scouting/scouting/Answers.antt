use Rattle.std.proofs.Common.{rules, ◌≡◌, map, ap, ◌∙◌, sym}
use Rattle.mw_records.specs.Records.{record_view, hint_view}
use Rattle.mw_room.proofs.HintEffects.{scouts_effect}
use Rattle.mw_room.proofs.scouting.scouting.Goals as goal

pub returns-in-Ok-Ok-Ok : goal.returns-in-Ok-Ok-Ok
returns-in-Ok-Ok-Ok c =
    let s = c.args.standing.now in
    let m = c.args.member.now in
    let e = c.hinted.result in
    let known = c.in_ok-known.known in
    let records : map record_view c.in-Ok-Ok-Ok.records ≡ map hint_view c.in_ok-hints.hints = c.in-Ok-Ok-Ok.ensures-1 ∙ ap (map hint_view) c.as_slice.ensures in
    scouts_effect e s m c.args.scouts.now.locations c.args.scouts.now.create_as_hint known
    (search rules)
    (ap (map record_view) c.hinted.ensures.records ∙ records ∙ ap (map hint_view) (sym c.hinted.ensures.hints))
    (search rules)
    c.hinted.ensures.new c.hinted.ensures.status c.hinted.ensures.payer c.hinted.ensures.stored
    (search rules)
