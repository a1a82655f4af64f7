use Rattle.std.proofs.Common.{arith, ◌≡◌, map, ap, ◌∙◌, sym}
use Rattle.mw_records.specs.Records.{record_view, hint_view}
use Rattle.mw_room.proofs.HintEffects.{marks_effect}
use Rattle.mw_room.proofs.hinting.marking.Goals as goal

pub returns : goal.returns
returns c =
    let e = c.hinted.result in
    let records : map record_view c.in_ok-records.records ≡ map hint_view c.in_ok-hints.hints = c.in_ok-records.ensures ∙ ap (map hint_view) c.as_slice.ensures in
    marks_effect e c.args.standing.now c.args.member.now c.args.update.now
    (ap (map record_view) c.hinted.ensures.records ∙ records ∙ ap (map hint_view) (sym c.hinted.ensures.hints))
    (ap (map hint_view) (c.hinted.ensures.hints ∙ c.in_ok-hints.ensures) ∙ c.marked.ensures)
    c.hinted.ensures.new c.hinted.ensures.status c.hinted.ensures.payer c.hinted.ensures.stored
    (grind (arith, c.hinted.ensures.is))
