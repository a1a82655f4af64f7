use Rattle.std.proofs.Common.{arith, ◌≡◌, map, ap, ◌∙◌, sym, subst}
use Rattle.mw_protocol.specs.Hints.{Answer}
use Rattle.mw_protocol.specs.Speaking.{buying}
use Rattle.mw_protocol.specs.Standing.{points}
use Rattle.mw_hints.specs.Answering.{wanted_view}
use Rattle.mw_records.specs.Records.{record_view, hint_view}
use Rattle.mw_effects.specs.Parts.{standing_of}
use Rattle.mw_effects.specs.Views.{IsEffect}
use Rattle.mw_room.proofs.Buying.{bought_is}
use Rattle.mw_room.proofs.HintEffects.{bought_effect}
use Rattle.mw_room.proofs.hinting.bought.Goals as goal

pub returns : goal.returns
returns c =
    let s = c.args.standing.now in
    let m = c.args.member.now in
    let now = standing_of s in
    let e = c.hinted.result in
    let h = c.requires.0 in
    let made = c.requires.1.0 in
    let same = c.requires.1.1 in
    let is = bought_is s.log.seed now (points s.log.seed now m.team m.slot) m.team m.slot (wanted_view c.args.wanted.now) h made in
    let records : map record_view c.in_ok-records.records ≡ map hint_view c.in_ok-hints.hints = c.in_ok-records.ensures ∙ ap (map hint_view) c.as_slice.ensures in
    subst (λ (a : Answer). IsEffect e s (buying s.log.seed now a)) (sym made)
    (bought_effect e s m c.args.entry h is same
    (ap (map record_view) c.hinted.ensures.records ∙ records ∙ ap (map hint_view) (sym c.hinted.ensures.hints))
    (c.hinted.ensures.hints ∙ c.in_ok-hints.ensures)
    c.hinted.ensures.team c.hinted.ensures.new c.hinted.ensures.status
    (grind (arith, c.hinted.ensures.payer, c.member.view_is))
    c.hinted.ensures.stored
    (grind (arith, c.hinted.ensures.is, c.in_ok-prints.ensures h same, c.hinted.ensures.records)))
