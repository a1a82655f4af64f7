use Rattle.std.proofs.Common.{◌≡◌, ◌++◌, [], drop, map, ap, ◌∙◌, arith, sym}
use Rattle.std.proofs.lemmas.List.{drop_all}
use Rattle.mw_model.specs.Seed.{Seed, Held}
use Rattle.mw_multidata.specs.OfSlot.{held_of}
use Rattle.mw_protocol.specs.Asked.{locations_among}
use Rattle.mw_protocol.specs.Checks.{checks_at}
use Rattle.mw_checks.specs.Fresh.{looked}
use Rattle.mw_checks.proofs.Releasing.{own_locations}
use Rattle.mw_checks.proofs.asking.note_released.Goals as goal

pub returns : goal.returns
returns c = λ others.
    let seed = c.args.log.now.seed in
    let team = c.args.team in
    let slot = c.args.slot in
    let items = c.locations_of-held-items.result.now in
    let at = c.multidata.ensures.value ∙ c.tables.ensures in
    let own : map (λ (h : Held). h.location) items ≡ locations_among slot seed.locations =
    ap (map (λ (h : Held). h.location)) (c.locations_of-held-items.ensures ∙ ap (λ (s : Seed). held_of slot s.locations) at) ∙ own_locations slot seed.locations in
    let none : drop c.loop-held.held-index items ≡ [] = drop_all c.loop-held.held-index items (omega (arith, c.loop-held-test.false)) in
    ap (λ hs. looked seed c.args.log.now.checked team c.loop-held.found.keys (checks_at team slot (map (λ (h : Held). h.location) hs) ++ others)) (sym none)
    ∙ c.loop-held.invariant others
    ∙ ap (λ ls. looked seed c.args.log.now.checked team c.args.found.now.keys (checks_at team slot ls ++ others)) own
