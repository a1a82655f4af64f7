use Rattle.std.proofs.Common.{◌≡◌, ℤ, pos, ◌≤ℤ◌, ◌<ℤ◌, ◌^◌, ◌+◌, ◌-◌, ◌<◌, ◌∷◌, length, drop, sym, ap, ◌∙◌, subst, arith, to_z, of_z, w64, to_z-of_z}
use Rattle.std.proofs.lemmas.List.{drop_more}
use Rattle.mw_model.specs.Seed.{Held}
use Rattle.mw_checks.specs.Numbers.{AllIds}
use Rattle.mw_checks.proofs.Numbering.{entered}
use Rattle.mw_checks.proofs.places.numbered.Goals as goal

pub loop-at-preserved : goal.loop-at-preserved
loop-at-preserved c =
    let l = c.loop-at in
    let hs = c.args.locations.now in
    let at = l.at - 1 in
    let held = c.index-locations-at.result in
    let here : at < length hs = omega arith in
    let next : at + 1 ≡ l.at = omega arith in
    let rest : drop at hs ≡ held ∷ drop (at + 1) hs = drop_more hs at held here ∙ ap (λ (h : Held). h ∷ drop (at + 1) hs) (sym c.index-locations-at.is) in
    let later : drop at hs ≡ held ∷ drop l.at hs = rest ∙ ap (λ n. held ∷ drop n hs) next in
    let slot : c.get.result ≡ held.slot = c.get.ensures.value ∙ ap (λ (h : Held). h.slot) c.held.view_is in
    let location : c.get-in-loop-at.result ≡ held.location = c.get-in-loop-at.ensures.value ∙ ap (λ (h : Held). h.location) c.held.view_is in
    let back : to_z w64 (of_z w64 c.get-in-loop-at.result) ≡ held.location = grind (arith, to_z-of_z) in
    let range : (pos 1 ≤ℤ held.location) × (held.location <ℤ pos (2 ^ 53)) = subst (λ (x : ℤ). (pos 1 ≤ℤ x) × (x <ℤ pos (2 ^ 53))) location c.get-in-loop-at.ensures.range in
    record {
      within = omega arith;
      numbered = λ s q. c.in_ok-insert.ensures.updates.0 (s, q) ∙ entered at l.at held (drop l.at hs) (drop at hs) _ _ _ s q later next slot back (l.invariant.numbered s q);
      ids = subst AllIds (sym later) (range, l.invariant.ids);
    }
