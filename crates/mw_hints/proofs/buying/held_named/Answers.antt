use Rattle.std.proofs.Common.{◌≡◌, ℤ, pos, ◌≤ℤ◌, ◌<ℤ◌, ◌^◌, sym, ◌∙◌, subst, arith, to_z, of_z, w64, to_z-of_z}
use Rattle.mw_multidata.specs.SeedKept.{IsId}
use Rattle.mw_hints.proofs.Numbers.{located_id}
use Rattle.mw_hints.proofs.buying.held_named.Goals as goal

-- a name's id is in range
pub returns-in_err-new : goal.returns-in_err-new
returns-in_err-new g c =
    let id = c.in_ok-id.id in
    let is : IsId id = located_id c.multidata.result.now c.args.slot c.args.name.now id c.multidata.ensures.kept (sym c.location_named.ensures ∙ c.in_ok-id.was) in
    let low : pos 1 ≤ℤ id = is.low in
    let high : id <ℤ pos (2 ^ 53) = is.high in
    let back : to_z w64 (of_z w64 id) ≡ id = grind (arith, to_z-of_z) in
    absurd (c.in_err-new.ensures (subst (λ (z : ℤ). (pos 1 ≤ℤ z) × (z <ℤ pos (2 ^ 53))) (sym back) (low, high)))
