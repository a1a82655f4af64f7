-- Whoever hears nothing, and whose slot checks, receives and pays for nothing, is owed nothing.
use Rattle.std.proofs.Common.{◌≡◌, ℕ, ℤ, ◌==◌, ◌&&◌, ◌||◌, List, [], ◌∷◌, ◌++◌, Some, Bool, false, true, cond, length, map, refl, sym, ap, ap₂, ◌∙◌}
use Rattle.mw_model.specs.Seed.{Seed}
use Rattle.mw_checks.specs.Log.{checks_of}
use Rattle.mw_protocol.specs.Checks.{locations_in}
use Rattle.mw_protocol.specs.Connecting.{Member}
use Rattle.mw_protocol.specs.Heard.{Announced, heard, hears}
use Rattle.mw_protocol.specs.Messages.{ServerPacket}
use Rattle.mw_protocol.specs.Owed.{growth_owed, owed}
use Rattle.mw_effects.specs.Parts.{grown, paid_by, standing_of, IsLogged}
use Rattle.mw_effects.specs.Views.{announced_view, effect_view}
use Rattle.mw_effects.specs.declared.effect.Effect.{Effect}
use Rattle.mw_effects.specs.declared.standing.Standing.{Standing}
use Rattle.mw_effects.proofs.Grown.{growth_is}
use Rattle.mw_owed.specs.Concerned.{hears_some, is_finder}
use Rattle.mw_owed.specs.Receivers.{owns_one, receivers_in}
use Rattle.mw_owed.proofs.Received.{neither, nothing_received}
use Rattle.mw_owed.proofs.Untouched.{no_update}

none_heard : (seed : Seed) (told : List Announced) (m : Member) → hears_some seed told m ≡ false → heard seed told false m ≡ []
none_heard seed [] m h = refl
none_heard seed (a ∷ others) m h =
    let both = neither (hears seed a.audience false m) (hears_some seed others m) h in
    ap (λ (b : Bool). cond b (a.packet ∷ heard seed others false m) (heard seed others false m)) both.0 ∙ none_heard seed others m both.1

none_found : (team : ℕ) (m : Member) (pairs : List (ℕ × ℤ)) → is_finder pairs m.slot ≡ false → locations_in m.team m.slot (checks_of team pairs) ≡ []
none_found team m [] h = refl
none_found team m (pair ∷ pairs) h =
    let both = neither (pair.0 == m.slot) (is_finder pairs m.slot) h in
    let others = locations_in m.team m.slot (checks_of team pairs) in
    let rest : others ≡ [] = none_found team m pairs both.1 in
    elim (team == m.team) as (λ b. cond (b && (pair.0 == m.slot)) (pair.1 ∷ others) others ≡ []) [
      | true ↦ ap (λ (b : Bool). cond b (pair.1 ∷ others) others) both.0 ∙ rest
      | false ↦ rest
    ]

never_both : (b : Bool) → (b && false) ≡ false
never_both true = refl
never_both false = refl

none_grows : (s : Standing) (e : Effect) (m : Member) → owns_one s.log.seed (receivers_in s.log.seed e.new) m.slot ≡ false → is_finder e.new m.slot ≡ false → paid_by e m.team m.slot ≡ 0 → IsLogged s e
    → growth_owed (e.whole && false) s.log.seed (standing_of s) (grown s e) (Some m) ≡ []
none_grows s e m receives finds unpaid logged =
    let part = ap (λ (b : Bool). b || owns_one s.log.seed (receivers_in s.log.seed e.new) m.slot) (never_both e.whole) ∙ receives in
    growth_is (e.whole && false) s e m
    ∙ ap₂ (λ (us is : List ServerPacket). us ++ is) (sym (no_update s e m [] logged (ap length (none_found e.team m e.new finds)) unpaid)) (nothing_received (e.whole && false) s e m part)

pub nothing_owed : (s : Standing) (e : Effect) (m : Member) → hears_some s.log.seed (map announced_view e.announced) m ≡ false → owns_one s.log.seed (receivers_in s.log.seed e.new) m.slot ≡ false → is_finder e.new m.slot ≡ false → paid_by e m.team m.slot ≡ 0
    → IsLogged s e → owed s.log.seed (standing_of s) (grown s e) (effect_view e) false (Some m) ≡ []
nothing_owed s e m silent receives finds unpaid logged =
    ap₂ (λ (gs hs : List ServerPacket). [] ++ gs ++ hs) (none_grows s e m receives finds unpaid logged) (none_heard s.log.seed (map announced_view e.announced) m silent)
