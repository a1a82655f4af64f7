-- An effect owes members that it doesn't touch nothing.
use Rattle.std.proofs.Common.{◌≡◌, ℕ, ℤ, ◌+◌, ◌*◌, ◌-◌, ◌==◌, ◌&&◌, List, [], ◌∷◌, ◌++◌, Option, None, Some, Bool, false, cond, is_some, length, refl, sym, ap, ap₂, ◌∙◌, append-nil, arith}
use Rattle.std.proofs.lemmas.Bool.{eq-eqb}
use Rattle.mw_checks.specs.Log.{checks_of}
use Rattle.mw_protocol.specs.Checks.{locations_in}
use Rattle.mw_protocol.specs.Connecting.{Member}
use Rattle.mw_protocol.specs.HintList.{bought_by}
use Rattle.mw_protocol.specs.Messages.{ServerPacket, room_update}
use Rattle.mw_protocol.specs.Owed.{items_from, update_with}
use Rattle.mw_protocol.specs.Standing.{cost}
use Rattle.mw_effects.specs.News.{items_for, growth_in, points_before, points_after, view_for}
use Rattle.mw_effects.specs.Parts.{news_of, paid_by, IsLogged}
use Rattle.mw_effects.specs.declared.effect.Effect.{Effect}
use Rattle.mw_effects.specs.declared.standing.Standing.{Standing}
use Rattle.mw_effects.proofs.Grown.{points_then}
use Rattle.mw_owed.specs.Untouched.{IsUntouched}

none_new : (pairs : List (ℕ × ℤ)) → length pairs ≡ 0 → pairs ≡ []
none_new [] h = refl
none_new (pair ∷ pairs) h = absurd (omega arith)

no_payer : (p : Option ℕ) → is_some p ≡ false → p ≡ None
no_payer None h = refl
no_payer (Some payer) h = absurd (cc)

unpaid : (e : Effect) (m : Member) → is_some e.payer ≡ false → paid_by e m.team m.slot ≡ 0
unpaid e m h = ap (λ (p : Option ℕ). elim p [ None ↦ 0 | Some payer ↦ cond ((e.team == m.team) && (payer == m.slot)) 1 0 ]) (no_payer e.payer h)

pub nothing_new : (e : Effect) → length e.new ≡ 0 → is_some e.payer ≡ false → (m : Member) → IsUntouched e m
nothing_new e new payer m =
    let none = none_new e.new new in
    record {
      locations = ap (λ (ps : List (ℕ × ℤ)). length (locations_in m.team m.slot (checks_of e.team ps))) none;
      paid = unpaid e m payer;
      items = λ seed. ap (λ (ps : List (ℕ × ℤ)). items_for seed m (checks_of e.team ps)) none;
    }

-- ---- what is owed then

no_new : (before after : ℕ) (ls : List ℤ) → length ls ≡ 0 → before ≡ after → update_with before after ls ≡ []
no_new before after [] h same = ap (λ (b : Bool). cond b [] (room_update [] after ∷ [])) (eq-eqb before after same)
no_new before after (l ∷ ls) h same = absurd (omega arith)

same_points : (s : Standing) (e : Effect) (m : Member) → IsLogged s e → length (locations_in m.team m.slot (news_of e)) ≡ 0 → paid_by e m.team m.slot ≡ 0 → points_before s m ≡ points_after s e m
same_points s e m logged none unpaid =
    let checked = length (locations_in m.team m.slot s.log.checked) in
    let bought = length (bought_by s.hints.hints m.team m.slot) in
    let more : checked ≡ checked + 0 = omega arith in
    let hints : bought ≡ bought + paid_by e m.team m.slot = omega (arith, unpaid) in
    ap₂ (λ (n b : ℕ). s.log.seed.server.location_check_points * n - cost s.log.seed m.slot * b) more hints
    ∙ points_then s e m 0 logged (sym none)

pub no_update : (s : Standing) (e : Effect) (m : Member) (ps : List ServerPacket) → IsLogged s e → length (locations_in m.team m.slot (news_of e)) ≡ 0 → paid_by e m.team m.slot ≡ 0
    → ps ≡ ps ++ update_with (points_before s m) (points_after s e m) (locations_in m.team m.slot (news_of e))
no_update s e m ps logged none unpaid =
    sym (ap (λ (us : List ServerPacket). ps ++ us) (no_new (points_before s m) (points_after s e m) (locations_in m.team m.slot (news_of e)) none (same_points s e m logged none unpaid)) ∙ append-nil ps)

pub nothing_grows : (whole : Bool) (s : Standing) (e : Effect) (m : Member) → IsLogged s e → whole ≡ false → IsUntouched e m → [] ≡ growth_in whole s e m
nothing_grows whole s e m logged part untouched =
    no_update s e m [] logged untouched.locations untouched.paid
    ∙ sym (ap (λ (us : List ServerPacket). update_with (points_before s m) (points_after s e m) (locations_in m.team m.slot (news_of e)) ++ us)
    (ap (λ (b : Bool). cond b (items_from 0 (view_for s.log m ++ items_for s.log.seed m (news_of e))) (items_from (length (view_for s.log m)) (items_for s.log.seed m (news_of e)))) part
    ∙ ap (items_from (length (view_for s.log m))) (untouched.items s.log.seed))
    ∙ append-nil (update_with (points_before s m) (points_after s e m) (locations_in m.team m.slot (news_of e))))
