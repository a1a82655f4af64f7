-- Effects of packets, and what their records come to.
use Rattle.std.proofs.Common.{◌≡◌, ℕ, ℤ, ◌+◌, ◌&&◌, ◌==◌, true, false, cond, List, [], ◌∷◌, ◌++◌, Bool, Option, Some, None, map, length, refl, sym, ap, ap₂, ◌∙◌, subst, append-nil, arith}
use Rattle.mw_model.specs.Seed.{Seed}
use Rattle.mw_protocol.specs.Checks.{Check, has_check, checks_at, unseen}
use Rattle.mw_protocol.specs.Connecting.{Member}
use Rattle.mw_protocol.specs.Effect as plain
use Rattle.mw_protocol.specs.Heard as heard
use Rattle.mw_protocol.specs.HintList.{bought_by, hinted_all}
use Rattle.mw_protocol.specs.Locating.{checks_record}
use Rattle.mw_protocol.specs.Locations.{location_of}
use Rattle.mw_protocol.specs.Messages.{ServerPacket}
use Rattle.mw_protocol.specs.Standing as plain_standing
use Rattle.mw_protocol.specs.Standing.{steps}
use Rattle.mw_protocol.specs.Statuses.{SlotStatus}
use Rattle.mw_protocol.specs.Storage.{Kept}
use Rattle.mw_records.specs.Records.{record_view, hint_view}
use Rattle.mw_records.specs.declared.record.Record.{Record}
use Rattle.mw_base.specs.declared.hint.HintRecord.{HintRecord}
use Rattle.mw_checks.specs.Log.{AreFresh, checks_of}
use Rattle.mw_effects.specs.Parts.{IsLogged, IsQuiet, kept_by, paid_by, standing_of, stated_by}
use Rattle.mw_effects.specs.Views.{effect_view, IsEffect}
use Rattle.mw_effects.specs.declared.effect.Effect.{Effect}
use Rattle.mw_effects.specs.declared.standing.Standing.{Standing}

-- nobody pays
pub none_paid : (e : Effect) (n team slot : ℕ) → e.payer ≡ None → n ≡ n + paid_by e team slot
none_paid e n team slot h =
    let none : paid_by e team slot ≡ 0 = ap (λ (p : Option ℕ). elim p [ None ↦ 0 | Some payer ↦ cond ((e.team == team) && (payer == slot)) 1 0 ]) h in
    omega (arith, none)

-- an effect by its other parts
pub quiet_is : (e : Effect) (answers : List ServerPacket) (whole : Bool) (member : Option Member) (prints : List heard.Announced) → IsQuiet e
    → (effect_view e).answers ≡ answers → (effect_view e).whole ≡ whole → (effect_view e).member ≡ member → (effect_view e).announced ≡ prints
    → effect_view e ≡ record { records = []; answers = answers; whole = whole; member = member; announced = prints }
quiet_is e answers whole member prints q a w m p =
    ap (λ (rs : List Record). record { records = map record_view rs; answers = (effect_view e).answers; whole = e.whole; member = e.member; announced = (effect_view e).announced }) q.records
    ∙ ap₂ (λ (xs : List ServerPacket) (ps : List heard.Announced). record { records = []; answers = xs; whole = e.whole; member = e.member; announced = ps }) a p
    ∙ ap₂ (λ (b : Bool) (o : Option Member). record { records = []; answers = answers; whole = b; member = o; announced = prints }) w m

-- an effect that records nothing leaves what the records come to
pub quiet_logged : (e : Effect) (s : Standing) → IsQuiet e → IsLogged s e
quiet_logged e s q = record {
  fresh = subst (AreFresh s.log.seed s.log.checked e.team) (sym q.new) tt;
  comes_to =
      ap (λ (ps : List (ℕ × ℤ)). record { checked = s.log.checked ++ checks_of e.team ps; statuses = stated_by e.status s.statuses.items; hints = hinted_all s.hints.hints (map hint_view e.hints); storage = kept_by e.stored s.store.kept }) q.new
      ∙ ap₂ (λ (o : Option SlotStatus) (hs : List HintRecord). record { checked = s.log.checked ++ []; statuses = stated_by o s.statuses.items; hints = hinted_all s.hints.hints (map hint_view hs); storage = kept_by e.stored s.store.kept }) q.status q.hints
      ∙ ap (λ (k : Option Kept). record { checked = s.log.checked ++ []; statuses = s.statuses.items; hints = s.hints.hints; storage = kept_by k s.store.kept }) q.stored
      ∙ ap (λ (cs : List Check). record { checked = cs; statuses = s.statuses.items; hints = s.hints.hints; storage = s.store.kept }) (append-nil s.log.checked)
      ∙ ap (λ (rs : List Record). steps s.log.seed (standing_of s) (map record_view rs)) (sym q.records);
  paid = λ team slot.
      ap (λ (hs : List HintRecord). length (bought_by (hinted_all s.hints.hints (map hint_view hs)) team slot)) q.hints
      ∙ none_paid e (length (bought_by s.hints.hints team slot)) team slot q.payer;
}

pub quiet_effect : (e : Effect) (s : Standing) (due : plain.Effect) → IsQuiet e → effect_view e ≡ due → IsEffect e s due
quiet_effect e s due q is = record { is = is; logged = quiet_logged e s q }

-- ---- the record of new checks asks for just these

checks_at-again : (seen : List Check) (team slot : ℕ) (ls : List ℤ) → checks_at team slot (map location_of (unseen seen (checks_at team slot ls))) ≡ unseen seen (checks_at team slot ls)
checks_at-again seen team slot [] = refl
checks_at-again seen team slot (l ∷ ls) =
    let check : Check = record { team = team; slot = slot; location = l } in
    elim (has_check seen check) as (λ b. checks_at team slot (map location_of (cond b (unseen seen (checks_at team slot ls)) (check ∷ unseen (seen ++ check ∷ []) (checks_at team slot ls))))
    ≡ cond b (unseen seen (checks_at team slot ls)) (check ∷ unseen (seen ++ check ∷ []) (checks_at team slot ls))) [
      | true ↦ checks_at-again seen team slot ls
      | false ↦ ap (λ cs. check ∷ cs) (checks_at-again (seen ++ check ∷ []) team slot ls)
    ]

unseen-again : (seen xs : List Check) → unseen seen (unseen seen xs) ≡ unseen seen xs
unseen-again seen [] = refl
unseen-again seen (x ∷ xs) =
    (elim (has_check seen x) as (λ b. has_check seen x ≡ b → unseen seen (cond b (unseen seen xs) (x ∷ unseen (seen ++ x ∷ []) xs)) ≡ cond b (unseen seen xs) (x ∷ unseen (seen ++ x ∷ []) xs)) [
      | true ↦ (λ e. unseen-again seen xs)
      | false ↦ (λ e.
          ap (λ b. cond b (unseen seen (unseen (seen ++ x ∷ []) xs)) (x ∷ unseen (seen ++ x ∷ []) (unseen (seen ++ x ∷ []) xs))) e ∙ ap (λ cs. x ∷ cs) (unseen-again (seen ++ x ∷ []) xs))
    ]) refl

asked_again : (seen : List Check) (team slot : ℕ) (ls : List ℤ) → unseen seen (checks_at team slot (map location_of (unseen seen (checks_at team slot ls)))) ≡ unseen seen (checks_at team slot ls)
asked_again seen team slot ls = ap (unseen seen) (checks_at-again seen team slot ls) ∙ unseen-again seen (checks_at team slot ls)

steps_record : (seed : Seed) (s : plain_standing.Standing) (team slot : ℕ) (ls : List ℤ)
    → steps seed s (checks_record team slot ls) ≡ record { checked = s.checked ++ unseen s.checked (checks_at team slot ls); statuses = s.statuses; hints = s.hints; storage = s.storage }
steps_record seed s team slot [] = ap (λ (cs : List Check). record { checked = cs; statuses = s.statuses; hints = s.hints; storage = s.storage }) (sym (append-nil s.checked))
steps_record seed s team slot (l ∷ ls) = refl

-- what the record of new checks comes to
pub steps_checks : (seed : Seed) (s : plain_standing.Standing) (team slot : ℕ) (ls : List ℤ)
    → steps seed s (checks_record team slot (map location_of (unseen s.checked (checks_at team slot ls))))
    ≡ record { checked = s.checked ++ unseen s.checked (checks_at team slot ls); statuses = s.statuses; hints = s.hints; storage = s.storage }
steps_checks seed s team slot ls =
    steps_record seed s team slot (map location_of (unseen s.checked (checks_at team slot ls)))
    ∙ ap (λ (cs : List Check). record { checked = s.checked ++ cs; statuses = s.statuses; hints = s.hints; storage = s.storage }) (asked_again s.checked team slot ls)

-- ---- parts that are logged

-- new checks and a status alone, whatever the records
pub logged_by : (e : Effect) (s : Standing) → e.hints ≡ [] → e.payer ≡ None → e.stored ≡ None → AreFresh s.log.seed s.log.checked e.team e.new
    → record { checked = s.log.checked ++ checks_of e.team e.new; statuses = stated_by e.status s.statuses.items; hints = s.hints.hints; storage = s.store.kept } ≡ steps s.log.seed (standing_of s) (map record_view e.records)
    → IsLogged s e
logged_by e s none nobody unkept fresh comes = record {
  fresh = fresh;
  comes_to =
      ap (λ (hs : List HintRecord). record { checked = s.log.checked ++ checks_of e.team e.new; statuses = stated_by e.status s.statuses.items; hints = hinted_all s.hints.hints (map hint_view hs); storage = kept_by e.stored s.store.kept }) none
      ∙ ap (λ (k : Option Kept). record { checked = s.log.checked ++ checks_of e.team e.new; statuses = stated_by e.status s.statuses.items; hints = s.hints.hints; storage = kept_by k s.store.kept }) unkept
      ∙ comes;
  paid = λ team slot.
      ap (λ (hs : List HintRecord). length (bought_by (hinted_all s.hints.hints (map hint_view hs)) team slot)) none
      ∙ none_paid e (length (bought_by s.hints.hints team slot)) team slot nobody;
}
