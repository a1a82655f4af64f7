-- Records of hints: what they come to, and which are told.
use Rattle.std.proofs.Common.{◌≡◌, ℕ, ℤ, ◌+◌, ◌||◌, true, false, cond, List, [], ◌∷◌, ◌++◌, Option, Some, None, is_some, map, length, refl, sym, ap, ap₂, ◌∙◌, subst, append-nil}
use Rattle.mw_model.specs.Seed.{Seed, Held, held_at}
use Rattle.mw_protocol.specs.Checks.{Check, checks_at}
use Rattle.mw_protocol.specs.HintList.{bought_by, hint_at, hinted, hinted_all}
use Rattle.mw_protocol.specs.Hints.{scouted_among}
use Rattle.mw_protocol.specs.Locating.{hint_told, hints_told}
use Rattle.mw_protocol.specs.Records.{Hint}
use Rattle.mw_protocol.specs.Standing as plain
use Rattle.mw_protocol.specs.Standing.{is_checked, step, steps}
use Rattle.mw_protocol.specs.Statuses.{SlotStatus}
use Rattle.mw_protocol.specs.Storage.{Kept}
use Rattle.mw_checks.specs.Log.{AreFresh, checks_of}
use Rattle.mw_records.specs.Records.{record_view, hint_view}
use Rattle.mw_base.specs.declared.hint.HintRecord.{HintRecord}
use Rattle.mw_base.specs.declared.hint.HintRecord.TheVariants.{Made, Marked}
use Rattle.mw_room.specs.Hinting.{all_told, told_where, told_at}
use Rattle.mw_effects.specs.Parts.{IsLogged, kept_by, paid_by, standing_of, stated_by}
use Rattle.mw_effects.specs.declared.effect.Effect.{Effect}
use Rattle.mw_effects.specs.declared.standing.Standing.{Standing}

-- a hint's record changes hints alone
hint_step : (seed : Seed) (now : plain.Standing) (h : HintRecord) → step seed now (hint_view h) ≡ record { checked = now.checked; statuses = now.statuses; hints = hinted now.hints (hint_view h); storage = now.storage }
hint_step seed now (Made team finder loc bought buyer status) =
    ap (λ (cs : List Check). record { checked = cs; statuses = now.statuses; hints = hinted now.hints (hint_view (Made team finder loc bought buyer status)); storage = now.storage }) (append-nil now.checked)
hint_step seed now (Marked team finder loc status) =
    ap (λ (cs : List Check). record { checked = cs; statuses = now.statuses; hints = hinted now.hints (hint_view (Marked team finder loc status)); storage = now.storage }) (append-nil now.checked)

steps_hints : (seed : Seed) (now : plain.Standing) (hs : List HintRecord)
    → steps seed now (map hint_view hs) ≡ record { checked = now.checked; statuses = now.statuses; hints = hinted_all now.hints (map hint_view hs); storage = now.storage }
steps_hints seed now [] = refl
steps_hints seed now (h ∷ hs) = ap (λ (x : plain.Standing). steps seed x (map hint_view hs)) (hint_step seed now h) ∙ steps_hints seed (record { checked = now.checked; statuses = now.statuses; hints = hinted now.hints (hint_view h); storage = now.storage }) hs

-- an effect that records hints alone
pub hints_logged : (e : Effect) (s : Standing) → e.new ≡ [] → e.status ≡ None → e.stored ≡ None → map record_view e.records ≡ map hint_view e.hints
    → ((team slot : ℕ) → length (bought_by (hinted_all s.hints.hints (map hint_view e.hints)) team slot) ≡ length (bought_by s.hints.hints team slot) + paid_by e team slot)
    → IsLogged s e
hints_logged e s new status stored records paid = record {
  fresh = subst (AreFresh s.log.seed s.log.checked e.team) (sym new) tt;
  comes_to =
      ap₂ (λ (ps : List (ℕ × ℤ)) (o : Option SlotStatus). record { checked = s.log.checked ++ checks_of e.team ps; statuses = stated_by o s.statuses.items; hints = hinted_all s.hints.hints (map hint_view e.hints); storage = kept_by e.stored s.store.kept }) new status
      ∙ ap (λ (k : Option Kept). record { checked = s.log.checked ++ []; statuses = s.statuses.items; hints = hinted_all s.hints.hints (map hint_view e.hints); storage = kept_by k s.store.kept }) stored
      ∙ ap (λ (cs : List Check). record { checked = cs; statuses = s.statuses.items; hints = hinted_all s.hints.hints (map hint_view e.hints); storage = s.store.kept }) (append-nil s.log.checked)
      ∙ sym (steps_hints s.log.seed (standing_of s) e.hints)
      ∙ ap (steps s.log.seed (standing_of s)) (sym records);
  paid = paid;
}

-- ---- which are told

pub told_same : (now : plain.Standing) (h : Hint) (at : Option Held) → hint_told now h at ≡ told_at now h.team h.finder h.location at
told_same now h None = refl
told_same now h (Some at) = refl

-- those that a scouting makes, where it tells no others
pub new_told : (seed : Seed) (now : plain.Standing) (team slot : ℕ) (ls : List ℤ)
    → hints_told seed now (scouted_among (is_checked now) now.hints team slot (checks_at team slot ls)) ≡ all_told seed now team slot false ls
new_told seed now team slot [] = refl
new_told seed now team slot (l ∷ ls) =
    let rest = scouted_among (is_checked now) now.hints team slot (checks_at team slot ls) in
    let h : Hint = record { team = team; finder = slot; location = l; bought = false; buyer = slot; status = 0 } in
    let told = told_at now team slot l (held_at seed slot l) in
    (elim (is_checked now team slot l) as (λ b. hints_told seed now (cond (b || is_some (hint_at now.hints team slot l)) rest (h ∷ rest))
    ≡ cond (told_where (hint_at now.hints team slot l) false b) told [] ++ all_told seed now team slot false ls) [
      | true ↦ elim (hint_at now.hints team slot l) as (λ o. hints_told seed now rest ≡ cond (told_where o false true) told [] ++ all_told seed now team slot false ls) [
        | None ↦ new_told seed now team slot ls
        | Some x ↦ new_told seed now team slot ls
      ]
      | false ↦ elim (hint_at now.hints team slot l) as (λ o. hints_told seed now (cond (is_some o) rest (h ∷ rest)) ≡ cond (told_where o false false) told [] ++ all_told seed now team slot false ls) [
        | None ↦ ap₂ (λ xs ys. xs ++ ys) (told_same now h (held_at seed slot l)) (new_told seed now team slot ls)
        | Some x ↦ new_told seed now team slot ls
      ]
    ])
