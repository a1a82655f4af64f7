-- Effects that record hints.
use Rattle.std.proofs.Common.{◌≡◌, ℕ, ℤ, ◌==◌, ◌+◌, ◌&&◌, true, false, cond, List, [], ◌∷◌, Bool, Option, Some, None, not, is_some, map, length, refl, sym, ap, ap₂, ◌∙◌}
use Rattle.std.proofs.lemmas.Bool.Decides.{Decides-eqb}
use Rattle.mw_model.specs.Seed.{Seed, held_at}
use Rattle.mw_protocol.specs.Checks.{Check, checks_at}
use Rattle.mw_protocol.specs.Connecting.{Member}
use Rattle.mw_protocol.specs.Heard.{Announced}
use Rattle.mw_protocol.specs.HintList.{bought_by, hinted_all, made}
use Rattle.mw_protocol.specs.Hints.{scouted_among}
use Rattle.mw_protocol.specs.Hints as plain_hints
use Rattle.mw_protocol.specs.Locating.{hint_told, hints_at, hints_scouted, hints_told, mark_record, scouting, slot_number, marking}
use Rattle.mw_protocol.specs.Locations.{known_checks, scouted_at}
use Rattle.mw_protocol.specs.Messages.{location_info}
use Rattle.mw_protocol.specs.Packets.{UpdateHint}
use Rattle.mw_protocol.specs.Records as recorded
use Rattle.mw_protocol.specs.Records.{Hint, hint}
use Rattle.mw_protocol.specs.Speaking.{buying}
use Rattle.mw_protocol.specs.Standing as plain_standing
use Rattle.mw_hints.proofs.Counting.{bought_made, bought_marked, bought_scouted}
use Rattle.mw_records.specs.Records.{record_view, hint_view}
use Rattle.mw_base.specs.declared.hint.HintRecord.{HintRecord}
use Rattle.mw_room.specs.Hinting.{IsBought, all_told, told_with}
use Rattle.mw_effects.specs.Parts.{paid_by, standing_of}
use Rattle.mw_effects.specs.Views.{effect_view, IsEffect}
use Rattle.mw_effects.specs.declared.effect.Effect.{Effect}
use Rattle.mw_effects.specs.declared.standing.Standing.{Standing}
use Rattle.mw_effects.proofs.Effects.{none_paid}
use Rattle.mw_room.proofs.HintsAgain.{again_told}
use Rattle.mw_room.proofs.HintsMade.{hints_logged, new_told}

-- with 0 a scouting makes no hints
abbrev scouted_where : ℕ → plain_standing.Standing → ℕ → ℕ → List Check → List Hint
scouted_where n now t s cs = cond (n == 0) [] (scouted_among (plain_standing.is_checked now) now.hints t s cs)

told_is : (seed : Seed) (now : plain_standing.Standing) (t s : ℕ) (ls : List ℤ) (n : ℕ)
    → told_with n seed now t s ls
    ≡ hints_told seed now (cond (n == 1) (hints_at (hinted_all now.hints (map hint (scouted_where n now t s (checks_at t s ls)))) t s (checks_at t s ls)) (scouted_where n now t s (checks_at t s ls)))
told_is seed now t s ls n =
    let cs = checks_at t s ls in
    let new = scouted_among (plain_standing.is_checked now) now.hints t s cs in
    (elim (n == 0) as (λ b. (n == 0) ≡ b → cond b [] (all_told seed now t s (n == 1) ls)
    ≡ hints_told seed now (cond (n == 1) (hints_at (hinted_all now.hints (map hint (cond b [] new))) t s cs) (cond b [] new))) [
      | true ↦ (λ e. sym (ap (λ (k : ℕ). hints_told seed now (cond (k == 1) (hints_at (hinted_all now.hints []) t s cs) [])) ((Decides-eqb n 0).0 e)))
      | false ↦ (λ e. elim (n == 1) as (λ b. all_told seed now t s b ls ≡ hints_told seed now (cond b (hints_at (hinted_all now.hints (map hint new)) t s cs) new)) [
        | true ↦ sym (again_told seed now t s ls)
        | false ↦ sym (new_told seed now t s ls)
      ])
    ]) refl

scouts_unpaid : (now : plain_standing.Standing) (t s n team slot : ℕ) (cs : List Check) → length (bought_by (hinted_all now.hints (map hint (scouted_where n now t s cs))) team slot) ≡ length (bought_by now.hints team slot)
scouts_unpaid now t s n team slot cs =
    elim (n == 0) as (λ b. length (bought_by (hinted_all now.hints (map hint (cond b [] (scouted_among (plain_standing.is_checked now) now.hints t s cs)))) team slot) ≡ length (bought_by now.hints team slot)) [
      | true ↦ refl
      | false ↦ bought_scouted (plain_standing.is_checked now) now.hints now.hints t s cs team slot
    ]

-- of a scouting
pub scouts_effect : (e : Effect) (s : Standing) (m : Member) (numbers : List ℤ) (n : ℕ) (known : List ℤ)
    → checks_at m.team m.slot known ≡ known_checks s.log.seed m.team m.slot numbers
    → map record_view e.records ≡ map hint_view e.hints
    → map hint_view e.hints ≡ map hint (hints_scouted s.log.seed (standing_of s) m numbers n)
    → e.new ≡ [] → e.status ≡ None → e.payer ≡ None → e.stored ≡ None
    → effect_view e ≡ record { records = map record_view e.records; answers = location_info (scouted_at s.log.seed m.slot (checks_at m.team m.slot known)) ∷ []; whole = false; member = None; announced = told_with n s.log.seed (standing_of s) m.team m.slot known }
    → IsEffect e s (scouting s.log.seed (standing_of s) m numbers n)
scouts_effect e s m numbers n known is records hints new status payer stored view =
    let now = standing_of s in
    let seed = s.log.seed in
    record {
      is =
          view
          ∙ ap₂ (λ (rs : List recorded.Record) (ps : List Announced). record { records = rs; answers = location_info (scouted_at seed m.slot (checks_at m.team m.slot known)) ∷ []; whole = false; member = None; announced = ps })
          (records ∙ hints) (told_is seed now m.team m.slot known n)
          ∙ ap (λ (cs : List Check). record {
            records = map hint (hints_scouted seed now m numbers n);
            answers = location_info (scouted_at seed m.slot cs) ∷ [];
            whole = false;
            member = None;
            announced = hints_told seed now (cond (n == 1) (hints_at (hinted_all now.hints (map hint (scouted_where n now m.team m.slot cs))) m.team m.slot cs) (scouted_where n now m.team m.slot cs));
          }) is;
      logged =
          hints_logged e s new status stored records
          (λ team slot.
          ap (λ (rs : List recorded.Record). length (bought_by (hinted_all now.hints rs) team slot)) hints
          ∙ scouts_unpaid now m.team m.slot n team slot (known_checks s.log.seed m.team m.slot numbers)
          ∙ none_paid e (length (bought_by now.hints team slot)) team slot payer);
    }

-- ---- of a hint's new status

marks_unpaid : (seed : Seed) (now : plain_standing.Standing) (m : Member) (finder : ℕ) (location : ℤ) (o : Option ℕ) (team slot : ℕ)
    → length (bought_by (hinted_all now.hints (mark_record seed now m finder location o)) team slot) ≡ length (bought_by now.hints team slot)
marks_unpaid seed now m finder location None team slot = refl
marks_unpaid seed now m finder location (Some status) team slot =
    elim (plain_hints.marks seed (plain_standing.is_checked now) now.hints m.team m.slot finder location status)
    as (λ b. length (bought_by (hinted_all now.hints (cond b (recorded.hint_status m.team finder location status ∷ []) [])) team slot) ≡ length (bought_by now.hints team slot)) [
      | true ↦ bought_marked now.hints m.team finder location status team slot
      | false ↦ refl
    ]

pub marks_effect : (e : Effect) (s : Standing) (m : Member) (u : UpdateHint)
    → map record_view e.records ≡ map hint_view e.hints
    → map hint_view e.hints ≡ mark_record s.log.seed (standing_of s) m (slot_number u.player) u.location u.status
    → e.new ≡ [] → e.status ≡ None → e.payer ≡ None → e.stored ≡ None
    → effect_view e ≡ record { records = map record_view e.records; answers = []; whole = false; member = None; announced = [] }
    → IsEffect e s (marking s.log.seed (standing_of s) m u)
marks_effect e s m u records hints new status payer stored view =
    let now = standing_of s in
    record {
      is = view ∙ ap (λ (rs : List recorded.Record). record { records = rs; answers = []; whole = false; member = None; announced = [] }) (records ∙ hints);
      logged =
          hints_logged e s new status stored records
          (λ team slot.
          ap (λ (rs : List recorded.Record). length (bought_by (hinted_all now.hints rs) team slot)) hints
          ∙ marks_unpaid s.log.seed now m (slot_number u.player) u.location u.status team slot
          ∙ none_paid e (length (bought_by now.hints team slot)) team slot payer);
    }

-- ---- of a hint that is bought

bought_paid : (e : Effect) (s : Standing) (m : Member) (h : Hint) → IsBought (standing_of s) m.team m.slot h → e.team ≡ m.team → e.payer ≡ Some m.slot → (team slot : ℕ)
    → length (bought_by (made s.hints.hints h) team slot) ≡ length (bought_by s.hints.hints team slot) + paid_by e team slot
bought_paid e s m h is of payer team slot =
    let hs = s.hints.hints in
    bought_made hs h team slot
    ∙ ap₂ (λ (b : Bool) (o : Option Hint). length (bought_by hs team slot) + cond (b && (h.team == team) && (h.buyer == slot) && not (is_some o)) 1 0) is.paid is.none
    ∙ ap₂ (λ (t p : ℕ). length (bought_by hs team slot) + cond ((t == team) && (p == slot) && true) 1 0) is.team is.buyer
    ∙ elim ((m.team == team) && (m.slot == slot)) as (λ b. length (bought_by hs team slot) + cond (b && true) 1 0 ≡ length (bought_by hs team slot) + cond b 1 0) [ true ↦ refl | false ↦ refl ]
    ∙ ap₂ (λ (t : ℕ) (o : Option ℕ). length (bought_by hs team slot) + elim o [ None ↦ 0 | Some p ↦ cond ((t == team) && (p == slot)) 1 0 ]) (sym of) (sym payer)

pub bought_effect : (e : Effect) (s : Standing) (m : Member) (entry : HintRecord) (h : Hint) → IsBought (standing_of s) m.team m.slot h → hint_view entry ≡ hint h
    → map record_view e.records ≡ map hint_view e.hints → e.hints ≡ entry ∷ []
    → e.team ≡ m.team → e.new ≡ [] → e.status ≡ None → e.payer ≡ Some m.slot → e.stored ≡ None
    → effect_view e ≡ record { records = map record_view e.records; answers = []; whole = false; member = None; announced = hint_told (standing_of s) h (held_at s.log.seed h.finder h.location) }
    → IsEffect e s (buying s.log.seed (standing_of s) (plain_hints.bought h))
bought_effect e s m entry h is same records hints of new status payer stored view =
    let now = standing_of s in
    let one : map hint_view e.hints ≡ hint h ∷ [] = ap (map hint_view) hints ∙ ap (λ (r : recorded.Record). r ∷ []) same in
    record {
      is = view ∙ ap (λ (rs : List recorded.Record). record { records = rs; answers = []; whole = false; member = None; announced = hint_told now h (held_at s.log.seed h.finder h.location) }) (records ∙ one);
      logged =
          hints_logged e s new status stored records
          (λ team slot. ap (λ (rs : List recorded.Record). length (bought_by (hinted_all now.hints rs) team slot)) one ∙ bought_paid e s m h is of payer team slot);
    }
