-- Sets: their refusals, and what those that aren't refused come to.
use Rattle.std.proofs.Common.{◌≡◌, ℕ, List, [], ◌∷◌, ◌++◌, Bool, true, false, Option, Ok, Err, append-nil, cond, bytes_eq, codes, ◌||◌, length, map, refl, sym, ap, ap₂, ◌∙◌, subst}
use Rattle.mw_model.specs.Json.{Json, Members, no_members, member}
use Rattle.mw_model.specs.Passed.{AreFurther}
use Rattle.mw_model.specs.Sets.{SetPacket}
use Rattle.mw_model.specs.Texts.{has_text}
use Rattle.mw_protocol.specs.Checks.{Check}
use Rattle.mw_protocol.specs.Connecting.{Member}
use Rattle.mw_protocol.specs.Effect as plain
use Rattle.mw_protocol.specs.Effect.{answering, recording}
use Rattle.mw_protocol.specs.Further.{others}
use Rattle.mw_protocol.specs.Heard.{Announced}
use Rattle.mw_protocol.specs.HintList.{bought_by, hinted_all}
use Rattle.mw_protocol.specs.Messages.{invalid_packet}
use Rattle.mw_protocol.specs.Standing.{Standing, steps}
use Rattle.mw_protocol.specs.Statuses.{SlotStatus}
use Rattle.mw_protocol.specs.Storage.{Kept, Refused, Changed, set_case, value_of}
use Rattle.mw_protocol.specs.Storing.{changing, is_kept, refused_by, reply_names, storing}
use Rattle.mw_checks.specs.Log.{AreFresh, checks_of}
use Rattle.mw_json.specs.Sets.{set_names}
use Rattle.mw_packets_out.specs.Kept.{set_reply_names}
use Rattle.mw_records.specs.Records.{record_view, hint_view}
use Rattle.mw_base.specs.declared.hint.HintRecord.{HintRecord}
use Rattle.mw_packets_in.proofs.Passed.{others_after}
use Rattle.mw_effects.specs.Parts.{kept_by, standing_of, stated_by}
use Rattle.mw_effects.specs.Storing.{IsKeeping, records_where, stored_where, told_of}
use Rattle.mw_effects.specs.Views.{effect_view, IsEffect}
use Rattle.mw_effects.specs.declared.effect.Effect.{Effect}
use Rattle.mw_effects.specs.declared.standing.Standing.{Standing as RustStanding}
use Rattle.mw_effects.proofs.Effects.{none_paid}

-- ---- refusals

-- what is answered is the effect of each Set that is refused so
pub refused_is : (now : Standing) (m : Member) (set : SetPacket) (r : Refused) (e : plain.Effect) → set_case now.storage set ≡ Err r
    → e ≡ answering (invalid_packet (refused_by r)) → e ≡ changing now m set
refused_is now m set r e case is = is ∙ sym (ap (storing now m set) case)

-- ---- the answer's further members

neither : (a b : Bool) → (a || b) ≡ false → (a ≡ false) × (b ≡ false)
neither false false h = (refl, refl)
neither false true h = cc
neither true b h = cc

not_reply : (k : List ℕ) → has_text set_names k ≡ false → has_text reply_names k ≡ false → has_text set_reply_names k ≡ false
not_reply k a b =
    let own : List (List ℕ) = codes "default" ∷ codes "want_reply" ∷ codes "operations" ∷ [] in
    let first = neither (bytes_eq (codes "cmd") k) (bytes_eq (codes "key") k || has_text own k) a in
    let second = neither (bytes_eq (codes "key") k) (has_text own k) first.1 in
    ap (λ x. x || (bytes_eq (codes "key") k || has_text reply_names k)) first.0 ∙ ap (λ x. x || has_text reply_names k) second.0 ∙ b

-- those of a Set that the answer hasn't itself
pub further_left : (ms : Members) → AreFurther set_names ms → AreFurther set_reply_names (others reply_names ms)
further_left no_members h = tt
further_left (member k j ms) h =
    (elim (has_text reply_names k) as (λ own. has_text reply_names k ≡ own → AreFurther set_reply_names (cond own (others reply_names ms) (member k j (others reply_names ms)))) [
      | true ↦ (λ e. further_left ms h.3)
      | false ↦ (λ e. (not_reply k h.0 e, h.1, others_after reply_names k ms h.2, further_left ms h.3))
    ]) refl

-- ---- effects

-- the record of a key's value changes the data storage alone
steps_stored : (seed : _) (s : Standing) (b : Bool) (key : List ℕ) (value : Json)
    → record { checked = s.checked ++ []; statuses = s.statuses; hints = s.hints; storage = kept_by (stored_where b key value) s.storage } ≡ steps seed s (records_where b key value)
steps_stored seed s true key value = ap (λ (cs : List Check). record { checked = cs; statuses = s.statuses; hints = s.hints; storage = s.storage }) (append-nil s.checked)
steps_stored seed s false key value = refl

-- a Set that isn't refused
pub change_effect : (e : Effect) (s : RustStanding) (m : Member) (set : SetPacket) (c : Changed) (announced : List Announced)
    → set_case s.store.kept set ≡ Ok c → IsKeeping e
    → map record_view e.records ≡ records_where (is_kept c.new (value_of set.key s.store.kept)) set.key c.new
    → e.stored ≡ stored_where (is_kept c.new (value_of set.key s.store.kept)) set.key c.new
    → announced ≡ told_of m set c
    → effect_view e ≡ recording (map record_view e.records) announced
    → IsEffect e s (changing (standing_of s) m set)
change_effect e s m set c announced case kept records stored told view =
    let b = is_kept c.new (value_of set.key s.store.kept) in
    record {
      is = view ∙ ap₂ recording records told ∙ sym (ap (storing (standing_of s) m set) case);
      logged = record {
        fresh = subst (AreFresh s.log.seed s.log.checked e.team) (sym kept.new) tt;
        comes_to =
            ap₂ (λ (ps : List (ℕ × _)) (o : Option SlotStatus). record { checked = s.log.checked ++ checks_of e.team ps; statuses = stated_by o s.statuses.items; hints = hinted_all s.hints.hints (map hint_view e.hints); storage = kept_by e.stored s.store.kept }) kept.new kept.status
            ∙ ap₂ (λ (hs : List HintRecord) (k : Option Kept). record { checked = s.log.checked ++ []; statuses = s.statuses.items; hints = hinted_all s.hints.hints (map hint_view hs); storage = kept_by k s.store.kept }) kept.hints stored
            ∙ steps_stored s.log.seed (standing_of s) b set.key c.new
            ∙ ap (steps s.log.seed (standing_of s)) (sym records);
        paid = λ team slot.
            ap (λ (hs : List HintRecord). length (bought_by (hinted_all s.hints.hints (map hint_view hs)) team slot)) kept.hints
            ∙ none_paid e (length (bought_by s.hints.hints team slot)) team slot kept.payer;
      };
    }
