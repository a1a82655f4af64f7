-- One history of all that workers did, and whether all links were accepted.
use Rattle.std.proofs.Common.{◌≡◌, ◌⊎◌, ℕ, ◌<◌, ◌≤◌, Bool, true, false, ◌||◌, List, [], ◌∷◌, ◌++◌, refl, ap, sym, subst, ◌∙◌, arith, ⊎_elim, inl, inr}
use Rattle.std.specs.Prelude.{Option, None, Some, is_some}
use Rattle.std.specs.Option.{option_or}
use Rattle.std.proofs.lemmas.Bool.{false≢true, leb-true}
use Rattle.atomic_table.specs.Seated.{TableId}
use Rattle.mw_lock.specs.History.{entry, events, IsLegal}
use Rattle.mw_lock.specs.Passes.{IsWhole}
use Rattle.mw_link.specs.declared.link.Heard.{Heard}
use Rattle.mw_keep.specs.declared.call.Call.{Call}
use Rattle.mw_keep.specs.declared.call.Call.TheVariants.{Commit}
use Rattle.mw_keep.specs.declared.reply.Reply.{Reply}
use Rattle.mw_keep.specs.declared.reply.StopCause.{StopCause}
use Rattle.mw_session.specs.declared.served.Served.{Served}
use Rattle.mw_session.specs.Desks.{is_reached, AreAll, HasNone, IsWithin}
use Rattle.mw_session.specs.Passes.{RoomPass}
use Rattle.mw_session.specs.Rooms.{Accounts, Commits, HasMet, IsFull, OneHistory}
use Rattle.mw_session.specs.Stops.{lacks_by, stop_among, stop_by, stop_in}
use Rattle.mw_session.proofs.Halts.{or_none}
use Rattle.mw_session.proofs.Workers.{is_some_first, or_false}

module _ {T : Type 0} (heard_by : T → List Heard) (sent_by : T → List (List ℕ)) (faults : T → ℕ) (opened : T → ℕ) (is_shut : T → Bool) where
  -- the passes have met, and one Commit is made
  pub history_of : {B : Type 0} (replies : B → List (Call × Reply) → Call → Reply → Type 0) (lock : TableId) (base : B) (v w : RoomPass B) (amount : ℕ) (served : List (List (Served T))) (lacking memory : Bool) (before stopped : Option StopCause) (reply : Reply)
      → HasMet heard_by sent_by faults opened is_shut lock base v amount served lacking before → Commits replies v reply w → IsWhole w → stopped ≡ option_or (stop_by reply) before → (memory ≡ false → lacks_by reply ≡ false)
      → OneHistory heard_by sent_by faults opened is_shut replies base (events w.seen) served memory stopped
  history_of replies lock base v w amount served lacking memory before stopped reply met k whole halts safe =
      let same_base : w.base ≡ base = ap (λ (z : RoomPass _). z.base) k.1 ∙ met.of_base in
      let mine : w.own ≡ (Commit, reply) ∷ [] = ap (λ (z : RoomPass _). z.own) k.1 ∙ ap (λ l. l ++ (Commit, reply) ∷ []) met.none in
      let others : w.ended ≡ v.ended = ap (λ (z : RoomPass _). z.ended) k.1 in record {
        pass = w;
        reply = reply;
        before = k.0;
        all = refl;
        of_base = same_base;
        legal = subst (λ b. IsLegal (replies b) w.seen) same_base k.2;
        last = ap (λ (z : RoomPass _). z.seen) k.1 ∙ ap (λ n. k.0 ++ entry n (Commit, reply) ∷ []) (sym (ap (λ (z : RoomPass _). z.number) k.1));
        whole = whole;
        own = mine;
        accounts = subst (Accounts heard_by sent_by faults opened is_shut served) (sym others) met.accounts;
        stops = ap (λ o. option_or o (stop_among w.ended)) (ap stop_in mine ∙ or_none (stop_by reply)) ∙ (ap (option_or (stop_by reply)) (ap stop_among others ∙ met.stops) ∙ sym halts);
        safe = safe;
      }

-- ---- all links

reached_all : {T : Type 0} (accept : Option ℕ) (accepted : ℕ) (left : Option (List T)) (ended : Bool) → IsWithin accept accepted → is_reached accept accepted ≡ true → AreAll accept accepted left ended
reached_all None accepted left ended within reached = absurd (false≢true reached)
reached_all (Some limit) accepted left ended within reached = ((let up = leb-true limit accepted reached in omega arith), inl reached)

none_left : {T : Type 0} (accept : Option ℕ) (accepted : ℕ) (left : Option (List T)) (ended : Bool) → IsWithin accept accepted → HasNone left ended → AreAll accept accepted left ended
none_left None accepted left ended within none = ((let k = none.0 in omega arith), inr none.1)
none_left (Some limit) accepted left ended within none = ((let k = none.0 in omega arith), inr none.1)

-- all workers came back, and know that no link is left, unless memory was wanting or the room has stopped
pub is_full : {T : Type 0} (accept : Option ℕ) (failed lacking fewer short : Bool) (before halt stopped : Option StopCause) (accepted : ℕ) (left : Option (List T)) (ended : Bool) (told know workers many : ℕ) → IsWithin accept accepted → stopped ≡ option_or halt before → told ≡ know → 1 ≤ workers
    → (fewer ≡ false → workers ≤ many) → (lacking ≡ false → is_some before ≡ false → know ≡ many) → (0 < told → failed ≡ false → (is_reached accept accepted ≡ true) ⊎ HasNone left ended)
    → IsFull accept failed ((lacking || fewer) || short) stopped accepted left ended
is_full accept failed lacking fewer short before halt stopped accepted left ended told know workers many within halts same some all know_all why fine enough on =
    let most = or_false (lacking || fewer) short enough in let parts = or_false lacking fewer most.0 in let both = is_some_first halt before (ap is_some (sym halts) ∙ on) in
    let knows = know_all parts.0 both.1 in let came = all parts.1 in
    ⊎_elim (reached_all accept accepted left ended within) (none_left accept accepted left ended within) (why (omega arith) fine)
