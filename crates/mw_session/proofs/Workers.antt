-- What a worker's links add up to.
use Rattle.std.proofs.Common.{◌≡◌, ℕ, ◌<◌, ◌≤◌, ◌+◌, ◌*◌, Bool, true, false, ◌||◌, List, [], ◌∷◌, ◌++◌, length, refl, ap, sym, subst, ◌∙◌, append_assoc, append-nil, arith, length-append, ⊎_elim}
use Rattle.std.specs.Prelude.{Option, None, Some, is_some}
use Rattle.std.specs.Option.{option_or}
use Rattle.std.proofs.lemmas.Bool.{false≢true}
use Rattle.atomic_table.specs.Seated.{TableId}
use Rattle.mw_link.specs.declared.link.Heard.{Heard}
use Rattle.mw_link.specs.Tells.{IsNew}
use Rattle.mw_lock.specs.Passes.{first_pass, IsNewBeside, Meets}
use Rattle.mw_keep.specs.declared.call.Call.{Call}
use Rattle.mw_keep.specs.declared.reply.Reply.{Reply}
use Rattle.mw_keep.specs.declared.reply.StopCause.{StopCause}
use Rattle.mw_session.specs.declared.ended.Ended.{Ended}
use Rattle.mw_session.specs.declared.served.Served.{Served}
use Rattle.mw_session.specs.Desks.{link_weight}
use Rattle.mw_session.specs.Passes.{RoomPass, Runs}
use Rattle.mw_session.specs.Rooms.{count_all, one_if, Accounts, AreEntries, HasMet, IsDone, IsEntry, IsReport, ServesOne}
use Rattle.mw_session.specs.Sessions.{IsSession}
use Rattle.mw_session.specs.Stops.{stop_among, stop_in}
use Rattle.mw_session.proofs.Halts.{stop_more}

pub or_false : (a b : Bool) → (a || b) ≡ false → (a ≡ false) × (b ≡ false)
or_false true b h = absurd (false≢true (sym h))
or_false false b h = (refl, h)

pub is_some_first : {A : Type 0} (a b : Option A) → is_some (option_or a b) ≡ false → (is_some a ≡ false) × (is_some b ≡ false)
is_some_first None b h = (refl, h)
is_some_first (Some x) b h = absurd (false≢true (sym h))

module _ {T : Type 0} (heard_by : T → List Heard) (sent_by : T → List (List ℕ)) (faults : T → ℕ) (opened : T → ℕ) (is_shut : T → Bool) where
  module _ {B : Type 0} where
    -- a session over a new link, which is then shut
    pub serves_entry : (v w : RoomPass B) (old mid new : T) (session : Option ℕ) (ended : Ended) (stopped : Option StopCause) → IsNew heard_by sent_by faults is_shut old → Runs heard_by sent_by faults opened (opened old) v old session ended stopped w mid → heard_by new ≡ heard_by mid → sent_by new ≡ sent_by mid → faults new ≡ faults mid → opened new ≡ opened mid → is_shut new ≡ true → ServesOne heard_by sent_by faults opened is_shut v (record { line = new; session = session; ended = ended }) stopped w
    serves_entry v w old mid new session ended stopped fresh h same_heard same_sent same_faults same_time shut =
        let heard : heard_by new ≡ h.1 = same_heard ∙ (h.4.hears ∙ ap (λ l. l ++ h.1) fresh.heard) in
        let sent : sent_by new ≡ h.2 = same_sent ∙ (h.4.sends ∙ ap (λ l. l ++ h.2) fresh.sent) in
        let time : opened new ≡ opened old = same_time ∙ h.4.time in
        let is : IsSession (opened old) h.0 h.1 h.2 (0 < faults mid) session ended = subst (λ n. IsSession (opened old) h.0 h.1 h.2 (n < faults mid) session ended) fresh.unfailed h.5 in (
          h.0,
          h.3,
          (
            subst (λ n. IsSession n h.0 (heard_by new) (sent_by new) (0 < faults new) session ended) (sym time)
                (subst (λ n. IsSession (opened old) h.0 (heard_by new) (sent_by new) (0 < n) session ended) (sym same_faults)
                (subst (λ l. IsSession (opened old) h.0 l (sent_by new) (0 < faults mid) session ended) (sym heard)
                (subst (λ l. IsSession (opened old) h.0 h.1 l (0 < faults mid) session ended) (sym sent) is))),
            shut,
          ),
          h.6,
        )

  entries_more : (es : List (Served T)) (calls : List (Call × Reply)) (e : Served T) (own : List (Call × Reply)) → AreEntries heard_by sent_by faults opened is_shut es calls → IsEntry heard_by sent_by faults opened is_shut e own → AreEntries heard_by sent_by faults opened is_shut (es ++ e ∷ []) (calls ++ own)
  entries_more [] calls e own h k = (own, [], ap (λ l. l ++ own) h ∙ sym (append-nil own), k, refl)
  entries_more (x ∷ xs) calls e own h k = (h.0, h.1 ++ own, ap (λ l. l ++ own) h.2 ∙ append_assoc h.0 h.1 own, h.3, entries_more xs h.1 e own h.4 k)

  -- a worker has served one link more
  pub report_more : {B : Type 0} (lock : TableId) (v w : RoomPass B) (parts amount parts' amount' : ℕ) (es all : List (Served T)) (e : Served T) (over : Bool) (before now stopped : Option StopCause) → IsReport heard_by sent_by faults opened is_shut lock v parts amount es over before → ServesOne heard_by sent_by faults opened is_shut v e now w → parts' ≡ parts → amount' ≡ amount + link_weight → all ≡ es ++ e ∷ [] → stopped ≡ option_or before now → IsReport heard_by sent_by faults opened is_shut lock w parts' amount' all over stopped
  report_more lock v w parts amount parts' amount' es all e over before now stopped r s same_parts one_more grown halts =
      subst (λ l. IsReport heard_by sent_by faults opened is_shut lock w parts' amount' l over stopped) (sym grown) (record {
        of_lock = ap (λ (z : RoomPass _). z.lock) s.1.own ∙ r.of_lock;
        alone = ap (λ (z : RoomPass _). z.ended) s.1.own ∙ r.alone;
        part = same_parts ∙ r.part;
        counted = let c = r.counted in let l = length-append es (e ∷ []) in omega arith;
        entries = subst (AreEntries heard_by sent_by faults opened is_shut (es ++ e ∷ [])) (sym (ap (λ (z : RoomPass _). z.own) s.1.own)) (entries_more es v.own e s.0 r.entries s.2);
        stops = ap (λ (z : RoomPass _). stop_in z.own) s.1.own ∙ (stop_more v.own s.0 ∙ (ap (λ o. option_or o (stop_in s.0)) r.stops ∙ (ap (option_or before) s.3 ∙ sym halts)));
      })

  -- a worker was told that no link is left
  pub report_over : {B : Type 0} (lock : TableId) (v : RoomPass B) (parts amount parts' amount' : ℕ) (es : List (Served T)) (over : Bool) (stopped : Option StopCause) → over ≡ false → IsReport heard_by sent_by faults opened is_shut lock v parts amount es over stopped → parts' ≡ parts → amount' ≡ amount + 1 → IsReport heard_by sent_by faults opened is_shut lock v parts' amount' es true stopped
  report_over lock v parts amount parts' amount' es over stopped untold r same_parts one_more = record {
    of_lock = r.of_lock;
    alone = r.alone;
    part = same_parts ∙ r.part;
    counted = let c : amount ≡ link_weight * length es + 0 = r.counted ∙ ap (λ b. link_weight * length es + one_if b) untold in omega arith;
    entries = r.entries;
    stops = r.stops;
  }

  -- or it learned nothing
  pub report_same : {B : Type 0} (lock : TableId) (v : RoomPass B) (parts amount parts' amount' : ℕ) (es all : List (Served T)) (over : Bool) (stopped : Option StopCause) → IsReport heard_by sent_by faults opened is_shut lock v parts amount es over stopped → parts' ≡ parts → amount' ≡ amount + 0 → all ≡ es → IsReport heard_by sent_by faults opened is_shut lock v parts' amount' all over stopped
  report_same lock v parts amount parts' amount' es all over stopped r same_parts same_amount same = subst (λ l. IsReport heard_by sent_by faults opened is_shut lock v parts' amount' l over stopped) (sym same) (record {
    of_lock = r.of_lock;
    alone = r.alone;
    part = same_parts ∙ r.part;
    counted = let c = r.counted in omega arith;
    entries = r.entries;
    stops = r.stops;
  })

  pub report_new : {B : Type 0} (lock : TableId) (v p : RoomPass B) → v.lock ≡ lock → IsNewBeside v p → IsReport heard_by sent_by faults opened is_shut lock p 1 0 [] false None
  report_new lock v p of new = record {
    of_lock = ap (λ (z : RoomPass _). z.lock) new.0 ∙ of;
    alone = ap (λ (z : RoomPass _). z.ended) new.0;
    part = refl;
    counted = refl;
    entries = ap (λ (z : RoomPass _). z.own) new.0;
    stops = ap (λ (z : RoomPass _). stop_in z.own) new.0;
  }

  count_more : (xs : List (List (Served T))) (x : List (Served T)) → count_all (xs ++ x ∷ []) ≡ count_all xs + length x
  count_more [] x = omega arith
  count_more (y ∷ ys) x = omega (arith, count_more ys x)

  one_at_most : (b : Bool) → one_if b ≤ 1
  one_at_most true = omega arith
  one_at_most false = omega arith

  -- a worker that is done, but not for want of memory or since the room has stopped, knows that no link is left
  knows : (over memory : Bool) (stopped : Option StopCause) → IsDone over memory stopped → memory ≡ false → is_some stopped ≡ false → one_if over ≡ 1
  knows over memory stopped done enough on =
      ⊎_elim (λ o. ap one_if o) (λ r. ⊎_elim (λ m. absurd (false≢true (sym enough ∙ m))) (λ s. absurd (false≢true (sym on ∙ s))) r) done

  -- one worker more has met
  pub met_more : {B : Type 0} (lock : TableId) (base : B) (v o w : RoomPass B) (amount parts counted amount' : ℕ) (served all : List (List (Served T))) (list : List (Served T)) (over memory lacking lacking' : Bool) (halt before stopped : Option StopCause)
      → HasMet heard_by sent_by faults opened is_shut lock base v amount served lacking before → IsReport heard_by sent_by faults opened is_shut lock o parts counted list over halt → IsDone over memory halt → Meets v o w → amount' ≡ amount + counted → all ≡ served ++ list ∷ []
      → (lacking' ≡ false → (lacking ≡ false) × (memory ≡ false)) → stopped ≡ option_or halt before → HasMet heard_by sent_by faults opened is_shut lock base w amount' all lacking' stopped
  met_more lock base v o w amount parts counted amount' served all list over memory lacking lacking' halt before stopped met report done m sum grown lacks halts =
      let ended : w.ended ≡ (o.number, o.own) ∷ v.ended = ap (λ (z : RoomPass _). z.ended) m.0 ∙ ap (λ l. (o.number, o.own) ∷ (l ++ v.ended)) report.alone in
      let long = length-append served (list ∷ []) in
      subst (λ l. HasMet heard_by sent_by faults opened is_shut lock base w amount' l lacking' stopped) (sym grown) (record {
        of_lock = ap (λ (z : RoomPass _). z.lock) m.0 ∙ met.of_lock;
        of_base = ap (λ (z : RoomPass _). z.base) m.0 ∙ met.of_base;
        none = ap (λ (z : RoomPass _). z.own) m.0 ∙ met.none;
        accounts = subst (Accounts heard_by sent_by faults opened is_shut (served ++ list ∷ [])) (sym ended) (served, list, refl, report.entries, met.accounts);
        stops = ap stop_among ended ∙ (ap (λ s. option_or s (stop_among v.ended)) report.stops ∙ (ap (option_or halt) met.stops ∙ sym halts));
        know = met.know + one_if over;
        counted = let a = met.counted in let b = report.counted in let c = count_more served list in omega arith;
        few = let a = met.few in let b = one_at_most over in omega arith;
        all_know = λ enough on. let both = is_some_first halt before (ap is_some (sym halts) ∙ on) in let one = knows over memory halt done (lacks enough).1 both.0 in let rest = met.all_know (lacks enough).0 both.1 in omega arith;
      })

-- the first pass of a lock, before any worker has met in it
module _ {T : Type 0} (heard_by : T → List Heard) (sent_by : T → List (List ℕ)) (faults : T → ℕ) (opened : T → ℕ) (is_shut : T → Bool) where
  pub none_met : {B : Type 0} (lock : TableId) (b : B) (v : RoomPass B) (amount : ℕ) (served : List (List (Served T))) → v ≡ first_pass lock b → amount ≡ 0 → served ≡ []
      → HasMet heard_by sent_by faults opened is_shut lock v.base v amount served false None
  none_met lock b v amount served is zero none = record {
    of_lock = ap (λ (z : RoomPass _). z.lock) is;
    of_base = refl;
    none = ap (λ (z : RoomPass _). z.own) is;
    accounts = subst (Accounts heard_by sent_by faults opened is_shut served) (sym (ap (λ (z : RoomPass _). z.ended) is)) none;
    stops = ap (λ (z : RoomPass _). stop_among z.ended) is;
    know = 0;
    counted = zero ∙ sym (ap (λ s. link_weight * count_all s + 0) none);
    few = omega arith;
    all_know = λ fine on. sym (ap length none);
  }
