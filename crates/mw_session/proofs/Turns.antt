-- Turns of a session, one behind the other.
use Rattle.std.proofs.Common.{◌≡◌, ℕ, ◌<◌, ◌≤◌, List, [], ◌∷◌, ◌++◌, length, refl, ap, sym, subst, ◌∙◌, append_assoc, append-nil, ⊎_elim, inl, inr, arith, Bool, if◌then◌else◌}
use Rattle.std.specs.Prelude.{Option, None, Some}
use Rattle.std.proofs.lemmas.Bool.{le-ltb, lt-ltb}
use mathlib.Core.List.{IsPrefix}
use Rattle.mw_lock.proofs.Lists.{prefix_self}
use Rattle.mw_link.specs.declared.link.Heard.{Heard}
use Rattle.mw_link.specs.declared.link.Heard.TheVariants.{Words, Binary, End}
use Rattle.mw_protocol.specs.Lives as plain
use Rattle.mw_keep.specs.Views.{call_view}
use Rattle.mw_keep.specs.declared.call.Call.{Call}
use Rattle.mw_keep.specs.declared.call.Call.TheVariants.{Take}
use Rattle.mw_keep.specs.declared.reply.Reply.{Reply}
use Rattle.mw_keep.specs.declared.reply.Reply.TheVariants as R
use Rattle.mw_session.specs.declared.ended.Ended.{Ended}
use Rattle.mw_session.specs.declared.ended.Ended.TheVariants as Ends
use Rattle.mw_session.specs.Answered.{calls_of, end_by, texts_of, taken, taken_by, LastEnds, NoneEnds}
use Rattle.mw_session.specs.Asked.{asked_by, asks, limit, no_json, turns, AllGoOn, GoesOn}
use Rattle.mw_session.specs.Passes.{Acts, Carries, Heeds, Makes, RoomPass, Stops, TakesAll, Turned}
use Rattle.mw_session.specs.Sessions.{Talked, Whole, Why}
use Rattle.mw_session.proofs.Lists.{prefix_trans, prefix_is, calls_more, taken_more, turns_more, none_more, last_more, on_more, in_more}

-- ---- the pass and the link

pub makes_more : {B : Type 0} (v w x : RoomPass B) (a b : List (Call × Reply)) → Makes v a w → Makes w b x → Makes v (a ++ b) x
makes_more v w x a b p q = record {
  own = q.own ∙ (ap (λ (u : RoomPass _). let z : RoomPass _ = record u { seen = x.seen; own = u.own ++ b } in z) p.own ∙ ap (λ (l : List (Call × Reply)). let z : RoomPass _ = record v { seen = x.seen; own = l } in z) (append_assoc v.own a b));
  seen = prefix_trans v.seen w.seen x.seen p.seen q.seen;
}

module _ {L : Type 0} (heard_by : L → List Heard) (sent_by : L → List (List ℕ)) (faults : L → ℕ) (moment : L → ℕ) where
  pub carries_more : (old mid new : L) (h k : List Heard) (s t : List (List ℕ)) → Carries heard_by sent_by faults moment old mid h s → Carries heard_by sent_by faults moment mid new k t → Carries heard_by sent_by faults moment old new (h ++ k) (s ++ t)
  carries_more old mid new h k s t p q = record {
    hears = q.hears ∙ (ap (λ w. w ++ k) p.hears ∙ append_assoc (heard_by old) h k);
    sends = q.sends ∙ (ap (λ w. w ++ t) p.sends ∙ append_assoc (sent_by old) s t);
    later = let a = p.later in let b = q.later in omega arith;
    time = q.time ∙ p.time;
  }

-- ---- whole turns, and an end behind them

module _ (s : ℕ) (c₀ : List (Call × Reply)) (h₀ : List Heard) (t₀ : List (List ℕ)) (whole : Whole s c₀ h₀ t₀) (c : List (Call × Reply)) (h : List Heard) (t : List (List ℕ)) where
  asked_more : (rest : List plain.Call) → calls_of c ≡ turns s h ++ rest → calls_of (c₀ ++ c) ≡ turns s (h₀ ++ h) ++ rest
  asked_more rest e = calls_more c₀ c ∙ (ap (λ w. w ++ calls_of c) whole.asked ∙ (ap (λ w. turns s h₀ ++ w) e ∙ (sym (append_assoc (turns s h₀) (turns s h) rest) ∙ ap (λ w. w ++ rest) (sym (turns_more s h₀ h)))))

  asked_just : calls_of c ≡ turns s h → calls_of (c₀ ++ c) ≡ turns s (h₀ ++ h)
  asked_just e = asked_more [] (e ∙ sym (append-nil (turns s h))) ∙ append-nil (turns s (h₀ ++ h))

  sent_more : t ≡ taken_by c → t₀ ++ t ≡ taken_by (c₀ ++ c)
  sent_more e = ap (λ w. w ++ t) whole.all_sent ∙ (ap (λ w. taken_by c₀ ++ w) e ∙ sym (taken_more c₀ c))

  pub whole_more : Whole s c h t → Whole s (c₀ ++ c) (h₀ ++ h) (t₀ ++ t)
  whole_more w = record {
    asked = asked_just w.asked;
    go_on = none_more c₀ c whole.go_on w.go_on;
    heard_on = on_more h₀ h whole.heard_on w.heard_on;
    all_sent = sent_more w.all_sent;
  }

  why_more : (rose rose' : Type 0) (e : Ended) → (rose → rose') → Why s c h t rose e → Why s (c₀ ++ c) (h₀ ++ h) (t₀ ++ t) rose' e
  why_more rose rose' Ends.Closed up w = (in_more h₀ h End whole.heard_on w.0, asked_just w.1, none_more c₀ c whole.go_on w.2, sent_more w.3)
  why_more rose rose' (Ends.TooLong n) up w = (w.0, in_more h₀ h (Words w.0) whole.heard_on w.1, w.2, w.3, asked_just w.4, none_more c₀ c whole.go_on w.5, sent_more w.6)
  why_more rose rose' Ends.LinkFault up w = (up w.0, on_more h₀ h whole.heard_on w.1, asked_more (plain.takes s ∷ []) w.2, none_more c₀ c whole.go_on w.3)
  why_more rose rose' Ends.Memory up w = (on_more h₀ h whole.heard_on w.0, ⊎_elim (λ k. inl (none_more c₀ c whole.go_on k)) (λ k. inr (last_more Ends.Memory c₀ c whole.go_on k)) w.1)
  why_more rose rose' Ends.Gone up w = (on_more h₀ h whole.heard_on w.0, last_more Ends.Gone c₀ c whole.go_on w.1, sent_more w.2)
  why_more rose rose' Ends.Overrun up w = (on_more h₀ h whole.heard_on w.0, last_more Ends.Overrun c₀ c whole.go_on w.1, sent_more w.2)
  why_more rose rose' (Ends.Stopped n) up w = (on_more h₀ h whole.heard_on w.0, last_more (Ends.Stopped n) c₀ c whole.go_on w.1, sent_more w.2)

  pub talked_more : (rose rose' : Type 0) (e : Ended) → (rose → rose') → Talked s c h t rose e → Talked s (c₀ ++ c) (h₀ ++ h) (t₀ ++ t) rose' e
  talked_more rose rose' e up k = record {
    asked = (k.asked.0, ap (λ w. w ++ k.asked.0) (calls_more c₀ c) ∙ (append_assoc (calls_of c₀) (calls_of c) k.asked.0 ∙ (ap (λ w. calls_of c₀ ++ w) k.asked.1 ∙ (ap (λ w. w ++ (turns s h ++ plain.takes s ∷ [])) whole.asked ∙ (sym (append_assoc (turns s h₀) (turns s h) (plain.takes s ∷ [])) ∙ ap (λ w. w ++ plain.takes s ∷ []) (sym (turns_more s h₀ h)))))));
    first_sent = (k.first_sent.0, append_assoc t₀ t k.first_sent.0 ∙ (ap (λ w. t₀ ++ w) k.first_sent.1 ∙ (ap (λ w. w ++ taken_by c) whole.all_sent ∙ sym (taken_more c₀ c))));
    why = why_more rose rose' e up k.why;
  }

-- ---- nothing yet

pub makes_none : {B : Type 0} (v : RoomPass B) → Makes v [] v
makes_none v = record {
  own = ap (λ (l : List (Call × Reply)). let z : RoomPass _ = record v { own = l } in z) (sym (append-nil v.own));
  seen = prefix_self v.seen;
}

pub makes_lock : {B : Type 0} (v w : RoomPass B) (calls : List (Call × Reply)) → Makes v calls w → w.lock ≡ v.lock
makes_lock v w calls p = ap (λ (z : RoomPass _). z.lock) p.own

pub whole_none : (s : ℕ) → Whole s [] [] []
whole_none s = record { asked = refl; go_on = tt; heard_on = tt; all_sent = refl }

-- ---- the calls of a message

-- some calls are made, and these are left
abbrev pub ActsFirst : {B : Type 0} → List plain.Call → RoomPass B → List plain.Call → RoomPass B → Type 0
ActsFirst all v rest w =
    (calls : List (Call × Reply)) × Makes v calls w × (calls_of calls ++ rest ≡ all) × NoneEnds calls
    × (taken_by calls ≡ [])

pub acts_first : {B : Type 0} (all : List plain.Call) (v : RoomPass B) → ActsFirst all v all v
acts_first all v = ([], makes_none v, refl, tt, refl)

module _ {B : Type 0} (all rest : List plain.Call) (v w x : RoomPass B) (a : Call) (r : Reply) (before : ActsFirst all v (call_view a ∷ rest) w) (untaken : taken a r ≡ []) (made : Makes w ((a, r) ∷ []) x) where
  abbrev one : List (Call × Reply)
  one = (a, r) ∷ []

  asked_one : calls_of (before.0 ++ one) ++ rest ≡ all
  asked_one = ap (λ l. l ++ rest) (calls_more before.0 one) ∙ (append_assoc (calls_of before.0) (call_view a ∷ []) rest ∙ before.2)

  none_one : taken_by (before.0 ++ one) ≡ []
  none_one = taken_more before.0 one ∙ (ap (λ l. l ++ taken_by one) before.4 ∙ ap (λ l. l ++ []) untaken)

  pub acts_more : end_by r ≡ None → ActsFirst all v rest x
  acts_more e = (before.0 ++ one, makes_more v w x before.0 one before.1 made, asked_one, none_more before.0 one before.3 (e, tt), none_one)

  pub acts_end : (e : Ended) → end_by r ≡ Some e → Acts all v (Some e) x
  acts_end e h = (
    before.0 ++ one,
    makes_more v w x before.0 one before.1 made,
    none_one,
    (rest, asked_one),
    inr (last_more e before.0 one before.3 h),
  )

pub acts_all : {B : Type 0} (all : List plain.Call) (v w : RoomPass B) → ActsFirst all v [] w → Acts all v None w
acts_all all v w h = (h.0, h.1, sym (append-nil (calls_of h.0)) ∙ h.2, h.3, h.4)

pub acts_none : {B : Type 0} (all : List plain.Call) (v : RoomPass B) → Acts all v (Some Ends.Memory) v
acts_none all v = ([], makes_none v, refl, (all, refl), inl (refl, refl))

-- ---- what was heard

asked_words : (s : ℕ) (text : List ℕ) → length text ≤ limit → asked_by s (Words text) ≡ asks s text
asked_words s text short = ap (λ (b : Bool). if b then [] else asks s text) (le-ltb limit (length text) short)

module _ {B : Type 0} (s : ℕ) (h : Heard) (on : GoesOn h) (all : List plain.Call) (is : asked_by s h ≡ all) (v : RoomPass B) (w : RoomPass B) where
  heeds_by : (r : Option Ended) → Acts all v r w → Heeds s h v r w
  heeds_by None k = (k.0, k.1, k.2 ∙ sym is, k.3, k.4, on)
  heeds_by (Some e) k = (
    k.0,
    k.1,
    k.2,
    (subst (λ l. IsPrefix (calls_of k.0) l) (sym is) k.3, inr (inr (⊎_elim (λ m. inl (on, m.0, m.1)) (λ l. inr (on, l)) k.4))),
  )

pub heeds_words : {B : Type 0} (s : ℕ) (text : List ℕ) (v : RoomPass B) (r : Option Ended) (w : RoomPass B) → length text ≤ limit → Acts (asks s text) v r w → Heeds s (Words text) v r w
heeds_words s text v r w short k = heeds_by s (Words text) short (asks s text) (asked_words s text short) v w r k

pub heeds_long : {B : Type 0} (s : ℕ) (text : List ℕ) (v : RoomPass B) → limit < length text → Heeds s (Words text) v (Some (Ends.TooLong (length text))) v
heeds_long s text v long = ([], makes_none v, refl, ((asked_by s (Words text), refl), inr (inl (refl, (text, refl, long, refl)))))

pub heeds_binary : {B : Type 0} (s : ℕ) (v : RoomPass B) (r : Option Ended) (w : RoomPass B) → Acts (asks s no_json) v r w → Heeds s Binary v r w
heeds_binary s v r w k = heeds_by s Binary tt (asks s no_json) refl v w r k

pub heeds_end : {B : Type 0} (s : ℕ) (v : RoomPass B) → Heeds s End v (Some Ends.Closed) v
heeds_end s v = ([], makes_none v, refl, (([], refl), inl (refl, (refl, refl))))

-- ---- an end by a reply

last_reply : (e : Ended) (calls : List (Call × Reply)) → LastEnds e calls → (r : Reply) × (end_by r ≡ Some e)
last_reply e [] h = absurd h
last_reply e (x ∷ []) h = (x.1, h)
last_reply e (x ∷ y ∷ ys) h = last_reply e (y ∷ ys) h.1

abbrev IsAnswer : Ended → Type 0
IsAnswer Ends.Closed = ⊥
IsAnswer (Ends.TooLong n) = ⊥
IsAnswer Ends.LinkFault = ⊥
IsAnswer Ends.Memory = Unit {0}
IsAnswer Ends.Gone = Unit {0}
IsAnswer Ends.Overrun = Unit {0}
IsAnswer (Ends.Stopped n) = Unit {0}

abbrev IfAnswer : Option Ended → Type 0
IfAnswer None = Unit {0}
IfAnswer (Some e) = IsAnswer e

answer_is : (r : Reply) → IfAnswer (end_by r)
answer_is (R.Opened n) = tt
answer_is R.Done = tt
answer_is (R.Messages texts) = tt
answer_is R.Gone = tt
answer_is R.Overrun = tt
answer_is (R.Stopped n) = tt
answer_is R.Memory = tt

last_is : (e : Ended) (calls : List (Call × Reply)) → LastEnds e calls → IsAnswer e
last_is e calls h = let l = last_reply e calls h in subst IfAnswer l.1 (answer_is l.0)

why_answer : (s : ℕ) (calls : List (Call × Reply)) (heard : List Heard) (sent : List (List ℕ)) (rose : Type 0) (e : Ended) → AllGoOn heard → LastEnds e calls → sent ≡ taken_by calls → Why s calls heard sent rose e
why_answer s calls heard sent rose Ends.Closed on last all = absurd (last_is Ends.Closed calls last)
why_answer s calls heard sent rose (Ends.TooLong n) on last all = absurd (last_is (Ends.TooLong n) calls last)
why_answer s calls heard sent rose Ends.LinkFault on last all = absurd (last_is Ends.LinkFault calls last)
why_answer s calls heard sent rose Ends.Memory on last all = (on, inr last)
why_answer s calls heard sent rose Ends.Gone on last all = (on, last, all)
why_answer s calls heard sent rose Ends.Overrun on last all = (on, last, all)
why_answer s calls heard sent rose (Ends.Stopped n) on last all = (on, last, all)

last_cons : (x : Call × Reply) (e : Ended) (calls : List (Call × Reply)) → end_by x.1 ≡ None → LastEnds e calls → LastEnds e (x ∷ calls)
last_cons x e calls h k = last_more e (x ∷ []) calls (h, tt) k

pub acts_long : (s : ℕ) (text : List ℕ) → limit < length text → asked_by s (Words text) ≡ []
acts_long s text long = ap (λ (b : Bool). if b then [] else asks s text) (lt-ltb limit (length text) long)

abbrev SaysNone : List (List ℕ) → Option Ended → Type 0
SaysNone texts None = Unit {0}
SaysNone texts (Some e) = texts ≡ []

says_none : (r : Reply) → SaysNone (texts_of r) (end_by r)
says_none (R.Opened n) = tt
says_none R.Done = tt
says_none (R.Messages texts) = tt
says_none R.Gone = refl
says_none R.Overrun = refl
says_none (R.Stopped n) = refl
says_none R.Memory = refl

ended_tells_none : (r : Reply) (e : Ended) → end_by r ≡ Some e → texts_of r ≡ []
ended_tells_none r e h = subst (SaysNone (texts_of r)) h (says_none r)

-- ---- a turn

module _ {L : Type 0} (heard_by : L → List Heard) (sent_by : L → List (List ℕ)) (faults : L → ℕ) (moment : L → ℕ) (s : ℕ) {B : Type 0} (v w : RoomPass B) (old mid : L) where
  pub turned_taken : (e : Ended) → TakesAll heard_by sent_by faults moment s v old (Some e) w mid → Turned heard_by sent_by faults moment s v old (Some e) w mid
  turned_taken e h = let one : List (Call × Reply) = (Take s, h.0) ∷ [] in let all : texts_of h.0 ++ [] ≡ texts_of h.0 = append-nil (texts_of h.0) in (
    one,
    [],
    h.2,
    h.1,
    h.3,
    record {
      asked = ([], refl);
      first_sent = subst (λ l. IsPrefix h.2 l) (sym all) h.4;
      why = ⊎_elim
          (λ k. why_answer s one [] h.2 (faults old < faults mid) e tt k.0 (k.1 ∙ sym all))
          (λ k. ⊎_elim
          (λ f. subst (λ e'. Why s one [] h.2 (faults old < faults mid) e') (sym f.0) (f.1, tt, refl, (k.0, tt)))
          (λ m. subst (λ e'. Why s one [] h.2 (faults old < faults mid) e') (sym m) (tt, inl (k.0, tt)))
          k.1)
          h.5;
    },
  )

  module _ (t : TakesAll heard_by sent_by faults moment s v old None w mid) (new : L) (sends : sent_by new ≡ sent_by mid) (later : faults mid ≤ faults new) (time : moment new ≡ moment mid) where
    all_one : texts_of t.0 ≡ taken_by ((Take s, t.0) ∷ [])
    all_one = sym (append-nil (texts_of t.0))

    still : heard_by new ≡ heard_by mid → Carries heard_by sent_by faults moment old new [] (texts_of t.0)
    still hears = record {
      hears = hears ∙ t.3.hears;
      sends = sends ∙ t.3.sends;
      later = let a = t.3.later in omega arith;
      time = time ∙ t.3.time;
    }

    pub turned_fault : heard_by new ≡ heard_by mid → faults mid < faults new → Turned heard_by sent_by faults moment s v old (Some Ends.LinkFault) w new
    turned_fault hears rose = (
      (Take s, t.0) ∷ [],
      [],
      texts_of t.0,
      t.1,
      still hears,
      record {
        asked = ([], refl);
        first_sent = prefix_is (texts_of t.0) (taken_by ((Take s, t.0) ∷ [])) all_one;
        why = ((let a = t.3.later in omega arith), tt, refl, (t.2, tt));
      },
    )

    pub turned_memory : heard_by new ≡ heard_by mid → Turned heard_by sent_by faults moment s v old (Some Ends.Memory) w new
    turned_memory hears = (
      (Take s, t.0) ∷ [],
      [],
      texts_of t.0,
      t.1,
      still hears,
      record {
        asked = ([], refl);
        first_sent = prefix_is (texts_of t.0) (taken_by ((Take s, t.0) ∷ [])) all_one;
        why = (tt, inl (t.2, tt));
      },
    )

    module _ (h : Heard) (hears : heard_by new ≡ heard_by mid ++ h ∷ []) (x : RoomPass B) where
      moved : Carries heard_by sent_by faults moment old new (h ∷ []) (texts_of t.0)
      moved = record {
        hears = hears ∙ ap (λ l. l ++ h ∷ []) (t.3.hears ∙ append-nil (heard_by old));
        sends = sends ∙ t.3.sends;
        later = let a = t.3.later in omega arith;
        time = time ∙ t.3.time;
      }

      taken_all : (calls : List (Call × Reply)) → taken_by calls ≡ [] → texts_of t.0 ≡ taken_by ((Take s, t.0) ∷ calls)
      taken_all calls e = all_one ∙ ap (λ l. texts_of t.0 ++ l) (sym e)

      asked_all : (calls : List (Call × Reply)) → calls_of calls ≡ asked_by s h → calls_of ((Take s, t.0) ∷ calls) ≡ turns s (h ∷ [])
      asked_all calls e = ap (λ l. plain.takes s ∷ l) (e ∙ sym (append-nil (asked_by s h)))

      asked_front : (calls : List (Call × Reply)) → IsPrefix (calls_of calls) (asked_by s h) → IsPrefix (calls_of ((Take s, t.0) ∷ calls)) (turns s (h ∷ []) ++ plain.takes s ∷ [])
      asked_front calls p = (p.0 ++ plain.takes s ∷ [], ap (λ l. plain.takes s ∷ l) (sym (append_assoc (calls_of calls) p.0 (plain.takes s ∷ [])) ∙ ap (λ l. l ++ plain.takes s ∷ []) (p.1 ∙ sym (append-nil (asked_by s h)))))

      why_stop : (rose : Type 0) (e : Ended) (calls : List (Call × Reply)) → taken_by calls ≡ [] → Stops s h calls e → Why s ((Take s, t.0) ∷ calls) (h ∷ []) (texts_of t.0) rose e
      why_stop rose e calls none stop = let all = (Take s, t.0) ∷ calls in let every : (c : List (Call × Reply)) → c ≡ [] → NoneEnds ((Take s, t.0) ∷ c) = λ c k. subst (λ l. NoneEnds ((Take s, t.0) ∷ l)) (sym k) (t.2, tt) in
          ⊎_elim
          (λ k. subst (λ e'. Why s all (h ∷ []) (texts_of t.0) rose e') (sym k.1.1) (
            ([], ap (λ l. l ∷ []) k.1.0, tt),
            asked_all calls (ap calls_of k.0 ∙ ap (asked_by s) (sym k.1.0)),
            every calls k.0,
            taken_all calls none,
          ))
          (λ r. ⊎_elim
          (λ k. subst (λ e'. Why s all (h ∷ []) (texts_of t.0) rose e') (sym k.1.3) (
            k.1.0,
            ([], ap (λ l. l ∷ []) k.1.1, tt),
            refl,
            k.1.2,
            asked_all calls (ap calls_of k.0 ∙ (sym (acts_long s k.1.0 k.1.2) ∙ ap (asked_by s) (sym k.1.1))),
            every calls k.0,
            taken_all calls none,
          ))
          (λ r'. ⊎_elim
          (λ k. subst (λ e'. Why s all (h ∷ []) (texts_of t.0) rose e') (sym k.2) ((k.0, tt), inl (every calls k.1)))
          (λ k. why_answer s all (h ∷ []) (texts_of t.0) rose e (k.0, tt) (last_cons (Take s, t.0) e calls t.2 k.1) (taken_all calls none))
          r')
          r)
          stop.1

      pub turned_heard : (o : Option Ended) → Heeds s h w o x → Turned heard_by sent_by faults moment s v old o x new
      turned_heard None k = (
        (Take s, t.0) ∷ k.0,
        h ∷ [],
        texts_of t.0,
        makes_more v w x ((Take s, t.0) ∷ []) k.0 t.1 k.1,
        moved,
        record {
          asked = asked_all k.0 k.2;
          go_on = (t.2, k.3);
          heard_on = (k.5, tt);
          all_sent = taken_all k.0 k.4;
        },
      )
      turned_heard (Some e) k = (
        (Take s, t.0) ∷ k.0,
        h ∷ [],
        texts_of t.0,
        makes_more v w x ((Take s, t.0) ∷ []) k.0 t.1 k.1,
        moved,
        record {
          asked = asked_front k.0 k.3.0;
          first_sent = prefix_is (texts_of t.0) (taken_by ((Take s, t.0) ∷ k.0)) (taken_all k.0 k.2);
          why = why_stop (faults old < faults new) e k.0 k.2 k.3;
        },
      )

module _ {L : Type 0} (heard_by : L → List Heard) (sent_by : L → List (List ℕ)) (faults : L → ℕ) (moment : L → ℕ) where
  pub carries_none : (old : L) → Carries heard_by sent_by faults moment old old [] []
  carries_none old = record { hears = sym (append-nil (heard_by old)); sends = sym (append-nil (sent_by old)); later = omega arith; time = refl }

  -- a take whose answer ends the session gives no messages
  pub takes_end : {B : Type 0} (s : ℕ) (v w : RoomPass B) (old : L) (r : Reply) (e : Ended) → Makes v ((Take s, r) ∷ []) w → end_by r ≡ Some e → TakesAll heard_by sent_by faults moment s v old (Some e) w old
  takes_end s v w old r e made h = (r, made, [], carries_none old, (texts_of r, refl), inl (h, sym (ended_tells_none r e h)))

  -- a session so far: whole turns
  abbrev pub SoFar : {B : Type 0} → ℕ → RoomPass B → L → RoomPass B → L → Type 0
  SoFar s v old w mid =
      (calls : List (Call × Reply)) × (heard : List Heard) × (sent : List (List ℕ)) × Makes v calls w
      × Carries heard_by sent_by faults moment old mid heard sent
      × Whole s calls heard sent

  module _ {B : Type 0} (s : ℕ) (v w x : RoomPass B) (old mid new : L) (before : SoFar s v old w mid) where
    pub so_far_more : Turned heard_by sent_by faults moment s w mid None x new → SoFar s v old x new
    so_far_more t = (
      before.0 ++ t.0,
      before.1 ++ t.1,
      before.2 ++ t.2,
      makes_more v w x before.0 t.0 before.3 t.3,
      carries_more heard_by sent_by faults moment old mid new before.1 t.1 before.2 t.2 before.4 t.4,
      whole_more s before.0 before.1 before.2 before.5 t.0 t.1 t.2 t.5,
    )

    pub so_far_ends : (e : Ended) → Turned heard_by sent_by faults moment s w mid (Some e) x new → Turned heard_by sent_by faults moment s v old (Some e) x new
    so_far_ends e t = (
      before.0 ++ t.0,
      before.1 ++ t.1,
      before.2 ++ t.2,
      makes_more v w x before.0 t.0 before.3 t.3,
      carries_more heard_by sent_by faults moment old mid new before.1 t.1 before.2 t.2 before.4 t.4,
      talked_more s before.0 before.1 before.2 before.5 t.0 t.1 t.2 (faults mid < faults new) (faults old < faults new) e (λ k. let a = before.4.later in omega arith) t.5,
    )

  pub turned_lock : {B : Type 0} (s : ℕ) (v w : RoomPass B) (old new : L) (o : Option Ended) → Turned heard_by sent_by faults moment s v old o w new → w.lock ≡ v.lock
  turned_lock s v w old new None t = makes_lock v w t.0 t.3
  turned_lock s v w old new (Some e) t = makes_lock v w t.0 t.3
