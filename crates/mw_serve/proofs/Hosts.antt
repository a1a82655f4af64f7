-- How the room of a disk is served.
use Rattle.std.proofs.Common.{◌≡◌, ◌∙◌, ◌⊎◌, ◌<◌, ◌≤◌, ◌||◌, arith, ℕ, List, [], ◌∷◌, ◌++◌, Option, Some, None, Result, Ok, Err, Bool, true, false, map, refl, sym, ap, subst, inl, inr, true≢false}
use Rattle.std.specs.List.{list_any}
use Rattle.std.specs.Option.{is_some, option_or}
use Rattle.std.specs.Prelude.{IfErr, IfOk, OnErr}
use Rattle.std.specs.Result.{is_err}
use mathlib.Core.List.{IsPrefix}
use Rattle.mw_model.specs.Seed.{Seed}
use Rattle.mw_protocol.specs.Lives.{Life, Luck, committed_of, life_after, new_life, pending_of, reply_to}
use Rattle.mw_protocol.specs.Spelled.{records_bytes}
use Rattle.mw_journal.specs.Image.{Stands}
use Rattle.mw_journal.specs.Journal.{disk_of}
use Rattle.mw_journal.specs.Settled.{IsSettled}
use Rattle.mw_laws.specs.Kept.{LivesKeep}
use Rattle.mw_laws.specs.Tails.{TakenWasOwed}
use Rattle.mw_link.specs.declared.link.Heard.{Heard}
use Rattle.mw_lock.specs.History.{calls_by, entry, events}
use Rattle.mw_lock.specs.Passes.{numbers}
use Rattle.mw_lock.specs.Rule.{Each}
use Rattle.mw_lock.specs.declared.view.Entry.{Entry}
use Rattle.mw_keep.specs.Keeps.{kept_disk, origin_of}
use Rattle.mw_keep.specs.Left.{IsLeft}
use Rattle.mw_keep.specs.Recovers.{Resumes}
use Rattle.mw_keep.specs.Standing.{Began, Lived, MayReply, Replied, first_disk, is_faulty, lived}
use Rattle.mw_keep.specs.Views.{call_view, cause_view, reply_view}
use Rattle.mw_keep.specs.declared.call.Call.{Call}
use Rattle.mw_keep.specs.declared.call.Call.TheVariants.{Commit}
use Rattle.mw_keep.specs.declared.kept.KeptRoom.{KeptRoom}
use Rattle.mw_keep.specs.declared.reply.Reply.{Reply}
use Rattle.mw_keep.specs.declared.reply.Reply.TheVariants as R
use Rattle.mw_keep.specs.declared.reply.StopCause.{StopCause}
use Rattle.mw_keep.specs.declared.reply.StopCause.TheVariants.{DiskFault, JournalFull, TooManyCalls}
use Rattle.mw_keep.proofs.Leaving.{left_of}
use Rattle.mw_session.specs.Desks.{AreAll}
use Rattle.mw_session.specs.Rooms.{OneHistory, count_all}
use Rattle.mw_session.specs.Stops.{lacks_by, stop_among, stop_by, stop_in}
use Rattle.mw_session.specs.declared.served.Served.{Served}
use Rattle.mw_drive.specs.Calls.{error_for}
use Rattle.mw_drive.specs.Ends.{IsForeign, IsFound, IsOfJournal, StaysSettled}
use Rattle.mw_drive.specs.declared.error.DriveError.{DriveError}
use Rattle.mw_drive.specs.declared.error.JournalRefusal.{JournalRefusal}
use Rattle.mw_drive.specs.declared.error.DriveError.TheVariants.{Fault, Memory, Journal}
use Rattle.mw_link.specs.Tells.{Sends}
use Rattle.mw_serve.specs.Hosted.{HostsShort, HostsToEnd, IsHosted, IsUnserved, ListensAfter, end_of}
use Rattle.mw_serve.specs.Runs.{IsRun, NeverBegan, WentOn}
use Rattle.mw_serve.specs.Sent.{SendsFound, SendsFrom}
use Rattle.mw_serve.proofs.Calls.{Among, among_by}
use Rattle.mw_serve.proofs.Ends.{all_committed, safe_end}
use Rattle.mw_session.proofs.Spared.{history_first}
use Rattle.mw_serve.proofs.Keeping.{accounts_kept, all_kept, due_of, lived_is, seen}
use Rattle.mw_serve.proofs.Lives.{faulted, steps_of, tells_fault, told_fault}

-- ---- ends

abbrev IsGood : Option StopCause → Bool → Bool → Type 0
IsGood stopped failed memory = (stopped ≡ None) × ((failed ≡ false) × (memory ≡ false))

-- a number of links comes of a room that hasn't stopped, where neither gate nor memory failed
ok_end : (stopped : Option StopCause) (failed memory : Bool) (count n : ℕ) → Ok n ≡ end_of stopped failed memory count → IsGood stopped failed memory × (n ≡ count)
ok_end (Some cause) failed memory count n h = cc
ok_end None true memory count n h = cc
ok_end None false true count n h = cc
ok_end None false false count n h = ((refl, (refl, refl)), cc)

-- no such end is about the journal's bytes
cause_outside : (cause : StopCause) → IsOfJournal (error_for (cause_view cause)) → ⊥
cause_outside DiskFault h = h
cause_outside (JournalFull len) h = h
cause_outside (TooManyCalls n) h = h

err_outside : (stopped : Option StopCause) (failed memory : Bool) (count : ℕ) (e : DriveError) → Err e ≡ end_of stopped failed memory count → IsOfJournal e → ⊥
err_outside (Some cause) failed memory count e h of = cause_outside cause (subst IsOfJournal (let is : e ≡ error_for (cause_view cause) = cc in is) of)
err_outside None true memory count e h of = let is : e ≡ Fault = cc in subst IsOfJournal is of
err_outside None false true count e h of = let is : e ≡ Memory = cc in subst IsOfJournal is of
err_outside None false false count e h of = cc

-- a fault is the disk's or the gate's
cause_fault : (cause : StopCause) → error_for (cause_view cause) ≡ Fault → cause ≡ DiskFault
cause_fault DiskFault h = refl
cause_fault (JournalFull len) h = cc
cause_fault (TooManyCalls n) h = cc

fault_end : (stopped : Option StopCause) (failed memory : Bool) (count : ℕ) → Err Fault ≡ end_of stopped failed memory count → (stopped ≡ Some DiskFault) ⊎ (failed ≡ true)
fault_end (Some cause) failed memory count h = inl (ap Some (cause_fault cause cc))
fault_end None true memory count h = inr refl
fault_end None false true count h = cc
fault_end None false false count h = cc

-- ---- the last call

done_by : (r : Reply) → lacks_by r ≡ false → stop_by r ≡ None → r ≡ R.Done
done_by (R.Opened n) h k = cc
done_by R.Done h k = refl
done_by (R.Messages texts) h k = cc
done_by R.Gone h k = cc
done_by R.Overrun h k = cc
done_by (R.Stopped cause) h k = cc
done_by R.Memory h k = cc

or_none_left : {A : Type 0} (a b : Option A) → option_or a b ≡ None → a ≡ None
or_none_left None b h = refl
or_none_left (Some x) b h = cc

events_push : (es : List (Entry Call Reply)) (e : Entry Call Reply) → events (es ++ e ∷ []) ≡ events es ++ (e.call, e.reply) ∷ []
events_push [] e = refl
events_push (x ∷ xs) e = ap (λ cs. (x.call, x.reply) ∷ cs) (events_push xs e)

-- the last of some calls was due in the life that those before led to
pub record LastDue (life : Life) (past : List (Call × Reply)) (x : Call × Reply) (ls : List Luck) : Type 0 where
  pub before : Life
  pub luck : Luck
  pub due : reply_view x.1 ≡ reply_to before (call_view x.0) luck
  pub is : lived life (past ++ x ∷ []) ls ≡ life_after before (call_view x.0) luck

last_due : (life : Life) (past : List (Call × Reply)) (x : Call × Reply) (ls : List Luck) → Replied life (past ++ x ∷ []) ls → LastDue life past x ls
last_due life [] x [] h = absurd h
last_due life [] x (l ∷ []) h = record { before = life; luck = l; due = h.0; is = refl }
last_due life [] x (l ∷ k ∷ ks) h = absurd h.1
last_due life (c ∷ cs) x [] h = absurd h
last_due life (c ∷ cs) x (l ∷ ls) h = let k = last_due (life_after life (call_view c.0) l) cs x ls h.1 in record { before = k.before; luck = k.luck; due = k.due; is = k.is }

-- ---- images

empty_prefix : {A : Type 0} (xs : List A) → IsPrefix xs [] → xs ≡ []
empty_prefix [] h = refl
empty_prefix (x ∷ xs) h = let is = h.1 in cc

settled_stands : (c digest text : List ℕ) → IsSettled c digest text [] → Stands c digest text
settled_stands c digest text (inl shut) = (shut.0, (0, shut.1))
settled_stands c digest text (inr staged) = let some = staged.1.some in absurd (omega (arith, some))

left_stands : (images : List ℕ → Type 0) (digest : List ℕ) (life : Life) → IsLeft images digest life → pending_of life ≡ [] → (c : List ℕ) → images c → Stands c digest (records_bytes life.room.journal)
left_stands images digest life left none c image =
    let bare : left.batch ≡ [] = empty_prefix left.batch (subst (IsPrefix left.batch) none left.first) in
    subst (λ rs. Stands c digest (records_bytes rs)) (all_committed life none)
    (settled_stands c digest (records_bytes (committed_of life)) (subst (λ b. IsSettled c digest (records_bytes (committed_of life)) (records_bytes b)) bare (left.settled c image)))

-- ---- a room that has stopped for a fault of the disk

stop_tells : (r : Reply) → stop_by r ≡ Some DiskFault → tells_fault (reply_view r) ≡ true
stop_tells (R.Opened n) h = cc
stop_tells R.Done h = cc
stop_tells (R.Messages texts) h = cc
stop_tells R.Gone h = cc
stop_tells R.Overrun h = cc
stop_tells (R.Stopped DiskFault) h = refl
stop_tells (R.Stopped (JournalFull len)) h = cc
stop_tells (R.Stopped (TooManyCalls n)) h = cc
stop_tells R.Memory h = cc

-- one of these calls was so answered
pub record StopsFor (cause : StopCause) (cs : List (Call × Reply)) : Type 0 where
  pub call : Call × Reply
  pub among : Among call cs
  pub is : stop_by call.1 ≡ Some cause

stop_head : (cause : StopCause) (x : Call × Reply) (xs : List (Call × Reply)) (o : Option StopCause) → stop_by x.1 ≡ o → option_or o (stop_in xs) ≡ Some cause → (stop_in xs ≡ Some cause → StopsFor cause xs) → StopsFor cause (x ∷ xs)
stop_head cause x xs None is h later = let k = later h in record { call = k.call; among = inr k.among; is = k.is }
stop_head cause x xs (Some y) is h later = record { call = x; among = inl refl; is = is ∙ h }

stops_for : (cause : StopCause) (cs : List (Call × Reply)) → stop_in cs ≡ Some cause → StopsFor cause cs
stops_for cause [] h = cc
stops_for cause (x ∷ xs) h = stop_head cause x xs (stop_by x.1) refl h (stops_for cause xs)

-- one of the calls of these passes was
pub record PassStops (cause : StopCause) (all : Call × Reply → Type 0) : Type 0 where
  pub call : Call × Reply
  pub among : all call
  pub is : stop_by call.1 ≡ Some cause

pass_head : (cause : StopCause) (es : List (Entry Call Reply)) (x : ℕ × List (Call × Reply)) (xs : List (ℕ × List (Call × Reply))) (o : Option StopCause) → stop_in x.1 ≡ o → calls_by x.0 es ≡ x.1
    → option_or o (stop_among xs) ≡ Some cause → (stop_among xs ≡ Some cause → PassStops cause (λ c. Among c (events es))) → PassStops cause (λ c. Among c (events es))
pass_head cause es x xs None is own h later = later h
pass_head cause es x xs (Some y) is own h later =
    let k = stops_for cause x.1 (is ∙ h) in
    record { call = k.call; among = among_by x.0 es k.call (subst (Among k.call) (sym own) k.among); is = k.is }

pass_stops : (cause : StopCause) (es : List (Entry Call Reply)) (xs : List (ℕ × List (Call × Reply))) → Each (λ x. calls_by x.0 es ≡ x.1) xs → stop_among xs ≡ Some cause → PassStops cause (λ c. Among c (events es))
pass_stops cause es [] own h = cc
pass_stops cause es (x ∷ xs) own h = pass_head cause es x xs (stop_in x.1) refl own.0 h (pass_stops cause es xs own.1)

any_step : (b rest : Bool) → (b || true) ≡ true
any_step true rest = refl
any_step false rest = refl

any_among : (c : Call × Reply) (cs : List (Call × Reply)) → Among c cs → tells_fault (reply_view c.1) ≡ true → list_any (λ x. tells_fault x.1) (map seen cs) ≡ true
any_among c [] h is = absurd h
any_among c (d ∷ ds) (inl same) is = let here : tells_fault (reply_view d.1) ≡ true = ap (λ x. tells_fault (reply_view x.1)) same ∙ is in subst (λ b. (b || list_any (λ x. tells_fault x.1) (map seen ds)) ≡ true) (sym here) refl
any_among c (d ∷ ds) (inr h) is = subst (λ b. (tells_fault (reply_view d.1) || b) ≡ true) (sym (any_among c ds h is)) (any_step (tells_fault (reply_view d.1)) true)

not_faulted : (a : Bool) (P : Type 0) → (a ≡ true) ⊎ P → a ≡ false → P
not_faulted a P (inl h) never = absurd (true≢false (sym h ∙ never))
not_faulted a P (inr h) never = h

-- ---- a room of a disk that was served

module _ {T D : Type 0} (heard_by : T → List Heard) (sent_by : T → List (List ℕ)) (faults : T → ℕ) (opened : T → ℕ) (is_shut : T → Bool)
    (may_leave : D → List ℕ → Type 0) (told : D → Option (List ℕ)) (disk_faults : D → ℕ) (digest : List ℕ) (seed : Seed) (disk : D) (room : KeptRoom D)
    (r : Resumes told may_leave digest seed disk room)
    (accept : Option ℕ) (last : D) (served : List (List (Served T))) (gate_faults : ℕ) (left : Option (List T)) (ended : Bool) (outcome : Result ℕ DriveError)
    (w : WentOn heard_by sent_by faults opened is_shut may_leave told disk_faults accept room last served gate_faults left ended outcome)
  where
    life0 : Life
    life0 = new_life seed r.journal r.place

    pub lives_on : Lived may_leave told disk_faults digest (new_life seed r.journal r.place) w.last w.log
    lives_on = w.lived digest seed r.journal r.place (subst (Began may_leave digest seed r.journal r.place) (sym w.goes_on) r.began)

    pub end_left : IsLeft (may_leave last) digest (lived (new_life seed r.journal r.place) w.log lives_on.lucks)
    end_left = subst (λ d. IsLeft (may_leave d) digest (lived (new_life seed r.journal r.place) w.log lives_on.lucks)) (sym w.disk_is)
        (left_of may_leave digest (lived (new_life seed r.journal r.place) w.log lives_on.lucks) w.last lives_on.keeps)

    pub hosted : IsHosted heard_by sent_by faults opened is_shut may_leave (IsFound (told disk) (may_leave disk) digest seed) (may_leave last) digest seed served w.memory w.stopped
    hosted = record {
      journal = r.journal;
      place = r.place;
      is_found = record { sound = r.sound; stands = r.stands; one = r.one };
      origin = origin_of room;
      began = r.began;
      log = w.log;
      lucks = lives_on.lucks;
      replied = lives_on.replied;
      history = w.history;
      settled = end_left;
    }

    -- nothing is pending at the end
    pub end_whole : LivesKeep → w.memory ≡ false → w.stopped ≡ None → pending_of (lived (new_life seed r.journal r.place) w.log lives_on.lucks) ≡ []
    end_whole lives fine on =
        let h = w.history in
        let log : w.log ≡ events h.before ++ (Commit, h.reply) ∷ [] = sym h.all ∙ (ap events h.last ∙ events_push h.before (entry h.pass.number (Commit, h.reply))) in
        let none : stop_in h.pass.own ≡ None = or_none_left (stop_in h.pass.own) (stop_among h.pass.ended) (h.stops ∙ on) in
        let unstopped : stop_by h.reply ≡ None = or_none_left (stop_by h.reply) None (sym (ap stop_in h.own) ∙ none) in
        let is_done = done_by h.reply (h.safe fine) unstopped in
        let k = last_due (new_life seed r.journal r.place) (events h.before) (Commit, h.reply) lives_on.lucks (subst (λ cs. Replied (new_life seed r.journal r.place) cs lives_on.lucks) log lives_on.replied) in
        ap (λ cs. pending_of (lived (new_life seed r.journal r.place) cs lives_on.lucks)) log
        ∙ (ap pending_of k.is ∙ safe_end lives k.before k.luck (sym (ap reply_view is_done) ∙ k.due))

    pub to_end : LivesKeep → (n : ℕ) → Ok n ≡ outcome
        → (n ≡ count_all served) × HostsToEnd heard_by sent_by faults opened is_shut may_leave (IsFound (told disk) (may_leave disk) digest seed) (may_leave last) digest seed served
    to_end lives n is =
        let good = ok_end w.stopped w.failed w.memory (count_all served) n (is ∙ w.is_end) in
        let stopped = good.0.0 in let memory = good.0.1.1 in (
          good.1,
          record {
            hosted = record {
              journal = r.journal;
              place = r.place;
              is_found = record { sound = r.sound; stands = r.stands; one = r.one };
              origin = origin_of room;
              began = r.began;
              log = w.log;
              lucks = lives_on.lucks;
              replied = lives_on.replied;
              history = subst (λ m. OneHistory heard_by sent_by faults opened is_shut (MayReply may_leave) (Some (origin_of room)) w.log served m None) memory
                  (subst (λ s. OneHistory heard_by sent_by faults opened is_shut (MayReply may_leave) (Some (origin_of room)) w.log served w.memory s) stopped w.history);
              settled = end_left;
            };
            stands = left_stands (may_leave last) digest (lived (new_life seed r.journal r.place) w.log lives_on.lucks) end_left (end_whole lives memory stopped);
          },
        )

    pub to_short : (e : DriveError) → Err e ≡ outcome → HostsShort heard_by sent_by faults opened is_shut may_leave (IsFound (told disk) (may_leave disk) digest seed) (may_leave last) digest seed served e
    to_short e is = record { stopped = w.stopped; failed = w.failed; memory = w.memory; accepted = count_all served; hosted = hosted; is_end = sym (is ∙ w.is_end) }

    pub end_outside : (e : DriveError) → Err e ≡ outcome → IsOfJournal e → ⊥
    end_outside e is of = err_outside w.stopped w.failed w.memory (count_all served) e (is ∙ w.is_end) of

    pub end_full : (n : ℕ) → Ok n ≡ outcome → AreAll accept n left ended
    end_full n is =
        let good = ok_end w.stopped w.failed w.memory (count_all served) n (is ∙ w.is_end) in
        let full = w.full good.0.1.0 good.0.1.1 (ap is_some good.0.0) in
        subst (λ m. AreAll accept m left ended) (sym good.1) full

    -- a fault shows in a count
    pub end_fault : first_disk room ≡ kept_disk room → disk_faults disk ≤ disk_faults (kept_disk room) → outcome ≡ Err Fault → (disk_faults disk < disk_faults last) ⊎ (0 < gate_faults)
    end_fault found count is = elim (fault_end w.stopped w.failed w.memory (count_all served) (sym is ∙ w.is_end)) [
      | inl stopped ↦
          let h = w.history in
          let k = pass_stops DiskFault h.pass.seen (numbers h.pass) h.whole.1.1 (h.stops ∙ stopped) in
          let any = any_among k.call w.log (subst (Among k.call) h.all k.among) (stop_tells k.call.1 k.is) in
          let unlucky = not_faulted (faulted (new_life seed r.journal r.place).stopped) (list_any is_faulty lives_on.lucks ≡ true) (told_fault (new_life seed r.journal r.place) (map seen w.log) lives_on.lucks (due_of (new_life seed r.journal r.place) w.log lives_on.lucks lives_on.replied) any) refl in
          let rose = lives_on.fault unlucky in
          let first : disk_faults (first_disk w.last) ≡ disk_faults (kept_disk room) = ap (λ o. disk_faults (disk_of o.journal.value)) w.goes_on ∙ ap disk_faults found in
          let end : disk_faults last ≡ disk_faults (kept_disk w.last) = ap disk_faults w.disk_is in
          inl (omega (arith, rose, first, end, count))
      | inr failed ↦ inr (w.gate failed)
    ]

    pub end_tells : first_disk room ≡ kept_disk room → is_some (told (kept_disk room)) ≡ is_some (told disk) → is_some (told last) ≡ is_some (told disk)
    end_tells found tells =
        ap (λ d. is_some (told d)) w.disk_is ∙ (lives_on.tells ∙ (ap (λ o. is_some (told (disk_of o.journal.value))) w.goes_on ∙ (ap (λ d. is_some (told d)) found ∙ tells)))

    pub end_count : first_disk room ≡ kept_disk room → disk_faults disk ≤ disk_faults (kept_disk room) → disk_faults disk ≤ disk_faults last
    end_count found count =
        let later = lives_on.later in
        let first : disk_faults (first_disk w.last) ≡ disk_faults (kept_disk room) = ap (λ o. disk_faults (disk_of o.journal.value)) w.goes_on ∙ ap disk_faults found in
        let end : disk_faults last ≡ disk_faults (kept_disk w.last) = ap disk_faults w.disk_is in
        omega (arith, later, first, end, count)

    -- what was sent was taken in the life that began with the records that were found
    pub end_sent : LivesKeep → TakenWasOwed → SendsFrom sent_by (may_leave last) digest (new_life seed r.journal r.place) served
    end_sent lives was_owed =
        let took = accounts_kept lives was_owed (new_life seed r.journal r.place) w.log lives_on.lucks lives_on.replied heard_by sent_by faults opened is_shut served w.history.pass.ended w.history.accounts w.history.pass.seen w.history.all w.history.whole.1.1.1 in
        let first = history_first lives heard_by sent_by faults opened is_shut may_leave digest seed r.journal r.place (origin_of room) r.began w.log lives_on.lucks served w.memory w.stopped lives_on.replied w.history in
        record {
          steps = steps_of (map seen w.log) lives_on.lucks;
          left = subst (IsLeft (may_leave last) digest) (lived_is (new_life seed r.journal r.place) w.log lives_on.lucks) end_left;
          sent = all_kept (new_life seed r.journal r.place) w.log lives_on.lucks sent_by served took first;
        }

-- ---- answers

pub if_ok_is : {A E : Type 0} (o : Result A E) (P : A → Type 0) → ((x : A) → Ok x ≡ o → P x) → IfOk o P
if_ok_is (Ok x) P f = f x refl
if_ok_is (Err e) P f = tt

pub if_err_is : {A E : Type 0} (o : Result A E) (P : E → Type 0) → ((e : E) → Err e ≡ o → P e) → IfErr o P
if_err_is (Ok x) P f = tt
if_err_is (Err e) P f = f e refl

pub err_of : {A E : Type 0} (o : Result A E) (P : Type 0) → is_err o ≡ true → OnErr o P → P
err_of (Ok x) P is h = cc
err_of (Err e) P is h = h

-- memory was wanting before any link was accepted
pub never_began : {A : Type 0} (served : List A) (stopped : Option StopCause) (failed memory : Bool) (accepted gate_faults : ℕ) (outcome : Result ℕ DriveError) → outcome ≡ end_of stopped failed memory accepted
    → served ≡ [] → stopped ≡ None → memory ≡ true → (failed ≡ true → 0 < gate_faults) → NeverBegan served gate_faults outcome
never_began served (Some cause) failed memory accepted gate_faults outcome is none stopped lacking gate = cc
never_began served None true memory accepted gate_faults outcome is none stopped lacking gate = (none, inl (is, gate refl))
never_began served None false true accepted gate_faults outcome is none stopped lacking gate = (none, inr is)
never_began served None false false accepted gate_faults outcome is none stopped lacking gate = cc

-- a room that was never served has no number of links, and its error is a fault or want of memory
no_count : (o : Result ℕ DriveError) (P : Type 0) (n : ℕ) → (((o ≡ Err Fault) × P) ⊎ (o ≡ Err Memory)) → Ok n ≡ o → ⊥
no_count o P n (inl h) is = let no_such : Ok n ≡ Err Fault = is ∙ h.0 in cc
no_count o P n (inr h) is = let no_such : Ok n ≡ Err Memory = is ∙ h in cc

no_journal : (o : Result ℕ DriveError) (P : Type 0) (e : DriveError) → (((o ≡ Err Fault) × P) ⊎ (o ≡ Err Memory)) → Err e ≡ o → (e ≡ Fault) ⊎ (e ≡ Memory)
no_journal o P e (inl h) is = let same : Err e ≡ Err Fault = is ∙ h.0 in inl cc
no_journal o P e (inr h) is = let same : Err e ≡ Err Memory = is ∙ h in inr cc

fault_only : (o : Result ℕ DriveError) (P : Type 0) → (((o ≡ Err Fault) × P) ⊎ (o ≡ Err Memory)) → o ≡ Err Fault → P
fault_only o P (inl h) is = h.1
fault_only o P (inr h) is = let no_such : Err Memory ≡ Err Fault = sym h ∙ is in cc

outside_two : (e : DriveError) → (e ≡ Fault) ⊎ (e ≡ Memory) → IsOfJournal e → ⊥
outside_two e (inl is) of = subst IsOfJournal is of
outside_two e (inr is) of = subst IsOfJournal is of

foreign_two : (e : DriveError) → (e ≡ Fault) ⊎ (e ≡ Memory) → IsForeign e → ⊥
foreign_two e (inl is) of = subst IsForeign is of
foreign_two e (inr is) of = subst IsForeign is of

cause_two : (e : DriveError) (refuses : JournalRefusal → Type 0) → (e ≡ Fault) ⊎ (e ≡ Memory) → (e ≡ Fault) ⊎ (e ≡ Memory) ⊎ ((refusal : JournalRefusal) × (e ≡ Journal refusal) × refuses refusal)
cause_two e refuses (inl is) = inl is
cause_two e refuses (inr is) = inr (inl is)

-- a recovered room that was served, or couldn't be
module _ {T D : Type 0} (heard_by : T → List Heard) (sent_by : T → List (List ℕ)) (faults : T → ℕ) (opened : T → ℕ) (is_shut : T → Bool)
    (may_leave : D → List ℕ → Type 0) (told : D → Option (List ℕ)) (disk_faults : D → ℕ) (digest : List ℕ) (seed : Seed) (disk : D) (room : KeptRoom D)
    (r : Resumes told may_leave digest seed disk room)
    (accept : Option ℕ) (last : D) (served : List (List (Served T))) (gate_faults : ℕ) (left : Option (List T)) (ended : Bool) (outcome : Result ℕ DriveError)
    (run : IsRun heard_by sent_by faults opened is_shut may_leave told disk_faults accept room last served gate_faults left ended outcome)
  where
    pub run_done : LivesKeep → IfOk outcome (λ n. (n ≡ count_all served) × HostsToEnd heard_by sent_by faults opened is_shut may_leave (IsFound (told disk) (may_leave disk) digest seed) (may_leave last) digest seed served)
    run_done lives = if_ok_is outcome (λ n. (n ≡ count_all served) × HostsToEnd heard_by sent_by faults opened is_shut may_leave (IsFound (told disk) (may_leave disk) digest seed) (may_leave last) digest seed served) (λ n is. elim run [
      | inl never ↦ absurd (no_count outcome (0 < gate_faults) n never.1.1 is)
      | inr w ↦ to_end heard_by sent_by faults opened is_shut may_leave told disk_faults digest seed disk room r accept last served gate_faults left ended outcome w lives n is
    ])

    pub run_accepted : (P : DriveError → Type 0) → ((e : DriveError) → (IsOfJournal e → ⊥) → P e) → IfErr outcome P
    run_accepted P f = if_err_is outcome P (λ e is. f e (elim run [
      | inl never ↦ outside_two e (no_journal outcome (0 < gate_faults) e never.1.1 is)
      | inr w ↦ end_outside heard_by sent_by faults opened is_shut may_leave told disk_faults digest seed disk room r accept last served gate_faults left ended outcome w e is
    ]))

    pub run_full : IfOk outcome (λ n. AreAll accept n left ended)
    run_full = if_ok_is outcome (λ n. AreAll accept n left ended) (λ n is. elim run [
      | inl never ↦ absurd (no_count outcome (0 < gate_faults) n never.1.1 is)
      | inr w ↦ end_full heard_by sent_by faults opened is_shut may_leave told disk_faults digest seed disk room r accept last served gate_faults left ended outcome w n is
    ])

    pub run_fault : first_disk room ≡ kept_disk room → disk_faults disk ≤ disk_faults (kept_disk room) → outcome ≡ Err Fault → (disk_faults disk < disk_faults last) ⊎ (0 < gate_faults)
    run_fault found count is = elim run [
      | inl never ↦ inr (fault_only outcome (0 < gate_faults) never.1.1 is)
      | inr w ↦ end_fault heard_by sent_by faults opened is_shut may_leave told disk_faults digest seed disk room r accept last served gate_faults left ended outcome w found count is
    ]

    pub run_tells : first_disk room ≡ kept_disk room → is_some (told (kept_disk room)) ≡ is_some (told disk) → is_some (told last) ≡ is_some (told disk)
    run_tells found tells = elim run [
      | inl never ↦ ap (λ d. is_some (told d)) never.0 ∙ tells
      | inr w ↦ end_tells heard_by sent_by faults opened is_shut may_leave told disk_faults digest seed disk room r accept last served gate_faults left ended outcome w found tells
    ]

    pub run_count : first_disk room ≡ kept_disk room → disk_faults disk ≤ disk_faults (kept_disk room) → disk_faults disk ≤ disk_faults last
    run_count found count = elim run [
      | inl never ↦ subst (λ d. disk_faults disk ≤ disk_faults d) (sym never.0) count
      | inr w ↦ end_count heard_by sent_by faults opened is_shut may_leave told disk_faults digest seed disk room r accept last served gate_faults left ended outcome w found count
    ]

-- the same, where what a crash might leave of the disk was settled while the room was recovered
module _ {T D : Type 0} (heard_by : T → List Heard) (sent_by : T → List (List ℕ)) (faults : T → ℕ) (opened : T → ℕ) (is_shut : T → Bool)
    (may_leave : D → List ℕ → Type 0) (told : D → Option (List ℕ)) (disk_faults : D → ℕ) (digest : List ℕ) (seed : Seed) (disk : D) (room : KeptRoom D)
    (r : Resumes told may_leave digest seed disk room)
    (accept : Option ℕ) (last : D) (served : List (List (Served T))) (gate_faults : ℕ) (left : Option (List T)) (ended : Bool) (outcome : Result ℕ DriveError)
    (run : IsRun heard_by sent_by faults opened is_shut may_leave told disk_faults accept room last served gate_faults left ended outcome)
    (stays : StaysSettled (may_leave disk) (may_leave (kept_disk room)) digest)
  where
    pub run_short : (refuses : JournalRefusal → Type 0) (only_read : Type 0) → IfErr outcome (λ e. IsUnserved refuses (StaysSettled (may_leave disk) (may_leave last) digest) only_read served e
        ⊎ HostsShort heard_by sent_by faults opened is_shut may_leave (IsFound (told disk) (may_leave disk) digest seed) (may_leave last) digest seed served e)
    run_short refuses only_read = if_err_is outcome (λ e. IsUnserved refuses (StaysSettled (may_leave disk) (may_leave last) digest) only_read served e
        ⊎ HostsShort heard_by sent_by faults opened is_shut may_leave (IsFound (told disk) (may_leave disk) digest seed) (may_leave last) digest seed served e) (λ e is. elim run [
          | inl never ↦ inl record {
            none = never.1.0;
            as_settled = subst (λ d. StaysSettled (may_leave disk) (may_leave d) digest) (sym never.0) stays;
            read = λ foreign. absurd (foreign_two e (no_journal outcome (0 < gate_faults) e never.1.1 is) foreign);
            cause = cause_two e refuses (no_journal outcome (0 < gate_faults) e never.1.1 is);
          }
          | inr w ↦ inr (to_short heard_by sent_by faults opened is_shut may_leave told disk_faults digest seed disk room r accept last served gate_faults left ended outcome w e is)
        ])

    pub run_found : LivesKeep → TakenWasOwed
        → SendsFound sent_by (IsFound (told disk) (may_leave disk) digest seed) (StaysSettled (may_leave disk) (may_leave last) digest) (may_leave last) digest seed served
    run_found lives was_owed = elim run [
      | inl never ↦ inl (subst (λ d. StaysSettled (may_leave disk) (may_leave d) digest) (sym never.0) stays, never.1.0)
      | inr w ↦ inr (
        r.journal,
        r.place,
        record { sound = r.sound; stands = r.stands; one = r.one },
        end_sent heard_by sent_by faults opened is_shut may_leave told disk_faults digest seed disk room r accept last served gate_faults left ended outcome w lives was_owed,
      )
    ]

pub one_origin : {A : Type 0} (x y : A) → Some x ≡ Some y → x ≡ y
one_origin x y h = cc

-- ---- a gate that is made ready

pub refused_ready : {T U E : Type 0} (old new : List T) (at : T) (r : Result U E) → is_err r ≡ true → Sends old new at r → new ≡ old
refused_ready old new at (Ok x) is h = cc
refused_ready old new at (Err e) is h = h

pub made_ready : {T U E : Type 0} (old new : List T) (at : T) (r : Result U E) → is_err r ≡ false → Sends old new at r → new ≡ old ++ at ∷ []
made_ready old new at (Ok x) is h = h
made_ready old new at (Err e) is h = cc

-- more was so before, and it says less that all is done
pub listens_more : (this that done all_done : Type 0) (old new : List (List ℕ)) (at : List ℕ) → (this → that) → (all_done → done) → ListensAfter this done old new at → ListensAfter that all_done old new at
listens_more this that done all_done old new at f g (inl k) = inl (k.0, λ d. k.1 (g d))
listens_more this that done all_done old new at f g (inr k) = inr (k.0, f k.1)
