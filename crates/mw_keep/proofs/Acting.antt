-- What a call makes of the lives that a kept room stands for.
use Rattle.std.proofs.Common.{◌≡◌, ◌<◌, ◌≤◌, ◌+◌, ◌^◌, ◌++◌, ◌∷◌, [], ℕ, List, Bool, true, false, cond, length, take, drop, refl, sym, ap, subst, ◌∙◌, arith, Some, None}
use Rattle.std.specs.Prelude.{Ok, Err, map, min, nat_le}
use Rattle.std.proofs.lemmas.Bool.{lt-leb}
use Rattle.std.proofs.lemmas.List.{append-nil, drop-append-le, length-append, length-drop, take-append-drop, take-append-le}
use Rattle.std.proofs.Math.Seq.{drop-length, take-length}
use Rattle.std.specs.declared.option.Option.{Option}
use Rattle.mw_protocol.specs.Lives.{Call, Life, fine, lacking, Reply, messages, memory, done, StopCause, disk_fault, journal_full, Outcome, passes, lacks, stops, append, append_of, appended, appended_unless, committed_of, committed_then, pending_of, place_then, shows_pending, happens, commits, takes, answer_to, counted, life_of, life_unless, outcome, records_of, refusal, refused_by, refused_in, named_by, ends, reply_of, reply_unless}
use Rattle.mw_protocol.specs.Records.{Record}
use Rattle.mw_protocol.specs.Rooms.{Room as Plain, Event, opened, sent, failed, lost, effect_in, next, taken, text_of, untaken_of, session_in}
use Rattle.mw_protocol.specs.Spelled.{records_bytes}
use Rattle.mw_journal.specs.Journal.{disk_of, state_of}
use Rattle.mw_journal.specs.declared.error.AppendError.{AppendError}
use Rattle.mw_journal.specs.declared.error.AppendError.TheVariants.{DiskFault, JournalFull, Memory}
use Rattle.mw_journal.specs.declared.journal.Journal.{Journal}
use Rattle.mw_room.specs.Represents.{Represents}
use Rattle.mw_keep.specs.Acts.{Acts, Goes, is_answered}
use Rattle.mw_keep.specs.Appends.{Appends, StaysSettled, HoldsAfter, outcome_view}
use Rattle.mw_keep.specs.Holds.{AreRecords, Holds}
use Rattle.mw_keep.specs.Keeps.{Keeps, journal_of, kept_disk, room_of, stopped_by}
use Rattle.mw_keep.specs.Views.{stopped_view}
use Rattle.mw_keep.specs.declared.kept.KeptRoom.{KeptRoom}
use Rattle.mw_keep.proofs.Appending.{bytes_joined, if_false, more_pending, rests}

-- ---- of definitions alone

-- a call that isn't refused finds a room that hasn't stopped
pub not_stopped : (life : Life) (call : Call) → refusal life call ≡ None → life.stopped ≡ None
not_stopped life call is = unstopped life.stopped life.calls (refused_in life.room (ends call) (named_by call)) is
  where
    unstopped : (stopped : Option StopCause) (calls : ℕ) (otherwise : Option Reply) → refused_by stopped calls otherwise ≡ None → stopped ≡ None
    unstopped None calls otherwise is = refl
    unstopped (Some cause) calls otherwise is = absurd cc

-- one that hasn't, and has had fewer than 2^63 calls, refuses a call for its session alone
pub goes_past : (stopped : Option StopCause) (n calls : ℕ) (otherwise : Option Reply) → stopped ≡ None → n < 2 ^ 63 → n ≡ min calls (2 ^ 63)
    → refused_by stopped calls otherwise ≡ otherwise
goes_past None n calls otherwise running few is =
    if_false (nat_le (2 ^ 63) calls) _ otherwise (lt-leb (2 ^ 63) calls (omega (arith, few, is)))
goes_past (Some cause) n calls otherwise running few is = absurd cc

-- an event puts its records behind the journal
pub next_journal : (room : Plain) (event : Event) → (next room event).journal ≡ room.journal ++ (effect_in room event).records
next_journal room (opened time) = sym (append-nil room.journal)
next_journal room (sent number packet) = refl
next_journal room (failed number bad) = refl
next_journal room (lost number) = refl

pub both_records : (xs ys : List Record) → AreRecords xs → AreRecords ys → AreRecords (xs ++ ys)
both_records [] ys left right = right
both_records (x ∷ xs) ys left right = (left.0, both_records xs ys left.1 right)

-- with nothing pending all is committed
none_pending : (count : ℕ) (journal : List Record) → count ≤ length journal → drop count journal ≡ [] → count ≡ length journal
none_pending count journal within none = let left : length (drop count journal) ≡ 0 = ap length none in omega (arith, within, left, length-drop count journal)

-- an append commits the whole journal
all_committed : (life : Life) → life.committed ≤ length life.room.journal → (pending : List Record) → pending_of life ≡ pending → committed_then life pending ≡ length life.room.journal
all_committed life within [] none = none_pending life.committed life.room.journal within none
all_committed life within (r ∷ rs) is = refl

-- ---- calls

module _ {D : Type 0} (may_leave : D → List ℕ → Type 0) (moment : D → ℕ) (left_since : D → ℕ → List ℕ → Type 0) (faults : D → ℕ)
    (only_now : (d : D) (c : List ℕ) → left_since d (moment d) c → may_leave d c)
    (counts_now : (d : D) (t : ℕ) (c : List ℕ) → t ≤ moment d → may_leave d c → left_since d t c)
    (digest : List ℕ) (life : Life) where
  abbrev Stays : D → D → Type 0
  Stays before after = StaysSettled moment left_since digest (committed_of life) (pending_of life) before after

  -- where nothing is done on the disk
  stays_so : (stopped : Option StopCause) (before after : KeptRoom D) → Holds may_leave digest (committed_of life) (pending_of life) life.place stopped (journal_of before)
      → kept_disk after ≡ kept_disk before → Stays (kept_disk before) (kept_disk after)
  stays_so stopped before after holds same =
      subst (Stays (kept_disk before)) (sym same)
      (rests may_leave moment left_since faults only_now counts_now digest (committed_of life) life.place (pending_of life) stopped (journal_of before) holds)

  -- a call that is refused
  pub acts_refused : (call : Call) (reply : Reply) (before after : KeptRoom D) → Some reply ≡ refusal life call
      → Keeps may_leave digest life before → Keeps may_leave digest (counted life) after → journal_of after ≡ journal_of before
      → Acts may_leave moment left_since faults digest life call before reply after
  acts_refused call reply before after is keeps keeps_after same = record {
    luck = fine;
    replies = ap (λ o. reply_unless o (reply_of life.room call (outcome life call fine))) is;
    keeps = subst (λ o. Keeps may_leave digest (life_unless o life (life_of life call (outcome life call fine))) after) is keeps_after;
    fault = λ unlucky. absurd cc;
    settled = stays_so life.stopped before after keeps.holds (ap disk_of same);
    quiet = λ none. ap disk_of same;
    whole = λ answered is. ap state_of same ∙ is;
  }

  -- a call that isn't, after it was counted
  pub acts_gone : (call : Call) (reply : Reply) (before mid after : KeptRoom D) → None ≡ refusal life call
      → journal_of mid ≡ journal_of before → Goes may_leave moment left_since faults digest life call mid reply after
      → Acts may_leave moment left_since faults digest life call before reply after
  acts_gone call reply before mid after is same goes =
      let appends : append_of life call ≡ appended life call = ap (λ o. appended_unless o (append_of life call)) is in record {
        luck = goes.luck;
        replies = goes.replies ∙ ap (λ o. reply_unless o (reply_of life.room call (outcome life call goes.luck))) is;
        keeps = subst (λ o. Keeps may_leave digest (life_unless o life (life_of life call (outcome life call goes.luck))) after) is goes.keeps;
        fault = λ unlucky. subst (λ d. faults d < faults (kept_disk after)) (ap disk_of same) (goes.fault unlucky);
        settled = subst (λ d. Stays d (kept_disk after)) (ap disk_of same) goes.settled;
        quiet = λ none. goes.quiet (appends ∙ none) ∙ ap disk_of same;
        whole = λ answered is. goes.whole answered (ap state_of same ∙ is);
      }

  -- ---- events

  module _ (event : Event) (before : KeptRoom D) (keeps : Keeps may_leave digest (counted life) before) where
    -- memory is wanting
    pub goes_lacking : (after : KeptRoom D) → room_of after ≡ room_of before → journal_of after ≡ journal_of before → after.pending ≡ before.pending → after.committed ≡ before.committed
        → after.calls ≡ before.calls → after.stopped ≡ before.stopped → Goes may_leave moment left_since faults digest life (happens event) before memory after
    goes_lacking after room journal pending committed calls stopped = record {
      luck = lacking;
      replies = refl;
      keeps = record {
        room = subst (λ r. Represents r life.room) (sym room) keeps.room;
        records = keeps.records;
        within = keeps.within;
        holds = subst (Holds may_leave digest (committed_of life) (pending_of life) life.place life.stopped) (sym journal) keeps.holds;
        pending = pending ∙ keeps.pending;
        committed = committed ∙ keeps.committed;
        stopped = ap stopped_view stopped ∙ keeps.stopped;
        calls = calls ∙ keeps.calls;
      };
      fault = λ unlucky. absurd cc;
      settled = stays_so life.stopped before after keeps.holds (ap disk_of journal);
      quiet = λ none. ap disk_of journal;
      whole = λ answered is. ap state_of journal ∙ is;
    }

    -- its records are pending, and it is done
    pub goes_done : (reply : Reply) (after : KeptRoom D)
        → AreRecords (records_of life.room (happens event)) → after.pending ≡ before.pending ++ records_bytes (records_of life.room (happens event))
        → reply ≡ answer_to life.room event → Represents (room_of after) (next life.room event)
        → journal_of after ≡ journal_of before → after.committed ≡ before.committed → after.calls ≡ before.calls → after.stopped ≡ before.stopped
        → Goes may_leave moment left_since faults digest life (happens event) before reply after
    goes_done reply after spelled pending replies stands journal committed calls stopped =
        let records = records_of life.room (happens event) in
        let old = life.room.journal in
        let more : old ++ records ≡ (next life.room event).journal = sym (next_journal life.room event) in
        let kept : committed_of life ≡ take life.committed (next life.room event).journal = sym (take-append-le life.committed old records keeps.within) ∙ ap (take life.committed) more in
        let left : pending_of life ++ records ≡ drop life.committed (next life.room event).journal = sym (drop-append-le life.committed old records keeps.within) ∙ ap (drop life.committed) more in
        let longer : length (old ++ records) ≡ length (next life.room event).journal = ap length more in record {
          luck = fine;
          replies = replies;
          keeps = record {
            room = stands;
            records = subst AreRecords more (both_records old records keeps.records spelled);
            within = omega (arith, keeps.within, length-append old records, longer);
            holds = subst (Holds may_leave digest (take life.committed (next life.room event).journal) (drop life.committed (next life.room event).journal) life.place life.stopped) (sym journal)
                (subst (λ rs. Holds may_leave digest (take life.committed (next life.room event).journal) rs life.place life.stopped (journal_of before)) left
                (subst (λ rs. Holds may_leave digest rs (pending_of life ++ records) life.place life.stopped (journal_of before)) kept
                (more_pending may_leave digest (committed_of life) (pending_of life) life.place records life.stopped (journal_of before) keeps.holds)));
            pending = pending ∙ ap (λ bytes. bytes ++ records_bytes records) keeps.pending ∙ sym (bytes_joined (pending_of life) records) ∙ ap records_bytes left;
            committed = committed ∙ keeps.committed;
            stopped = ap stopped_view stopped ∙ keeps.stopped;
            calls = calls ∙ keeps.calls;
          };
          fault = λ unlucky. absurd cc;
          settled = stays_so life.stopped before after keeps.holds (ap disk_of journal);
          quiet = λ none. ap disk_of journal;
          whole = λ answered is. ap state_of journal ∙ is;
        }

  -- ---- commits

  module _ (before : KeptRoom D) (keeps : Keeps may_leave digest (counted life) before) (running : life.stopped ≡ None) where
    -- the journal holds what a commit begins with
    pub holds_pending : Holds may_leave digest (committed_of life) (pending_of life) life.place None (journal_of before)
    holds_pending = subst (λ s. Holds may_leave digest (committed_of life) (pending_of life) life.place s (journal_of before)) running keeps.holds

    -- the append went well
    pub commit_done : (j : Journal D) (after : KeptRoom D)
        → Appends may_leave moment left_since faults digest (committed_of life) (pending_of life) life.place (journal_of before) (Ok tt) j
        → (before.pending ≡ [] → j ≡ journal_of before)
        → room_of after ≡ room_of before → journal_of after ≡ j → after.pending ≡ [] → after.committed ≡ length life.room.journal
        → after.calls ≡ before.calls → after.stopped ≡ before.stopped
        → Goes may_leave moment left_since faults digest life commits before done after
    commit_done j after appends quiet room journal pending committed calls stopped =
        let old = life.room.journal in
        let all = all_committed life keeps.within (pending_of life) refl in
        let whole : committed_of life ++ pending_of life ≡ old = take-append-drop life.committed old in
        let disk : kept_disk after ≡ disk_of j = ap disk_of journal in
        let place = place_then life.place (pending_of life) in record {
          luck = appends.luck;
          replies = ap (reply_of life.room commits) appends.outcome;
          keeps = subst (λ o. Keeps may_leave digest (life_of life commits o) after) appends.outcome record {
            room = subst (λ r. Represents r life.room) (sym room) keeps.room;
            records = keeps.records;
            within = omega (arith, all);
            holds = subst (λ n. Holds may_leave digest (take n old) (drop n old) place life.stopped (journal_of after)) (sym all)
                (subst (λ rs. Holds may_leave digest (take (length old) old) rs place life.stopped (journal_of after)) (sym (drop-length old))
                (subst (λ rs. Holds may_leave digest rs [] place life.stopped (journal_of after)) (whole ∙ sym (take-length old))
                (subst (λ s. Holds may_leave digest (committed_of life ++ pending_of life) [] place s (journal_of after)) (sym running)
                (subst (Holds may_leave digest (committed_of life ++ pending_of life) [] place None) (sym journal) appends.holds))));
            pending = pending ∙ sym (ap (λ n. records_bytes (drop n old)) all ∙ ap records_bytes (drop-length old));
            committed = committed ∙ sym all;
            stopped = ap stopped_view stopped ∙ keeps.stopped;
            calls = calls ∙ keeps.calls;
          };
          fault = λ unlucky. subst (λ d. faults (kept_disk before) < faults d) (sym disk) (appends.fault unlucky);
          settled = subst (Stays (kept_disk before)) (sym disk) appends.settled;
          quiet = λ none. disk ∙ ap disk_of (quiet (keeps.pending ∙ ap records_bytes none));
          whole = λ answered is. ap state_of journal ∙ appends.whole is;
        }

    stops_keeps : (error : AppendError) (j : Journal D) (after : KeptRoom D)
        → HoldsAfter may_leave digest (committed_of life) (pending_of life) life.place (outcome_view (Err error)) j
        → room_of after ≡ room_of before → journal_of after ≡ j → after.pending ≡ before.pending → after.committed ≡ before.committed → after.calls ≡ before.calls
        → stopped_view after.stopped ≡ stopped_by (outcome_view (Err error)) (stopped_view before.stopped)
        → Keeps may_leave digest (life_of life commits (outcome_view (Err error))) after
    stops_keeps DiskFault j after holds room journal pending committed calls stopped = record {
      room = subst (λ r. Represents r life.room) (sym room) keeps.room;
      records = keeps.records;
      within = keeps.within;
      holds = subst (Holds may_leave digest (committed_of life) (pending_of life) life.place (Some disk_fault)) (sym journal) holds;
      pending = pending ∙ keeps.pending;
      committed = committed ∙ keeps.committed;
      stopped = stopped;
      calls = calls ∙ keeps.calls;
    }
    stops_keeps (JournalFull len) j after holds room journal pending committed calls stopped = record {
      room = subst (λ r. Represents r life.room) (sym room) keeps.room;
      records = keeps.records;
      within = keeps.within;
      holds = subst (Holds may_leave digest (committed_of life) (pending_of life) life.place (Some (journal_full len))) (sym journal) holds;
      pending = pending ∙ keeps.pending;
      committed = committed ∙ keeps.committed;
      stopped = stopped;
      calls = calls ∙ keeps.calls;
    }
    stops_keeps Memory j after holds room journal pending committed calls stopped = record {
      room = subst (λ r. Represents r life.room) (sym room) keeps.room;
      records = keeps.records;
      within = keeps.within;
      holds = subst (λ x. Holds may_leave digest (committed_of life) (pending_of life) life.place x (journal_of after)) (sym running)
          (subst (Holds may_leave digest (committed_of life) (pending_of life) life.place None) (sym journal) holds);
      pending = pending ∙ keeps.pending;
      committed = committed ∙ keeps.committed;
      stopped = stopped ∙ keeps.stopped;
      calls = calls ∙ keeps.calls;
    }

    unanswered : (error : AppendError) → is_answered (reply_of life.room commits (outcome_view (Err error))) ≡ true → ⊥
    unanswered DiskFault is = absurd cc
    unanswered (JournalFull len) is = absurd cc
    unanswered Memory is = absurd cc

    -- it failed
    pub commit_stopped : (error : AppendError) (j : Journal D) (reply : Reply) (after : KeptRoom D)
        → Appends may_leave moment left_since faults digest (committed_of life) (pending_of life) life.place (journal_of before) (Err error) j
        → (before.pending ≡ [] → j ≡ journal_of before)
        → reply ≡ reply_of life.room commits (outcome_view (Err error))
        → room_of after ≡ room_of before → journal_of after ≡ j → after.pending ≡ before.pending → after.committed ≡ before.committed → after.calls ≡ before.calls
        → stopped_view after.stopped ≡ stopped_by (outcome_view (Err error)) (stopped_view before.stopped)
        → Goes may_leave moment left_since faults digest life commits before reply after
    commit_stopped error j reply after appends quiet replies room journal pending committed calls stopped =
        let disk : kept_disk after ≡ disk_of j = ap disk_of journal in record {
          luck = appends.luck;
          replies = replies ∙ ap (reply_of life.room commits) appends.outcome;
          keeps = subst (λ o. Keeps may_leave digest (life_of life commits o) after) appends.outcome
              (stops_keeps error j after appends.holds room journal pending committed calls stopped);
          fault = λ unlucky. subst (λ d. faults (kept_disk before) < faults d) (sym disk) (appends.fault unlucky);
          settled = subst (Stays (kept_disk before)) (sym disk) appends.settled;
          quiet = λ none. disk ∙ ap disk_of (quiet (keeps.pending ∙ ap records_bytes none));
          whole = λ answered is. absurd (unanswered error (ap is_answered (sym replies) ∙ answered));
        }

  -- ---- takes

  module _ (session : ℕ) where
    abbrev texts : List (List ℕ)
    texts = map text_of (untaken_of (session_in life.room.sessions session))

    -- what a take appends, by whether it shows what is pending
    shown : (b : Bool) → shows_pending life session ≡ b → append_of life (takes session) ≡ cond b (pending_of life) []
    shown b is = ap (λ x. cond x (pending_of life) []) is

    -- a room whose session took its messages
    taken_keeps : (l : Life) (before after : KeptRoom D) → Keeps may_leave digest l before → Represents (room_of after) (taken l.room session)
        → journal_of after ≡ journal_of before → after.pending ≡ before.pending → after.committed ≡ before.committed → after.calls ≡ before.calls → after.stopped ≡ before.stopped
        → Keeps may_leave digest record { room = taken l.room session; committed = l.committed; place = l.place; stopped = l.stopped; calls = l.calls } after
    taken_keeps l before after keeps stands journal pending committed calls stopped = record {
      room = stands;
      records = keeps.records;
      within = keeps.within;
      holds = subst (Holds may_leave digest (committed_of l) (pending_of l) l.place l.stopped) (sym journal) keeps.holds;
      pending = pending ∙ keeps.pending;
      committed = committed ∙ keeps.committed;
      stopped = ap stopped_view stopped ∙ keeps.stopped;
      calls = calls ∙ keeps.calls;
    }

    -- the life once it took them, with these records appended
    abbrev taken_life : List Record → Life
    taken_life records = record {
      room = taken life.room session;
      committed = committed_then life records;
      place = place_then life.place records;
      stopped = life.stopped;
      calls = life.calls + 1;
    }

    -- it shows nothing that is pending
    pub takes_quietly : (before after : KeptRoom D) (given : List (List ℕ)) → given ≡ texts → shows_pending life session ≡ false → Keeps may_leave digest (counted life) before
        → Represents (room_of after) (taken life.room session)
        → journal_of after ≡ journal_of before → after.pending ≡ before.pending → after.committed ≡ before.committed → after.calls ≡ before.calls → after.stopped ≡ before.stopped
        → Goes may_leave moment left_since faults digest life (takes session) before (messages given) after
    takes_quietly before after given all none keeps stands journal pending committed calls stopped =
        let nothing : [] ≡ append_of life (takes session) = sym (shown false none) in
        let goes : passes ≡ outcome life (takes session) fine = ap (append life.place fine) nothing in record {
          luck = fine;
          replies = ap messages all ∙ ap (reply_of life.room (takes session)) goes;
          keeps = subst (λ o. Keeps may_leave digest (life_of life (takes session) o) after) goes
              (subst (λ rs. Keeps may_leave digest (taken_life rs) after) nothing (taken_keeps (counted life) before after keeps stands journal pending committed calls stopped));
          fault = λ unlucky. absurd cc;
          settled = stays_so life.stopped before after keeps.holds (ap disk_of journal);
          quiet = λ nothing_there. ap disk_of journal;
          whole = λ answered is. ap state_of journal ∙ is;
        }

    -- a commit that is answered as done passed
    commit_passes : (o : Outcome) → done ≡ reply_of life.room commits o → o ≡ passes
    commit_passes passes is = refl
    commit_passes lacks is = absurd cc
    commit_passes (stops cause) is = absurd cc

    -- what it shows was committed first
    pub takes_after : (before mid after : KeptRoom D) (given : List (List ℕ)) → shows_pending life session ≡ true → Goes may_leave moment left_since faults digest life commits before done mid
        → (Represents (room_of mid) life.room → (given ≡ texts) × Represents (room_of after) (taken life.room session))
        → journal_of after ≡ journal_of mid → after.pending ≡ mid.pending → after.committed ≡ mid.committed → after.calls ≡ mid.calls → after.stopped ≡ mid.stopped
        → Goes may_leave moment left_since faults digest life (takes session) before (messages given) after
    takes_after before mid after given some goes took journal pending committed calls stopped =
        let all : pending_of life ≡ append_of life (takes session) = sym (shown true some) in
        let passed = commit_passes (append life.place goes.luck (pending_of life)) goes.replies in
        let goes_so : passes ≡ outcome life (takes session) goes.luck = sym passed ∙ ap (append life.place goes.luck) all in
        let disk : kept_disk mid ≡ kept_disk after = sym (ap disk_of journal) in
        let done_so : Keeps may_leave digest (life_of life commits passes) mid = subst (λ o. Keeps may_leave digest (life_of life commits o) mid) passed goes.keeps in
        let h = took done_so.room in record {
          luck = goes.luck;
          replies = ap messages h.0 ∙ ap (reply_of life.room (takes session)) goes_so;
          keeps = subst (λ o. Keeps may_leave digest (life_of life (takes session) o) after) goes_so
              (subst (λ rs. Keeps may_leave digest (taken_life rs) after) all
              (taken_keeps (life_of life commits passes) mid after done_so h.1 journal pending committed calls stopped));
          fault = λ unlucky. subst (λ d. faults (kept_disk before) < faults d) disk (goes.fault unlucky);
          settled = subst (Stays (kept_disk before)) disk goes.settled;
          quiet = λ none. sym disk ∙ goes.quiet (all ∙ none);
          whole = λ answered is. ap state_of journal ∙ goes.whole refl is;
        }

    -- a commit that isn't done is answered and leaves what a take is that isn't
    same_failed : (o : Outcome) → (reply_of life.room commits o ≡ done → ⊥)
        → (reply_of life.room commits o ≡ reply_of life.room (takes session) o) × (life_of life commits o ≡ life_of life (takes session) o)
    same_failed passes fails = absurd (fails refl)
    same_failed lacks fails = (refl, refl)
    same_failed (stops cause) fails = (refl, refl)

    pub takes_failed : (before after : KeptRoom D) (reply : Reply) → shows_pending life session ≡ true → (reply ≡ done → ⊥) → Goes may_leave moment left_since faults digest life commits before reply after
        → Goes may_leave moment left_since faults digest life (takes session) before reply after
    takes_failed before after reply some fails goes =
        let all : pending_of life ≡ append_of life (takes session) = sym (shown true some) in
        let o = append life.place goes.luck (pending_of life) in
        let same = same_failed o (λ is. fails (goes.replies ∙ is)) in
        let outcomes : o ≡ outcome life (takes session) goes.luck = ap (append life.place goes.luck) all in record {
          luck = goes.luck;
          replies = goes.replies ∙ same.0 ∙ ap (reply_of life.room (takes session)) outcomes;
          keeps = subst (λ x. Keeps may_leave digest (life_of life (takes session) x) after) outcomes (subst (λ l. Keeps may_leave digest l after) same.1 goes.keeps);
          fault = goes.fault;
          settled = goes.settled;
          quiet = λ none. goes.quiet (all ∙ none);
          whole = goes.whole;
        }
