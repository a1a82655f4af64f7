-- What an append of what is pending leaves of a journal.
use Rattle.std.proofs.Common.{◌≡◌, ◌≢◌, ◌⊎◌, ◌<◌, ◌≤◌, ◌+◌, ◌^◌, ◌++◌, ◌∷◌, [], ℕ, List, Bool, true, false, length, inl, inr, refl, sym, ap, subst, ◌∙◌, arith, append_assoc, length-append, Some, None}
use Rattle.std.specs.Prelude.{Result, Ok, Err, OnOk, IfErr, IsErrOf, map, ◌==◌, if◌then◌else◌}
use Rattle.std.proofs.lemmas.List.{append-nil}
use Rattle.std.proofs.lemmas.List.Concat.{flat_map-append}
use Rattle.std.proofs.lemmas.Bool.{lt-ltb, le-ltb, eqb-true}
use Rattle.std.specs.declared.option.Option.{Option}
use Rattle.mw_disk.specs.Crash.{LeavesOnly}
use Rattle.mw_disk.proofs.Moments.{started}
use Rattle.mw_protocol.specs.Lives.{StopCause, disk_fault, journal_full, fine, lacking, faulty, Outcome, passes, stops, or_full}
use Rattle.mw_protocol.specs.Records.{Record, checks, release, collect, status, hint, hint_status, store}
use Rattle.mw_protocol.specs.Spelled.{record_bytes, records_bytes}
use Rattle.mw_journal.specs.Image.{IsShut}
use Rattle.mw_journal.specs.Journal.{StandsFor, IsSame, Leaves, TellsFull, disk_of, gate_of, state_of}
use Rattle.mw_journal.specs.Settled.{IsSettled, AllSettled}
use Rattle.mw_journal.specs.declared.error.AppendError.{AppendError}
use Rattle.mw_journal.specs.declared.error.AppendError.TheVariants.{DiskFault, JournalFull, Memory}
use Rattle.mw_journal.specs.declared.journal.Journal.{Journal}
use Rattle.mw_journal.specs.declared.state.JournalState.TheVariants.{Whole, Faulted, OutOfMemory}
use Rattle.mw_keep.specs.Appends.{Appends, StaysSettled}
use Rattle.mw_keep.specs.Holds.{Holds, IsSafe, IsBroken}

-- ---- bytes

pub some_bytes : (r : Record) → 1 ≤ length (record_bytes r)
some_bytes (checks team slot locations) = omega arith
some_bytes (release team slot) = omega arith
some_bytes (collect team slot) = omega arith
some_bytes (status team slot number) = omega arith
some_bytes (hint h) = omega arith
some_bytes (hint_status team finder location number) = omega arith
some_bytes (store key value) = omega arith

pub records_some : (r : Record) (rs : List Record) → 1 ≤ length (records_bytes (r ∷ rs))
records_some r rs = omega (arith, some_bytes r, length-append (record_bytes r) (records_bytes rs))

pub bytes_joined : (xs ys : List Record) → records_bytes (xs ++ ys) ≡ records_bytes xs ++ records_bytes ys
bytes_joined xs ys = flat_map-append record_bytes xs ys

pub no_records : {A : Type 0} (xs : List A) → true ≡ (length xs == 0) → xs ≡ []
no_records [] is = refl
no_records (x ∷ xs) is = let no : length (x ∷ xs) ≡ 0 = eqb-true (length (x ∷ xs)) 0 (sym is) in absurd (omega (arith, no))

pub some_length : {A : Type 0} (xs : List A) → false ≡ (length xs == 0) → 1 ≤ length xs
some_length [] is = absurd cc
some_length (x ∷ xs) is = omega arith

-- where some bytes are pending some records are
pub bytes_none : (rs : List Record) → records_bytes rs ≡ [] → rs ≡ []
bytes_none [] is = refl
bytes_none (r ∷ rs) is = let none : length (records_bytes (r ∷ rs)) ≡ 0 = ap length is in absurd (omega (arith, none, records_some r rs))

-- ---- how full a journal is

if_true : {A : Type 0} (b : Bool) (x y : A) → b ≡ true → (if b then x else y) ≡ x
if_true true x y is = refl
if_true false x y is = absurd cc

pub if_false : {A : Type 0} (b : Bool) (x y : A) → b ≡ false → (if b then x else y) ≡ y
if_false false x y is = refl
if_false true x y is = absurd cc

room_left : (place : ℕ) (rs : List Record) (otherwise : Outcome) → place + 6 + length (records_bytes rs) ≤ 2 ^ 30
    → or_full place rs otherwise ≡ otherwise
room_left place rs otherwise within = if_false _ _ _ (le-ltb (2 ^ 30) (place + 6 + length (records_bytes rs)) within)

no_room : (place : ℕ) (rs : List Record) (otherwise : Outcome) → 2 ^ 30 < place + 6 + length (records_bytes rs)
    → or_full place rs otherwise ≡ stops (journal_full (place + 6 + length (records_bytes rs)))
no_room place rs otherwise beyond = if_true _ _ _ (lt-ltb (2 ^ 30) (place + 6 + length (records_bytes rs)) beyond)

module _ {D : Type 0} (may_leave : D → List ℕ → Type 0) (digest : List ℕ) (kept pending : List Record) (place : ℕ) where
  -- nothing of the journal changed
  same_holds : (before after : Journal D) → IsSame before after → IsSafe may_leave digest kept place before → IsSafe may_leave digest kept place after
  same_holds before after same safe = record {
    stands = (
      same.state ∙ safe.stands.0,
      λ c left. subst (λ n. IsShut c digest (records_bytes kept) n 0) (sym same.gate)
          (safe.stands.1 c (subst (λ d. may_leave d c) same.disk left)),
    );
    here = same.gate ∙ safe.here;
  }

  -- a journal that holds so with some pending records does with more
  pub more_pending : (more : List Record) (stopped : Option StopCause) (j : Journal D) → Holds may_leave digest kept pending place stopped j
      → Holds may_leave digest kept (pending ++ more) place stopped j
  more_pending more stopped j (inl safe) = inl safe
  more_pending more stopped j (inr b) = inr record {
    broken = b.broken;
    fault = b.fault;
    batch = b.batch;
    first = (b.first.0 ++ more, sym (append_assoc b.batch b.first.0 more) ∙ ap (λ rs. rs ++ more) b.first.1);
    settled = b.settled;
  }

module _ {D : Type 0} (may_leave : D → List ℕ → Type 0) (moment : D → ℕ) (left_since : D → ℕ → List ℕ → Type 0) (faults : D → ℕ)
    (only_now : (d : D) (c : List ℕ) → left_since d (moment d) c → may_leave d c)
    (counts_now : (d : D) (t : ℕ) (c : List ℕ) → t ≤ moment d → may_leave d c → left_since d t c)
    (digest : List ℕ) (kept : List Record) (place : ℕ) where
  -- a journal on which nothing is done stays settled
  pub rests : (pending : List Record) (stopped : Option StopCause) (j : Journal D) → Holds may_leave digest kept pending place stopped j
      → StaysSettled moment left_since digest kept pending (disk_of j) (disk_of j)
  rests pending stopped j (inl safe) = record {
    batch = [];
    first = (pending, refl);
    moments = started moment left_since (disk_of j) _ (λ c left. inl (gate_of j, safe.stands.1 c (only_now (disk_of j) c left)));
  }
  rests pending stopped j (inr b) = record {
    batch = b.batch;
    first = b.first;
    moments = started moment left_since (disk_of j) _ (λ c left. b.settled c (only_now (disk_of j) c left));
  }

  -- nothing to append
  pub appends_none : (pending : List Record) (j : Journal D) → pending ≡ [] → Holds may_leave digest kept pending place None j
      → Appends may_leave moment left_since faults digest kept pending place j (Ok tt) j
  appends_none [] j none holds = record {
    luck = fine;
    outcome = refl;
    holds = subst (λ rs. Holds may_leave digest rs [] place None j) (sym (append-nil kept)) holds;
    fault = λ is. absurd cc;
    settled = rests [] None j holds;
    whole = λ is. is;
  }
  appends_none (r ∷ rs) j none holds = absurd cc

  -- what `append_batch` says of an append of some bytes
  pub record Batch (before after : Journal D) (bytes : List ℕ) (result : Result (Unit {0}) AppendError) : Type 0 where
    pub any_moment : StandsFor may_leave digest (records_bytes kept) before
        → LeavesOnly moment left_since (disk_of before) (disk_of after) (λ c. IsSettled c digest (records_bytes kept) bytes)
    pub ok : OnOk result (StandsFor may_leave digest (records_bytes kept) before
        → StandsFor may_leave digest (records_bytes kept ++ bytes) after)
    pub gate : OnOk result (gate_of after ≡ gate_of before + 5 + length bytes)
    pub full : IfErr result (TellsFull (state_of before) (gate_of before + 6 + length bytes))
    pub room : OnOk result (gate_of before + 6 + length bytes ≤ 2 ^ 30)
    pub fault : IsErrOf result DiskFault → (faults (disk_of before) < faults (disk_of after)) ⊎ (state_of before ≡ Faulted)
    pub state : Leaves result (IsSame before after) (state_of before) (state_of after)

  module _ (r : Record) (rs : List Record) (before after : Journal D) where
    abbrev all : List Record
    all = r ∷ rs

    -- each image of a disk after an append that began whole is settled
    now_settled : LeavesOnly moment left_since (disk_of before) (disk_of after) (λ c. IsSettled c digest (records_bytes kept) (records_bytes all))
        → AllSettled (may_leave (disk_of after)) digest (records_bytes kept) (records_bytes all)
    now_settled moments c left = moments.each c (counts_now (disk_of after) (moment (disk_of before)) c moments.later left)

    is_broken : (stopped : Option StopCause) → state_of after ≢ Whole → (state_of after ≡ Faulted → stopped ≡ Some disk_fault)
        → LeavesOnly moment left_since (disk_of before) (disk_of after) (λ c. IsSettled c digest (records_bytes kept) (records_bytes all))
        → Holds may_leave digest kept all place stopped after
    is_broken stopped broken fault moments = inr record {
      broken = broken;
      fault = fault;
      batch = all;
      first = ([], append-nil all);
      settled = now_settled moments;
    }

    the_batch : LeavesOnly moment left_since (disk_of before) (disk_of after) (λ c. IsSettled c digest (records_bytes kept) (records_bytes all))
        → StaysSettled moment left_since digest kept all (disk_of before) (disk_of after)
    the_batch moments = record { batch = all; first = ([], append-nil all); moments = moments }

    -- on a whole journal
    appends_safe : (result : Result (Unit {0}) AppendError) → Batch before after (records_bytes all) result → IsSafe may_leave digest kept place before
        → Appends may_leave moment left_since faults digest kept all place before result after
    appends_safe (Ok done) b safe =
        let moments = b.any_moment safe.stands in
        let long : place + 6 + length (records_bytes all) ≤ 2 ^ 30 = omega (arith, b.room, safe.here) in record {
          luck = fine;
          outcome = sym (room_left place all passes long);
          holds = inl record {
            stands = subst (λ text. StandsFor may_leave digest text after) (sym (bytes_joined kept all)) (b.ok safe.stands);
            here = b.gate ∙ ap (λ n. n + 5 + length (records_bytes all)) safe.here;
          };
          fault = λ is. absurd cc;
          settled = the_batch moments;
          whole = λ is. b.state.1;
        }
    appends_safe (Err DiskFault) b safe =
        let moments = b.any_moment safe.stands in
        let whole = safe.stands.0 in
        let long : place + 6 + length (records_bytes all) ≤ 2 ^ 30 = omega (arith, b.full whole, safe.here) in record {
          luck = faulty;
          outcome = sym (room_left place all (stops disk_fault) long);
          holds = is_broken (Some disk_fault) (λ is. let no : Faulted ≡ Whole = sym b.state.0 ∙ is in absurd cc) (λ is. refl) moments;
          fault = λ is. elim (b.fault refl) [
            | inl rose ↦ rose
            | inr broken ↦ let no : Whole ≡ Faulted = sym whole ∙ broken in absurd cc
          ];
          settled = the_batch moments;
          whole = tt;
        }
    appends_safe (Err (JournalFull len)) b safe =
        let moments = b.any_moment safe.stands in
        let told : len ≡ place + 6 + length (records_bytes all) = omega (arith, b.full.0, safe.here) in
        let beyond : 2 ^ 30 < place + 6 + length (records_bytes all) = omega (arith, b.full.1, safe.here) in record {
          luck = fine;
          outcome = ap (λ n. stops (journal_full n)) told ∙ sym (no_room place all passes beyond);
          holds = inl (same_holds may_leave digest kept all place before after b.state.1 safe);
          fault = λ is. absurd cc;
          settled = the_batch moments;
          whole = tt;
        }
    appends_safe (Err Memory) b safe =
        let moments = b.any_moment safe.stands in
        let whole = safe.stands.0 in record {
          luck = lacking;
          outcome = refl;
          holds = elim b.state [
            | inl kept_whole ↦ inl (same_holds may_leave digest kept all place before after kept_whole.1 safe)
            | inr broke ↦ elim broke [
              | inl late ↦ is_broken None (λ is. let no : OutOfMemory ≡ Whole = sym late.1 ∙ is in absurd cc)
                  (λ is. let no : OutOfMemory ≡ Faulted = sym late.1 ∙ is in absurd cc) moments
              | inr again ↦ let no : OutOfMemory ≡ Whole = sym again.0 ∙ whole in absurd cc
            ]
          ];
          fault = λ is. absurd cc;
          settled = the_batch moments;
          whole = tt;
        }

    -- on a journal that an append broke
    appends_broken : (result : Result (Unit {0}) AppendError) → Batch before after (records_bytes all) result → IsBroken may_leave digest kept all None before
        → Appends may_leave moment left_since faults digest kept all place before result after
    appends_broken (Ok done) b broken = absurd (broken.broken b.state.0)
    appends_broken (Err DiskFault) b broken = elim b.state.1 [
      | inl whole ↦ absurd (broken.broken whole)
      | inr again ↦ let no : None ≡ Some disk_fault = broken.fault again.0 in absurd cc
    ]
    appends_broken (Err (JournalFull len)) b broken = absurd (broken.broken b.state.0)
    appends_broken (Err Memory) b broken = elim b.state [
      | inl whole ↦ absurd (broken.broken whole.0)
      | inr broke ↦ elim broke [
        | inl late ↦ absurd (broken.broken late.0)
        | inr again ↦ record {
          luck = lacking;
          outcome = refl;
          holds = inr record {
            broken = λ is. broken.broken (sym again.1.state ∙ is);
            fault = λ is. broken.fault (sym again.1.state ∙ is);
            batch = broken.batch;
            first = broken.first;
            settled = λ c left. broken.settled c (subst (λ d. may_leave d c) again.1.disk left);
          };
          fault = λ is. absurd cc;
          settled = subst (λ d. StaysSettled moment left_since digest kept all (disk_of before) d) (sym again.1.disk) (rests all None before (inr broken));
          whole = tt;
        }
      ]
    ]

    pub appends_some : (result : Result (Unit {0}) AppendError) → Batch before after (records_bytes all) result → Holds may_leave digest kept all place None before
        → Appends may_leave moment left_since faults digest kept all place before result after
    appends_some result b (inl safe) = appends_safe result b safe
    appends_some result b (inr broken) = appends_broken result b broken

  pub appends_list : (pending : List Record) → pending ≢ [] → (before after : Journal D) (bytes : List ℕ)
      (result : Result (Unit {0}) AppendError) → bytes ≡ records_bytes pending → Batch before after bytes result
      → Holds may_leave digest kept pending place None before
      → Appends may_leave moment left_since faults digest kept pending place before result after
  appends_list [] some before after bytes result is b holds = absurd (some refl)
  appends_list (r ∷ rs) some before after bytes result is b holds =
      appends_some r rs before after result (subst (λ l. Batch before after l result) is b) holds
