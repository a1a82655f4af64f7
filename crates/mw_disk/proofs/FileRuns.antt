-- What single calls on a file of the system do, and several after one another.
use Rattle.std.proofs.Common.{◌≡◌, ◌<◌, ◌≤◌, ◌⊎◌, inl, inr, ℕ, ◌+◌, ◌-◌, List, length, take, drop, refl, sym, ap, subst, ◌∙◌, arith, Bool, true, false, Option, Some, None}
use Rattle.std.specs.Prelude.{IsTrue, nat_le, min, ◌==◌, Result, Ok, Err, IfOk, OnOk}
use Rattle.std.proofs.lemmas.Bool.{and_parts, eqb-true, le-leb, lt-leb}
use Rattle.std.proofs.lemmas.List.{take-take, drop-drop, take_all, length-take}
use Rattle.mw_disk.specs.declared.file_event.FileEvent.TheVariants.{Length, Read, Write, Resize, Sync, SyncFolder}
use Rattle.mw_disk.specs.Crash.{Torn, CutShort, Follows, Elapses, OnlyTold}
use Rattle.mw_disk.specs.Laws.{unwritten_torn, uncut}
use Rattle.mw_disk.specs.FileLaws.{resizes_still, since_now, told_left}
use Rattle.mw_disk.specs.FileLogs.{Event, FileLog, noted, first_state, state_of, Resizes, SafeAfter, IsFirst, LeftAll, Leaves, LeftSince, moment_of}
use Rattle.mw_disk.specs.Untold.{never_true}
use Rattle.mw_disk.specs.FileRuns.{Runs, Reads, Settles, Safe, told_if, LeavesIf}

-- one call more
pub one_more : (event : Event) (log : FileLog)
    → Elapses (moment_of log) (moment_of (noted event log)) (LeftSince log) (LeftSince (noted event log)) (Leaves (noted event log))
one_more event log = record {
  later = omega arith;
  nothing_else = λ t c le left. elim left [ inl now ↦ inr now.1 | inr past ↦ inl past ];
  keeps = λ t c le left. inr left;
}

-- no call
pub none_more : (log : FileLog) → Elapses (moment_of log) (moment_of log) (LeftSince log) (LeftSince log) (Leaves log)
none_more log = record { later = omega arith; nothing_else = λ t c le left. inl left; keeps = λ t c le left. left }

-- some calls after others, where what a crash may leave between them is left before or after both
pub more_then : (a b c : FileLog)
    → Elapses (moment_of a) (moment_of b) (LeftSince a) (LeftSince b) (Leaves b)
    → Elapses (moment_of b) (moment_of c) (LeftSince b) (LeftSince c) (Leaves c)
    → ((d : List ℕ) → Leaves b d → Leaves a d ⊎ Leaves c d)
    → Elapses (moment_of a) (moment_of c) (LeftSince a) (LeftSince c) (Leaves c)
more_then a b c first second between = record {
  later = omega (arith, first.later, second.later);
  nothing_else = λ t d le left. elim (second.nothing_else t d (omega (arith, le, first.later)) left) [
    | inr now ↦ inr now
    | inl mid ↦ elim (first.nothing_else t d le mid) [
      | inl past ↦ inl past
      | inr here ↦ elim (between d here) [
        | inl old ↦ inl (since_now a t d le old)
        | inr new ↦ inr new
      ]
    ]
  ];
  keeps = λ t d le left. second.keeps t d (omega (arith, le, first.later)) (first.keeps t d le left);
}

abbrev Same : List ℕ → List ℕ → Type 0
Same d c = d ≡ c

pub no_run : (step : List ℕ → List ℕ → Type 0) (log : FileLog) → ((c : List ℕ) → step c c) → Runs step log log
no_run step log still = record {
  honest = λ is. is;
  lost = refl;
  images = λ c now. (c, now, still c);
  grows = λ c now. now;
  time = none_more log;
}

pub runs_then : (step : List ℕ → List ℕ → Type 0) (a b c : FileLog)
    → ((x y z : List ℕ) → step x y → step y z → step x z) → Runs step a b → Runs step b c → Runs step a c
runs_then step a b c on first second = record {
  honest = λ is. first.honest (second.honest is);
  lost = second.lost ∙ first.lost;
  images = λ z now.
      let mid = second.images z now in
      let old = first.images mid.0 mid.1 in
      (old.0, old.1, on old.0 mid.0 z old.2 mid.2);
  grows = λ z was. second.grows z (first.grows z was);
  time = more_then a b c first.time second.time (λ d mid. inr (second.grows d mid));
}

pub runs_wider : (step wide : List ℕ → List ℕ → Type 0) (a b : FileLog)
    → ((x y : List ℕ) → step x y → wide x y) → Runs step a b → Runs wide a b
runs_wider step wide a b within run = record {
  honest = run.honest;
  lost = run.lost;
  images = λ z now. let old = run.images z now in (old.0, old.1, within old.0 z old.2);
  grows = run.grows;
  time = run.time;
}

pub no_reads : (log : FileLog) → Reads log log
no_reads log = record { runs = no_run Same log (λ c. refl); bytes = refl }

pub reads_then : (a b c : FileLog) → Reads a b → Reads b c → Reads a c
reads_then a b c first second = record {
  runs = runs_then Same a b c (λ x y z p q. p ∙ q) first.runs second.runs;
  bytes = second.bytes ∙ first.bytes;
}

pub reads_none : (log : FileLog) (at room : ℕ) → Reads log (noted (Read at room None) log)
reads_none log at room = record {
  runs = record {
    honest = λ is. is;
    lost = refl;
    images = λ c now. (c, now, refl);
    grows = λ c now. now;
    time = one_more (Read at room None) log;
  };
  bytes = refl;
}

pub reads_some : (log : FileLog) (at room : ℕ) (got : List ℕ) → Reads log (noted (Read at room (Some got)) log)
reads_some log at room got = record {
  runs = record {
    honest = λ is. (and_parts _ _ is).0;
    lost = refl;
    images = λ c now. (c, now, refl);
    grows = λ c now. now;
    time = one_more (Read at room (Some got)) log;
  };
  bytes = refl;
}

pub length_none : (log : FileLog) → Reads log (noted (Length None) log)
length_none log = record {
  runs = record {
    honest = λ is. is;
    lost = refl;
    images = λ c now. (c, now, refl);
    grows = λ c now. now;
    time = one_more (Length None) log;
  };
  bytes = refl;
}

pub length_some : (log : FileLog) (len : ℕ) → Reads log (noted (Length (Some len)) log)
length_some log len = record {
  runs = record {
    honest = λ is. (and_parts _ _ is).0;
    lost = refl;
    images = λ c now. (c, now, refl);
    grows = λ c now. now;
    time = one_more (Length (Some len)) log;
  };
  bytes = refl;
}

-- a write within the range of another
pub torn_within : (at n from m : ℕ) (before after : List ℕ) → at ≤ from → from + m ≤ at + n → Torn from m before after
    → Torn at n before after
torn_within at n from m before after low high torn =
    let gap = at + n - (from + m) in
    let end : from + m + gap ≡ at + n = omega arith in
    let here : min at (length before) ≤ min from (length before) = omega arith in
    record {
      front = sym (take-take (min at (length before)) (min from (length before)) after here)
          ∙ ap (take (min at (length before))) torn.front
          ∙ take-take (min at (length before)) from before (omega arith)
          ∙ take_few at before;
      back = sym (ap (λ k. drop k after) end) ∙ sym (drop-drop gap (from + m) after)
          ∙ ap (drop gap) torn.back ∙ drop-drop gap (from + m) before ∙ ap (λ k. drop k before) end;
      no_shorter = torn.no_shorter;
      no_longer = omega (arith, torn.no_longer);
    }
  where
    take_few : (k : ℕ) (xs : List ℕ) → take (min k (length xs)) xs ≡ take k xs
    take_few k xs = Rattle.std.proofs.lemmas.List.take_min k xs

-- a write of a range after another of the same
pub torn_then : (at n : ℕ) (a b c : List ℕ) → Torn at n a b → Torn at n b c → Torn at n a c
torn_then at n a b c first second =
    let here : min at (length a) ≤ min at (length b) = omega (arith, first.no_shorter) in
    record {
      front = sym (take-take (min at (length a)) (min at (length b)) c here)
          ∙ ap (take (min at (length a))) second.front
          ∙ take-take (min at (length a)) at b (omega arith) ∙ first.front;
      back = second.back ∙ first.back;
      no_shorter = omega (arith, first.no_shorter, second.no_shorter);
      no_longer = omega (arith, first.no_longer, second.no_longer, first.no_shorter);
    }

-- a write
pub writes : (log : FileLog) (at : ℕ) (put : List ℕ) (answer : Option ℕ)
    → Runs (Torn at (length put)) log (noted (Write at put answer) log)
writes log at put None = record {
  honest = λ is. is;
  lost = refl;
  images = λ c now. elim now [
    | inl left ↦ (left.0, inl left.1, left.2)
    | inr gone ↦ (c, inr gone, unwritten_torn at (length put) c)
  ];
  grows = λ c now. elim now [
    | inl left ↦ inl (c, left, unwritten_torn at (length put) c)
    | inr gone ↦ inr gone
  ];
  time = one_more (Write at put None) log;
}
writes log at put (Some count) = record {
  honest = λ is. is;
  lost = refl;
  images = λ c now. elim now [
    | inl left ↦ (left.0, inl left.1, left.2)
    | inr gone ↦ (c, inr gone, unwritten_torn at (length put) c)
  ];
  grows = λ c now. elim now [
    | inl left ↦ inl (c, left, unwritten_torn at (length put) c)
    | inr gone ↦ inr gone
  ];
  time = one_more (Write at put (Some count)) log;
}

-- a cut, of a file that is as long
pub cuts : (log : FileLog) (len : ℕ) (done : Bool) → nat_le len (length (state_of log).bytes) ≡ true
    → Runs (CutShort len) log (noted (Resize len done) log)
cuts log len done long = record {
  honest = λ is. is;
  lost = refl;
  images = λ c now. elim now [
    | inl left ↦ (left.0, inl left.1, subst (λ b. Resizes b len left.0 c) long left.2)
    | inr gone ↦ (c, inr gone, uncut len c)
  ];
  grows = λ c now. elim now [
    | inl left ↦ inl (c, left, resizes_still (nat_le len (length (state_of log).bytes)) len c)
    | inr gone ↦ inr gone
  ];
  time = one_more (Resize len done) log;
}

-- zeros behind the end, of a file that is shorter
pub lengthens : (log : FileLog) (len : ℕ) (done : Bool) → nat_le len (length (state_of log).bytes) ≡ false
    → Runs (Torn len 0) log (noted (Resize len done) log)
lengthens log len done short = record {
  honest = λ is. is;
  lost = refl;
  images = λ c now. elim now [
    | inl left ↦ (left.0, inl left.1, subst (λ b. Resizes b len left.0 c) short left.2)
    | inr gone ↦ (c, inr gone, unwritten_torn len 0 c)
  ];
  grows = λ c now. elim now [
    | inl left ↦ inl (c, left, resizes_still (nat_le len (length (state_of log).bytes)) len c)
    | inr gone ↦ inr gone
  ];
  time = one_more (Resize len done) log;
}

-- the length was asked for, and none was set
pub asked_runs : (step : List ℕ → List ℕ → Type 0) (log now : FileLog) → ((c : List ℕ) → step c c) → Reads log now
    → Runs step log now
asked_runs step log now still asked =
    runs_wider Same step log now (λ x y is. subst (step x) is (still x)) asked.runs

cut_then : (len : ℕ) (a b c : List ℕ) → CutShort len a b → CutShort len b c → CutShort len a c
cut_then len a b c first second =
    let kept : ℕ = min first.0 second.0 in (
      kept,
      omega (arith, first.1, second.1),
      second.2 ∙ ap (take second.0) first.2 ∙ take_both second.0 first.0 a,
    )
  where
    take_both : (m n : ℕ) (xs : List ℕ) → take m (take n xs) ≡ take (min n m) xs
    take_both m n xs = elim (Rattle.std.proofs.lemmas.Bool.cases_lt n m) [
      | inl less ↦
          let few : length (take n xs) ≤ m = omega (arith, length-take n xs) in
          let same : min n m ≡ n = omega arith in
          take_all m (take n xs) few ∙ ap (λ k. take k xs) (sym same)
      | inr most ↦
          let same : min n m ≡ m = omega arith in
          take-take m n xs most ∙ ap (λ k. take k xs) (sym same)
    ]

-- a file's length is asked for, and then it is cut
pub asked_cut : (log mid now : FileLog) (len have : ℕ) (done : Bool) → mid ≡ noted (Length (Some have)) log
    → now ≡ noted (Resize len done) mid → len < have → IsTrue (state_of now).honest → Runs (CutShort len) log now
asked_cut log mid now len have done first second past honest =
    let whole : now ≡ noted (Resize len done) (noted (Length (Some have)) log) = second ∙ ap (noted (Resize len done)) first in
    let is = subst (λ (l : FileLog). IsTrue (state_of l).honest) whole honest in
    let told : have ≡ length (state_of log).bytes = eqb-true have (length (state_of log).bytes) (and_parts (state_of log).honest (have == length (state_of log).bytes) is).1 in
    let long = le-leb len (length (state_of log).bytes) (omega arith) in
    subst (λ l. Runs (CutShort len) log l) (sym whole)
    (runs_then (CutShort len) log (noted (Length (Some have)) log) (noted (Resize len done) (noted (Length (Some have)) log)) (cut_then len)
    (asked_runs (CutShort len) log (noted (Length (Some have)) log) (uncut len) (length_some log have))
    (cuts (noted (Length (Some have)) log) len done long))

-- or lengthened
pub asked_lengthen : (log mid now : FileLog) (len have : ℕ) (done : Bool) → mid ≡ noted (Length (Some have)) log
    → now ≡ noted (Resize len done) mid → have < len → IsTrue (state_of now).honest → Runs (Torn len 0) log now
asked_lengthen log mid now len have done first second short honest =
    let whole : now ≡ noted (Resize len done) (noted (Length (Some have)) log) = second ∙ ap (noted (Resize len done)) first in
    let is = subst (λ (l : FileLog). IsTrue (state_of l).honest) whole honest in
    let told : have ≡ length (state_of log).bytes = eqb-true have (length (state_of log).bytes) (and_parts (state_of log).honest (have == length (state_of log).bytes) is).1 in
    let less = lt-leb len (length (state_of log).bytes) (omega arith) in
    subst (λ l. Runs (Torn len 0) log l) (sym whole)
    (runs_then (Torn len 0) log (noted (Length (Some have)) log) (noted (Resize len done) (noted (Length (Some have)) log)) (torn_then len 0)
    (asked_runs (Torn len 0) log (noted (Length (Some have)) log) (unwritten_torn len 0) (length_some log have))
    (lengthens (noted (Length (Some have)) log) len done less))

-- a sync adds no image
settled_image : (done lost : Bool) (bytes : List ℕ) (images : List ℕ → Type 0) (c : List ℕ) → images bytes
    → SafeAfter done lost bytes images c → images c
settled_image true false bytes images c told now = subst images (sym now) told
settled_image true true bytes images c told now = now
settled_image false lost bytes images c told now = now

pub settles_file : (log : FileLog) (done : Bool) → Settles log (noted (Sync done) log)
settles_file log done = record {
  honest = refl;
  bytes = refl;
  images = λ c now. elim now [
    | inl left ↦ inl (settled_image done (state_of log).lost (state_of log).bytes (LeftAll (first_state log) (IsFirst log) log.events) c
        (told_left (first_state log) (IsFirst log) log.events (inl refl)) left)
    | inr gone ↦ inr gone
  ];
  time = one_more (Sync done) log;
}

pub settles_folder : (log : FileLog) (done : Bool) → Settles log (noted (SyncFolder done) log)
settles_folder log done = record {
  honest = refl;
  bytes = refl;
  images = λ c now. elim now [
    | inl left ↦ inl left
    | inr gone ↦ inr ((and_parts _ _ gone.0).0, gone.1)
  ];
  time = one_more (SyncFolder done) log;
}

pub settles_then : (a b c : FileLog) → Settles a b → Settles b c → Settles a c
settles_then a b c first second = record {
  honest = second.honest ∙ first.honest;
  bytes = second.bytes ∙ first.bytes;
  images = λ d now. first.images d (second.images d now);
  time = more_then a b c first.time second.time (λ d mid. inl (first.images d mid));
}

-- the same of a disk, which tells where the answers are honest
pub disk_runs : (step : List ℕ → List ℕ → Type 0) (was is : Bool) (before now : FileLog) → is ≡ was
    → (IsTrue is → IsTrue (state_of now).honest) → (IsTrue (state_of now).honest → Runs step before now)
    → Follows step (LeavesIf was before) (LeavesIf is now)
disk_runs step was is before now same law runs c left =
    let old = (runs (law left.0)).images c left.1 in
    (old.0, (subst IsTrue same left.0, old.1), old.2)

pub disk_still : (step : List ℕ → List ℕ → Type 0) (honest : Bool) (log : FileLog) → ((c : List ℕ) → step c c)
    → Follows step (LeavesIf honest log) (LeavesIf honest log)
disk_still step honest log still c left = (c, left, still c)

pub disk_safe : (honest : Bool) (before now : FileLog) → Safe before now → (state_of before).lost ≡ false
    → OnlyTold (told_if honest now) (LeavesIf honest now)
disk_safe true before now safe lost c left = ap (λ (l : List ℕ). Some l) (sym (safe.only lost c left.1))
disk_safe false before now safe lost c left = never_true left.0

-- an answer that was passed on
pub passed_on : {E D : Type 0} (P Q : Type 0) (done : Result (Unit {0}) E) (answer : Result (Unit {0}) D)
    → IfOk answer (λ value. done ≡ Ok value) → OnOk done P → (P → Q) → OnOk answer Q
passed_on P Q done (Ok value) is known on = on (subst (λ d. OnOk d P) is known)
passed_on P Q done (Err error) is known on = tt
