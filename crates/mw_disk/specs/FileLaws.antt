-- What a file of the system gives, a crash may leave.
use Rattle.std.specs.Prelude.{◌≡◌, ◌≤◌, ℕ, suc, ◌+◌, ◌-◌, ◌++◌, min, List, [], ◌∷◌, length, take, drop, replicate, Some, None, Bool, true, false, nat_le}
use Rattle.std.proofs.Common.{◌<◌, inl, inr, refl, sym, ap, subst, ◌∙◌, arith, length-append}
use Rattle.std.proofs.lemmas.List.{append-nil, take_all, drop_all, drop-drop, length-replicate, length-take, take-append-le}
use Rattle.std.proofs.lemmas.Bool.{leb-true, leb-false}
use Rattle.mw_disk.specs.declared.file_event.FileEvent.TheVariants.{Length, Read, Write, Resize, Sync, SyncFolder}
use Rattle.mw_disk.specs.Crash.{Torn}
use Rattle.mw_disk.specs.Laws.{unwritten_torn, written_torn, uncut}
use Rattle.mw_disk.specs.Untold.{never_true, none_told}
use Rattle.mw_disk.specs.FileLogs.{Event, FileLog, FileState, after, after_all, first_state, state_of, laid, resized, Resizes, SafeAfter, LeftAfter, LeftAll, LeavesBy, IsFirst, Leaves, LeftSinceBy, LeftSince, moment_of}
use Rattle.mw_disk.specs.FileRuns.{told_if, LeavesIf, LeftIf, moment_if}

-- a longer range
pub torn_longer : (at few many : ℕ) (before after : List ℕ) → few ≤ many → Torn at few before after
    → Torn at many before after
torn_longer at few many before after within torn =
    let gap = many - few in
    let end : at + few + gap ≡ at + many = omega arith in
    record {
      front = torn.front;
      back = sym (ap (λ n. drop n after) end) ∙ sym (drop-drop gap (at + few) after)
          ∙ ap (drop gap) torn.back ∙ drop-drop gap (at + few) before
          ∙ ap (λ n. drop n before) end;
      no_shorter = torn.no_shorter;
      no_longer = omega (arith, torn.no_longer);
    }

laid_torn : (at n : ℕ) (put bytes : List ℕ) → length put ≤ n → Torn at n bytes (laid at put bytes)
laid_torn at n [] bytes few = unwritten_torn at n bytes
laid_torn at n (byte ∷ put) bytes few =
    torn_longer at (length (byte ∷ put)) n bytes (laid at (byte ∷ put) bytes) few
    (written_torn at (byte ∷ put) bytes)

abbrev zeros : ℕ → List ℕ
zeros n = replicate n 0

length-zeros : (n : ℕ) → length (zeros n) ≡ n
length-zeros n = let zero_byte : ℕ = 0 in length-replicate n zero_byte

-- a file that was as long, at a shorter length
shorter : (len : ℕ) (bytes : List ℕ) → len ≤ length bytes → resized len bytes ≡ take len bytes
shorter len bytes within =
    let none : len - length bytes ≡ 0 = omega arith in
    ap (λ n. take len bytes ++ zeros n) none ∙ append-nil (take len bytes)

longer_torn : (len : ℕ) (bytes : List ℕ) → length bytes < len → Torn len 0 bytes (resized len bytes)
longer_torn len bytes past =
    let whole : take len bytes ≡ bytes = take_all len bytes (omega arith) in
    let is : resized len bytes ≡ bytes ++ zeros (len - length bytes) =
    ap (λ l. l ++ zeros (len - length bytes)) whole in
    let size : length (resized len bytes) ≡ len =
    omega (
      arith,
      ap length is,
      length-append bytes (zeros (len - length bytes)),
      length-zeros (len - length bytes),
    ) in
    record {
      front =
          let here : min len (length bytes) ≡ length bytes = omega arith in
          ap (λ n. take n (resized len bytes)) here ∙ ap (take (length bytes)) is
          ∙ take-append-le (length bytes) bytes (zeros (len - length bytes)) (omega arith)
          ∙ take_all (length bytes) bytes (omega arith) ∙ sym whole;
      back = drop_all (len + 0) (resized len bytes) (omega (arith, size))
          ∙ sym (drop_all (len + 0) bytes (omega arith));
      no_shorter = omega (arith, size);
      no_longer = omega (arith, size);
    }

resizes_by : (longer : Bool) (len : ℕ) (bytes : List ℕ) → nat_le len (length bytes) ≡ longer
    → Resizes longer len bytes (resized len bytes)
resizes_by true len bytes is = (len, omega arith, shorter len bytes (leb-true len (length bytes) is))
resizes_by false len bytes is = longer_torn len bytes (leb-false len (length bytes) is)

pub resizes_still : (longer : Bool) (len : ℕ) (bytes : List ℕ) → Resizes longer len bytes bytes
resizes_still true len bytes = uncut len bytes
resizes_still false len bytes = unwritten_torn len 0 bytes

safe_still : (done lost : Bool) (bytes : List ℕ) (images : List ℕ → Type 0) → images bytes
    → SafeAfter done lost bytes images bytes
safe_still true false bytes images now = refl
safe_still true true bytes images now = now
safe_still false lost bytes images now = now

took_few : (n : ℕ) (put : List ℕ) → length (take n put) ≤ length put
took_few n put = omega (arith, length-take n put)

told_after : (event : Event) (s : FileState) (images : List ℕ → Type 0) → images s.bytes
    → LeftAfter event s images (after event s).bytes
told_after (Length None) s images now = now
told_after (Length (Some len)) s images now = now
told_after (Read at room None) s images now = now
told_after (Read at room (Some got)) s images now = now
told_after (Write at put None) s images now =
    (s.bytes, now, unwritten_torn at (length put) s.bytes)
told_after (Write at put (Some count)) s images now =
    (s.bytes, now, laid_torn at (length put) (take count put) s.bytes (took_few count put))
told_after (Resize len true) s images now =
    (s.bytes, now, resizes_by (nat_le len (length s.bytes)) len s.bytes refl)
told_after (Resize len false) s images now =
    (s.bytes, now, resizes_still (nat_le len (length s.bytes)) len s.bytes)
told_after (Sync done) s images now = safe_still done s.lost s.bytes images now
told_after (SyncFolder done) s images now = now

pub told_left : (s : FileState) (images : List ℕ → Type 0) (events : List Event) → images s.bytes
    → LeftAll s images events (after_all s events).bytes
told_left s images [] now = now
told_left s images (event ∷ earlier) now =
    told_after event (after_all s earlier) (LeftAll s images earlier)
    (told_left s images earlier now)

since_now_by : (s : FileState) (images : List ℕ → Type 0) (events : List Event) (t : ℕ)
    (c : List ℕ) → t ≤ length events → LeavesBy s images events c → LeftSinceBy s images events t c
since_now_by s images [] t c le now = (le, now)
since_now_by s images (event ∷ earlier) t c le now = inl (le, now)

-- a crash may leave now what it may leave since
pub since_now : (log : FileLog) (t : ℕ) (c : List ℕ) → t ≤ moment_of log → Leaves log c
    → LeftSince log t c
since_now log t c le now = since_now_by (first_state log) (IsFirst log) log.events t c le now

since_before_by : (s : FileState) (images : List ℕ → Type 0) (events : List Event) (t : ℕ)
    (c : List ℕ) → LeftSinceBy s images events t c → t ≤ length events
since_before_by s images [] t c left = left.0
since_before_by s images (event ∷ earlier) t c left = elim left [
  | inl now ↦ now.0
  | inr past ↦ omega (arith, since_before_by s images earlier t c past)
]

only_now_by : (s : FileState) (images : List ℕ → Type 0) (events : List Event) (c : List ℕ)
    → LeftSinceBy s images events (length events) c → LeavesBy s images events c
only_now_by s images [] c left = left.1
only_now_by s images (event ∷ earlier) c left = elim left [
  | inl now ↦ now.1
  | inr past ↦
      absurd (omega (arith, since_before_by s images earlier (suc (length earlier)) c past))
]

pub since_only : (log : FileLog) (c : List ℕ) → LeftSince log (moment_of log) c → Leaves log c
since_only log c left = only_now_by (first_state log) (IsFirst log) log.events c left

pub told_leaves : (log : FileLog) → Leaves log (state_of log).bytes
told_leaves log = inl (told_left (first_state log) (IsFirst log) log.events (inl refl))

-- of a disk that tells where the answers are honest
pub file_told : (honest : Bool) (log : FileLog) (c : List ℕ) → told_if honest log ≡ Some c
    → LeavesIf honest log c
file_told true log c is =
    let same : (state_of log).bytes ≡ c = cc in (refl, subst (Leaves log) same (told_leaves log))
file_told false log c is = absurd (none_told c is)

pub file_counts : (honest : Bool) (log : FileLog) (t : ℕ) (c : List ℕ) → t ≤ moment_if honest log
    → LeavesIf honest log c → LeftIf honest log t c
file_counts true log t c le now = (refl, since_now log t c le now.1)
file_counts false log t c le now = never_true now.0

pub file_only : (honest : Bool) (log : FileLog) (c : List ℕ)
    → LeftIf honest log (moment_if honest log) c → LeavesIf honest log c
file_only true log c left = (refl, since_only log c left.1)
file_only false log c left = never_true left.0
