-- What a record of the calls of a file of the system says of the file, where each of its answers is
-- that of an honest file.
use Rattle.std.specs.Prelude.{◌≡◌, ◌⊎◌, ◌≤◌, ℕ, suc, ◌-◌, List, [], ◌∷◌, ◌++◌, length, take, drop, replicate, reverse, Some, None, Bool, true, false, not, ◌&&◌, ◌||◌, ◌==◌, nat_le, bytes_eq, if◌then◌else◌, Contains}
use Rattle.mw_disk.specs.declared.file_event.FileEvent.{FileEvent}
use Rattle.mw_disk.specs.declared.file_event.FileEvent.TheVariants.{Length, Read, Write, Resize, Sync, SyncFolder}
use Rattle.mw_disk.specs.Range.{written}
use Rattle.mw_disk.specs.Crash.{Torn, CutShort}

-- a call with its answer
abbrev pub Event : Type 0
Event = FileEvent (List ℕ)

-- what the file held when it was opened, what a crash might then leave of it besides, and whether
-- it was made then; its calls since, the newest first
pub record FileLog : Type 0 where
  pub found : List ℕ
  pub left : List (List ℕ)
  pub fresh : Bool
  pub events : List Event

-- the bytes that a read gives; whether the file's name isn't safe yet; whether a sync has failed, so
-- that none makes anything safe; whether each answer was honest
pub record FileState : Type 0 where
  pub bytes : List ℕ
  pub due : Bool
  pub lost : Bool
  pub honest : Bool

-- a file that was opened now, and holds these bytes, all of them safe from a crash
abbrev pub opened_log : List ℕ → Bool → FileLog
opened_log found fresh = record { found = found; left = []; fresh = fresh; events = [] }

-- the same after these calls, the first one first
abbrev pub judged_log : List ℕ → Bool → List Event → FileLog
judged_log found fresh events = record (opened_log found fresh) { events = reverse events }

-- a call more
abbrev pub noted : Event → FileLog → FileLog
noted event log = record log { events = event ∷ log.events }

-- the bytes after a write; one of no bytes changes nothing
abbrev pub laid : ℕ → List ℕ → List ℕ → List ℕ
laid at [] bytes = bytes
laid at (byte ∷ put) bytes = written at (byte ∷ put) bytes

-- the bytes at another length
abbrev pub resized : ℕ → List ℕ → List ℕ
resized len bytes = take len bytes ++ replicate (len - length bytes) 0

-- an honest read gives some of the bytes that stand at its place, and none only where none is asked
-- for or none stands there
abbrev pub is_read : List ℕ → ℕ → ℕ → List ℕ → Bool
is_read bytes at room got =
    bytes_eq got (take (length got) (drop at bytes))
    && (not (length got == 0) || (room == 0 || nat_le (length bytes) at))

-- what a call leaves; one that answered an error left the bytes as they were
abbrev pub after : Event → FileState → FileState
after (Length None) s = s
after (Length (Some len)) s = record s { honest = s.honest && (len == length s.bytes) }
after (Read at room None) s = s
after (Read at room (Some got)) s =
    record s { honest = s.honest && is_read s.bytes at room got }
after (Write at put None) s = s
after (Write at put (Some count)) s = record s { bytes = laid at (take count put) s.bytes }
after (Resize len done) s =
    record s { bytes = if done then resized len s.bytes else s.bytes }
after (Sync done) s = record s { lost = s.lost || not done }
after (SyncFolder done) s =
    record s { due = s.due && not (done && not s.lost); lost = s.lost || not done }

abbrev pub after_all : FileState → List Event → FileState
after_all s [] = s
after_all s (event ∷ earlier) = after event (after_all s earlier)

-- a file that was made is empty, and a crash might leave nothing else of it
abbrev pub is_found : FileLog → Bool
is_found log = not log.fresh || (length log.found == 0 && length log.left == 0)

abbrev pub first_state : FileLog → FileState
first_state log = record {
  bytes = log.found;
  due = log.fresh;
  lost = false;
  honest = is_found log;
}

abbrev pub state_of : FileLog → FileState
state_of log = after_all (first_state log) log.events

-- a change of the length that a crash cuts short: where the file was longer some length from there
-- on, and else any bytes past the old end
abbrev pub Resizes : Bool → ℕ → List ℕ → List ℕ → Type 0
Resizes true len before after = CutShort len before after
Resizes false len before after = Torn len 0 before after

-- what a sync leaves, by whether it was done and none has failed before
abbrev pub SafeAfter : Bool → Bool → List ℕ → (List ℕ → Type 0) → List ℕ → Type 0
SafeAfter true false bytes images c = c ≡ bytes
SafeAfter true true bytes images c = images c
SafeAfter false lost bytes images c = images c

-- what a crash may leave of the file after a call, whatever it answered
abbrev pub LeftAfter : Event → FileState → (List ℕ → Type 0) → List ℕ → Type 0
LeftAfter (Length answer) s images c = images c
LeftAfter (Read at room answer) s images c = images c
LeftAfter (Write at put answer) s images c =
    (d : List ℕ) × images d × Torn at (length put) d c
LeftAfter (Resize len done) s images c =
    (d : List ℕ) × images d × Resizes (nat_le len (length s.bytes)) len d c
LeftAfter (Sync done) s images c = SafeAfter done s.lost s.bytes images c
LeftAfter (SyncFolder done) s images c = images c

abbrev pub LeftAll : FileState → (List ℕ → Type 0) → List Event → List ℕ → Type 0
LeftAll s images [] c = images c
LeftAll s images (event ∷ earlier) c =
    LeftAfter event (after_all s earlier) (LeftAll s images earlier) c

-- what a crash might leave of the file when it was opened
abbrev pub IsFirst : FileLog → List ℕ → Type 0
IsFirst log c = (c ≡ log.found) ⊎ Contains log.left c

-- what a crash may leave by the file's name: where the name isn't safe yet, no file, which reads as
-- no bytes
abbrev pub LeavesBy : FileState → (List ℕ → Type 0) → List Event → List ℕ → Type 0
LeavesBy s images events c =
    LeftAll s images events c ⊎ (((after_all s events).due ≡ true) × (c ≡ []))

abbrev pub Leaves : FileLog → List ℕ → Type 0
Leaves log c = LeavesBy (first_state log) (IsFirst log) log.events c

-- how many calls there were
abbrev pub moment_of : FileLog → ℕ
moment_of log = length log.events

-- what a crash may have left at some moment from one on; a moment is a number of calls
abbrev pub LeftSinceBy : FileState → (List ℕ → Type 0) → List Event → ℕ → List ℕ → Type 0
LeftSinceBy s images [] t c = (t ≤ 0) × LeavesBy s images [] c
LeftSinceBy s images (event ∷ earlier) t c =
    ((t ≤ suc (length earlier)) × LeavesBy s images (event ∷ earlier) c)
    ⊎ LeftSinceBy s images earlier t c

abbrev pub LeftSince : FileLog → ℕ → List ℕ → Type 0
LeftSince log t c = LeftSinceBy (first_state log) (IsFirst log) log.events t c
