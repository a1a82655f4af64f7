-- The lives that a kept room has had, told as calls with their replies.
use Rattle.std.specs.Prelude.{◌≡◌, ◌<◌, ◌≤◌, ℕ, List, [], ◌∷◌, Bool, true, false, Option, Some, None, IsTrue, is_some}
use Rattle.std.specs.List.{list_any}
use Rattle.mw_model.specs.Seed.{Seed}
use Rattle.mw_protocol.specs.Lives.{Life, Luck, fine, lacking, faulty, life_after, new_life, reply_to}
use Rattle.mw_protocol.specs.Records.{Record}
use Rattle.mw_protocol.specs.Rooms.{replayed}
use Rattle.mw_room.specs.Represents.{Represents}
use Rattle.mw_keep.specs.Holds.{AreRecords, IsSafe}
use Rattle.mw_journal.specs.Journal.{disk_of}
use Rattle.mw_keep.specs.Keeps.{Keeps, kept_disk, origin_of}
use Rattle.mw_keep.specs.Views.{call_view, reply_view}
use Rattle.mw_keep.specs.declared.call.Call.{Call}
use Rattle.mw_keep.specs.declared.kept.KeptRoom.{KeptRoom}
use Rattle.mw_keep.specs.declared.kept.Origin.{Origin}
use Rattle.mw_keep.specs.declared.reply.Reply.{Reply}

-- a life of these records began so, the journal's gate at a place
pub record Began {D : Type 0} (may_leave : D → List ℕ → Type 0) (digest : List ℕ) (seed : Seed)
    (journal : List Record) (place : ℕ) (origin : Origin D)
    : Type 0 where
  pub room : Represents origin.room.value (replayed seed journal)
  pub records : AreRecords journal
  pub journal_holds : IsSafe may_leave digest journal place origin.journal.value

-- the life after calls, each with its luck
abbrev pub lived : Life → List (Call × Reply) → List Luck → Life
lived life [] lucks = life
lived life (c ∷ cs) [] = life
lived life (c ∷ cs) (l ∷ ls) = lived (life_after life (call_view c.0) l) cs ls

-- each was answered by the reply that is due to it, with this luck
abbrev pub Replied : Life → List (Call × Reply) → List Luck → Type 0
Replied life [] [] = Unit {0}
Replied life [] (l ∷ ls) = ⊥
Replied life (c ∷ cs) [] = ⊥
Replied life (c ∷ cs) (l ∷ ls) =
    (reply_view c.1 ≡ reply_to life (call_view c.0) l)
    × Replied (life_after life (call_view c.0) l) cs ls

abbrev pub is_faulty : Luck → Bool
is_faulty fine = false
is_faulty lacking = false
is_faulty faulty = true

-- the disk with which its life began
abbrev pub first_disk : {D : Type 0} → KeptRoom D → D
first_disk k = disk_of (origin_of k).journal.value

-- with some luck the calls were answered so, and the room stands for the life that they led to; a
-- fault of the disk in one of them is shown by its count, and a disk that told its bytes tells them
pub record Lived {D : Type 0} (may_leave : D → List ℕ → Type 0) (told : D → Option (List ℕ))
    (faults : D → ℕ) (digest : List ℕ) (life : Life) (k : KeptRoom D)
    (past : List (Call × Reply)) : Type 0 where
  pub lucks : List Luck
  pub replied : Replied life past lucks
  pub keeps : Keeps may_leave digest (lived life past lucks) k
  pub later : faults (first_disk k) ≤ faults (kept_disk k)
  pub fault : IsTrue (list_any is_faulty lucks) → faults (first_disk k) < faults (kept_disk k)
  pub tells : is_some (told (kept_disk k)) ≡ is_some (told (first_disk k))

abbrev pub HasLived : {D : Type 0} → (D → List ℕ → Type 0) → (D → Option (List ℕ)) → (D → ℕ)
    → KeptRoom D → List (Call × Reply) → Type 0
HasLived may_leave told faults k past =
    (digest : List ℕ) (seed : Seed) (journal : List Record) (place : ℕ)
    → Began may_leave digest seed journal place (origin_of k)
    → Lived may_leave told faults digest (new_life seed journal place) k past

-- with some luck the calls were answered so, and with some luck this reply is due to the next one
abbrev pub MayReplyFrom : {D : Type 0} → (D → List ℕ → Type 0) → Origin D → List (Call × Reply)
    → Call → Reply → Type 0
MayReplyFrom may_leave origin past call reply =
    (digest : List ℕ) (seed : Seed) (journal : List Record) (place : ℕ)
    → Began may_leave digest seed journal place origin
    → (lucks : List Luck) × (luck : Luck) × Replied (new_life seed journal place) past lucks
    × (reply_view reply
    ≡ reply_to (lived (new_life seed journal place) past lucks) (call_view call) luck)

abbrev pub MayReply : {D : Type 0} → (D → List ℕ → Type 0) → Option (Origin D) → List (Call × Reply)
    → Call → Reply → Type 0
MayReply may_leave None past call reply = ⊥
MayReply may_leave (Some origin) past call reply = MayReplyFrom may_leave origin past call reply
