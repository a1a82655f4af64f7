-- What the workers of a room did: each link was served by one session, and all calls have one history.
use Rattle.std.specs.Prelude.{◌≡◌, ◌⊎◌, ◌<◌, ◌≤◌, ◌+◌, ◌*◌, ℕ, Bool, true, false, List, [], ◌∷◌, ◌++◌, length, Option, None, Some, is_some}
use Rattle.atomic_table.specs.Seated.{TableId}
use Rattle.mw_lock.specs.declared.view.Entry.{Entry}
use Rattle.mw_lock.specs.History.{entry, events, IsLegal}
use Rattle.mw_lock.specs.Passes.{numbers, IsWhole}
use Rattle.mw_link.specs.declared.link.Heard.{Heard}
use Rattle.mw_keep.specs.declared.call.Call.{Call}
use Rattle.mw_keep.specs.declared.call.Call.TheVariants.{Commit}
use Rattle.mw_keep.specs.declared.reply.Reply.{Reply}
use Rattle.mw_keep.specs.declared.reply.StopCause.{StopCause}
use Rattle.mw_keep.specs.declared.kept.KeptRoom.{KeptRoom}
use Rattle.mw_keep.specs.declared.kept.Origin.{Origin}
use Rattle.mw_keep.specs.Keeps.{origin_of}
use Rattle.mw_session.specs.declared.served.Served.{Served}
use Rattle.mw_session.specs.Desks.{link_weight, AreAll}
use Rattle.mw_session.specs.Passes.{Makes, RoomPass}
use Rattle.mw_session.specs.Sessions.{IsSession}
use Rattle.mw_session.specs.Stops.{lacks_by, stop_among, stop_in}

-- how many there are in these lists together
abbrev pub count_all : {A : Type 0} → List (List A) → ℕ
count_all [] = 0
count_all (x ∷ xs) = length x + count_all xs

-- what the calls on a room leave as it is
abbrev pub base_of : {D : Type 0} → KeptRoom D → Option (Origin D)
base_of room = Some (origin_of room)

-- all links that there were, or as many as were asked for, were accepted: where no call of the gate
-- failed, memory was there, and no call was answered that the room has stopped
abbrev pub IsFull : {T : Type 0} → Option ℕ → Bool → Bool → Option StopCause → ℕ → Option (List T)
    → Bool → Type 0
IsFull accept gate_failed memory stopped accepted left ended =
    gate_failed ≡ false → memory ≡ false → is_some stopped ≡ false
    → AreAll accept accepted left ended

-- 1 or 0
abbrev pub one_if : Bool → ℕ
one_if true = 1
one_if false = 0

-- why a worker stops: no link is left for it, memory ran out, or the room has stopped
abbrev pub IsDone : Bool → Bool → Option StopCause → Type 0
IsDone over memory stopped = (over ≡ true) ⊎ ((memory ≡ true) ⊎ (is_some stopped ≡ true))

module _ {T : Type 0} (heard_by : T → List Heard) (sent_by : T → List (List ℕ)) (faults : T → ℕ)
    (opened : T → ℕ) (is_shut : T → Bool) where
  -- the calls of a link that was served are those of one session over it, and it was shut
  abbrev pub IsEntry : Served T → List (Call × Reply) → Type 0
  IsEntry e own =
      IsSession (opened e.line) own (heard_by e.line) (sent_by e.line) (0 < faults e.line) e.session
      e.ended
      × (is_shut e.line ≡ true)

  -- the calls of one link after the other
  abbrev pub AreEntries : List (Served T) → List (Call × Reply) → Type 0
  AreEntries [] calls = calls ≡ []
  AreEntries (e ∷ es) calls =
      (own : List (Call × Reply)) × (rest : List (Call × Reply)) × (calls ≡ own ++ rest)
      × IsEntry e own × AreEntries es rest

  -- a link that was served is one more of them; why the room has stopped, if a call was so answered
  abbrev pub ServesOne : {B : Type 0} → RoomPass B → Served T → Option StopCause → RoomPass B
      → Type 0
  ServesOne v e stopped w =
      (own : List (Call × Reply)) × Makes v own w × IsEntry e own × (stop_in own ≡ stopped)

  -- what a worker has: its pass has made the calls of its links, which its share counts
  pub record IsReport {B : Type 0} (lock : TableId) (pass : RoomPass B) (parts amount : ℕ)
      (served : List (Served T)) (over : Bool)
      (stopped : Option StopCause) : Type 0 where
    pub of_lock : pass.lock ≡ lock
    pub alone : pass.ended ≡ []
    pub part : parts ≡ 1
    pub counted : amount ≡ link_weight * length served + one_if over
    pub entries : AreEntries served pass.own
    pub stops : stop_in pass.own ≡ stopped

  -- the passes that met, the last first, have made the calls of these lists
  abbrev pub Accounts : List (List (Served T)) → List (ℕ × List (Call × Reply)) → Type 0
  Accounts served [] = served ≡ []
  Accounts served (x ∷ xs) =
      (before : List (List (Served T))) × (last : List (Served T)) × (served ≡ before ++ last ∷ [])
      × AreEntries last x.1 × Accounts before xs

  -- so far some workers have met in the first pass, which has made no call; so many of them know
  -- that no link is left, all of them where none lacked memory and the room hasn't stopped
  pub record HasMet {B : Type 0} (lock : TableId) (base : B) (pass : RoomPass B) (amount : ℕ)
      (served : List (List (Served T))) (lacking : Bool)
      (stopped : Option StopCause) : Type 0 where
    pub of_lock : pass.lock ≡ lock
    pub of_base : pass.base ≡ base
    pub none : pass.own ≡ []
    pub accounts : Accounts served pass.ended
    pub stops : stop_among pass.ended ≡ stopped
    pub know : ℕ
    pub counted : amount ≡ link_weight * count_all served + know
    pub few : know ≤ length served
    pub all_know : lacking ≡ false → is_some stopped ≡ false → know ≡ length served

  -- all calls have one history, whose events are the calls of the links and one Commit that comes
  -- last; why the room has stopped, if a call was so answered; where memory was there, that Commit
  -- was done, or the room has stopped
  pub record OneHistory {B : Type 0} (replies : B → List (Call × Reply) → Call → Reply → Type 0)
      (base : B) (log : List (Call × Reply)) (served : List (List (Served T))) (memory : Bool)
      (stopped : Option StopCause)
      : Type 0 where
    pub pass : RoomPass B
    pub reply : Reply
    pub before : List (Entry Call Reply)
    pub all : events pass.seen ≡ log
    pub of_base : pass.base ≡ base
    pub legal : IsLegal (replies base) pass.seen
    pub last : pass.seen ≡ before ++ entry pass.number (Commit, reply) ∷ []
    pub whole : IsWhole pass
    pub own : pass.own ≡ (Commit, reply) ∷ []
    pub accounts : Accounts served pass.ended
    pub stops : stop_among (numbers pass) ≡ stopped
    pub safe : memory ≡ false → lacks_by reply ≡ false

  -- the room stands for one history of the links that were served, and has its base; or nothing was
  -- done for want of memory, and the room is as before
  abbrev pub IsServed : {B V : Type 0} → (B → List (Call × Reply) → Call → Reply → Type 0)
      → (V → B) → (V → List (Call × Reply) → Type 0) → V → V → List (List (Served T)) → Bool
      → Option StopCause → Type 0
  IsServed replies base_of stands old new served memory stopped =
      ((log : List (Call × Reply)) × stands new log × (base_of new ≡ base_of old)
      × OneHistory replies (base_of old) log served memory stopped)
      ⊎ ((new ≡ old) × (served ≡ []) × (memory ≡ true) × (stopped ≡ None))

-- the pass has made one call more, a Commit that was answered so, which is the last of the history
-- that it has seen
abbrev pub Commits : {B : Type 0} → (B → List (Call × Reply) → Call → Reply → Type 0) → RoomPass B
    → Reply → RoomPass B → Type 0
Commits replies v reply w =
    (before : List (Entry Call Reply))
    × (w ≡ record v {
      seen = before ++ entry v.number (Commit, reply) ∷ [];
      own = v.own ++ (Commit, reply) ∷ [];
    })
    × IsLegal (replies w.base) w.seen
