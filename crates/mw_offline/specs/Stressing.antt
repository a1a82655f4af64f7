-- What `stress` prints, and how it ends.
use Rattle.std.specs.Prelude.{◌≡◌, ℕ, zero, suc, ◌+◌, ◌++◌, List, [], ◌∷◌, Option, Some, None, ⊤}
use Rattle.std.specs.Io.KnownBytes.{Keeps, Appends}
use Rattle.mw_edges.specs.Causes.{PutsFront, Rose}
use Rattle.mw_model.specs.Seed.{Seed}
use Rattle.mw_protocol.specs.Lives.{Life, Call, happens, commits, takes, Reply, opens, done, messages, gone, overrun, stopped, memory, fine, reply_to, life_after, new_life}
use Rattle.mw_protocol.specs.Rooms.{opened, sent}
use Rattle.mw_stress.specs.Lines.{stress_lines}
use Rattle.mw_stress.specs.Made.{IsStressSeed, IsExhausted}
use Rattle.mw_stress.specs.Sent.{checking, connecting}
use Rattle.mw_stress.specs.declared.taken.Taken.{Taken}
use Rattle.mw_causes.specs.Ends.{Told, Ends}
use Rattle.mw_causes.specs.GenerateCauses.{generate_status, generate_line}
use Rattle.mw_causes.specs.declared.generate_cause.GenerateCause.{GenerateCause}
use Rattle.mw_causes.specs.declared.generate_cause.GenerateCause.TheVariants.{Tables, NotBeatable, NotFull, TooManyItems, Exhausted}
use Rattle.mw_causes.specs.declared.stop.Stop.{Stop}
use Rattle.mw_causes.specs.declared.stop.Stop.TheVariants.{Fault, Memory, Refused}
use Rattle.mw_words.specs.declared.command_line.StressWords.{StressWords}

-- ---- the calls on the room

-- the session of a slot is opened and connected, and takes its messages
abbrev pub entering : ℕ → List Call
entering slot =
    happens (opened 0) ∷ happens (sent slot (connecting slot)) ∷ takes slot ∷ []

-- the sessions of so many slots, in order
abbrev pub all_entering : ℕ → List Call
all_entering zero = []
all_entering (suc n) = all_entering n ++ entering (n + 1)

-- each of so many slots checks this location
abbrev pub all_checking : ℕ → ℕ → List Call
all_checking zero location = []
all_checking (suc n) location =
    all_checking n location ++ happens (sent (n + 1) (checking location)) ∷ []

-- they check so many locations
abbrev pub rounds : ℕ → ℕ → List Call
rounds many zero = []
rounds many (suc n) = rounds many n ++ all_checking many (n + 1)

-- each of so many sessions takes its messages
abbrev pub all_taking : ℕ → List Call
all_taking zero = []
all_taking (suc n) = all_taking n ++ takes (n + 1) ∷ []

-- all sessions enter, each slot checks each of the sixty spots, and all sessions take
abbrev pub all_calls : ℕ → List Call
all_calls many = all_entering many ++ (rounds many 60 ++ all_taking many)

-- ---- what is taken

-- the texts of a reply
abbrev pub texts_of : Reply → List (List ℕ)
texts_of (opens number) = []
texts_of done = []
texts_of (messages texts) = texts
texts_of gone = []
texts_of overrun = []
texts_of (stopped cause) = []
texts_of memory = []

-- the session that takes by a call, if one does
abbrev pub taker : Call → Option ℕ
taker (happens event) = None
taker commits = None
taker (takes number) = Some number

-- the texts that it takes
abbrev pub taken_by : Option ℕ → List (List ℕ) → List Taken
taken_by None texts = []
taken_by (Some session) texts = record { session = session; texts = texts } ∷ []

-- all that is taken by calls
abbrev pub all_taken : Life → List Call → List Taken
all_taken life [] = []
all_taken life (c ∷ cs) =
    taken_by (taker c) (texts_of (reply_to life c fine)) ++ all_taken (life_after life c fine) cs

-- ---- the text

-- the life of its room, which begins with a new journal
abbrev pub first_life : Seed → Life
first_life file = new_life file [] 40

-- the text of `stress`: its sessions make their calls, and each line tells what a slot's session
-- received
pub record StressText (asked : StressWords) (text : List ℕ) : Type 0 where
  pub stream : ℕ
  pub spheres : ℕ
  pub file : Seed
  pub made : IsStressSeed asked.players asked.seed stream spheres file
  pub is_text : text ≡ stress_lines asked.players asked.seed stream spheres
      (all_taken (first_life file) (all_calls asked.players))

-- why there is none: each try is stuck, or memory ran out; nothing else comes
abbrev pub HasStressCause : StressWords → Stop GenerateCause → Type 0
HasStressCause asked Fault = ⊥
HasStressCause asked Memory = ⊤
HasStressCause asked (Refused (Tables cause)) = ⊥
HasStressCause asked (Refused (NotBeatable slot)) = ⊥
HasStressCause asked (Refused (NotFull slot place)) = ⊥
HasStressCause asked (Refused (TooManyItems have room)) = ⊥
HasStressCause asked (Refused (Exhausted tries)) =
    (tries ≡ 100) × IsExhausted asked.players asked.seed

-- ---- ends

-- just its text was put
abbrev pub PutsStress : StressWords → Option (List ℕ) → Option (List ℕ) → Type 0
PutsStress asked old new = (text : List ℕ) × StressText asked text × Appends old new text

-- a front of its text was put
abbrev pub PutsFrontOfStress : StressWords → Option (List ℕ) → Option (List ℕ) → Type 0
PutsFrontOfStress asked old new = (text : List ℕ) × StressText asked text × PutsFront old new text

-- how `stress` ended with a status, with what the out sink held and how often it failed
abbrev pub StressEnds : ℕ → StressWords → Told → Told → Type 0
StressEnds status asked out told =
    Ends generate_status generate_line (HasStressCause asked) (Keeps out.old out.new)
    (PutsFrontOfStress asked out.old out.new) (Rose out.before out.now)
    (PutsStress asked out.old out.new) status told
