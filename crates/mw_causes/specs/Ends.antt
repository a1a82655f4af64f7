-- How a command ends, whatever its own causes are.
use Rattle.std.specs.Prelude.{◌≡◌, ◌⊎◌, ℕ, List, Option, codes}
use Rattle.std.specs.Io.KnownBytes.{Keeps}
use Rattle.mw_edges.specs.Causes.{Tells}
use Rattle.mw_causes.specs.declared.stop.Stop.{Stop}
use Rattle.mw_causes.specs.declared.stop.Stop.TheVariants.{Fault, Memory, Refused}

-- what a sink held before and after, and how often it had failed, or refused a put
pub record Told : Type 0 where
  pub old : Option (List ℕ)
  pub new : Option (List ℕ)
  pub before : ℕ
  pub now : ℕ

-- the same of a sink that holds and counts so
abbrev pub told_by : {E : Type 0} → (E → Option (List ℕ)) → (E → ℕ) → E → E → Told
told_by held count old new =
    record { old = held old; new = held new; before = count old; now = count new }

-- the error sink was told this line, or a front of it where it refused
abbrev pub IsTold : Told → List ℕ → Type 0
IsTold told line = Tells told.old told.new told.before told.now line

-- the status of a stop, where a command's own causes have these
abbrev pub stop_status : {C : Type 0} → (C → ℕ) → Stop C → ℕ
stop_status status_of Fault = 5
stop_status status_of Memory = 6
stop_status status_of (Refused cause) = status_of cause

-- its line, in the same way
abbrev pub stop_line : {C : Type 0} → (C → List ℕ) → Stop C → List ℕ
stop_line line_of Fault = codes "device failed\n"
stop_line line_of Memory = codes "no memory\n"
stop_line line_of (Refused cause) = line_of cause

-- a stop of a part of a command, whose causes are causes of the command
abbrev pub stop_with : {C D : Type 0} → (C → D) → Stop C → Stop D
stop_with cause_of Fault = Fault
stop_with cause_of Memory = Memory
stop_with cause_of (Refused cause) = Refused (cause_of cause)

-- it is told for this stop, or for want of memory for its line: the status of that, and its line
pub record Ended {C : Type 0} (status_of : C → ℕ) (line_of : C → List ℕ) (stop : Stop C)
    (status : ℕ) (told : Told) : Type 0 where
  pub named : Stop C
  pub is : (named ≡ stop) ⊎ (named ≡ Memory)
  pub is_status : status ≡ stop_status status_of named
  pub line : IsTold told (stop_line line_of named)

-- what a stopped command left: nothing, where what was read says why, or where a reading failed
-- with all before it accepted; maybe some of its work, where a device failed at that, and where
-- memory ran out
abbrev pub HasLeft : {C : Type 0} → (Stop C → Type 0) → Type 0 → Type 0 → Type 0 → Stop C → Type 0
HasLeft why nothing some failed Fault = (why Fault × nothing) ⊎ (some × failed)
HasLeft why nothing some failed Memory = nothing ⊎ some
HasLeft why nothing some failed (Refused cause) = why (Refused cause) × nothing

-- it stopped so: with the stop's status, what it left, and the stop's line
pub record Stops {C : Type 0} (status_of : C → ℕ) (line_of : C → List ℕ) (why : Stop C → Type 0)
    (nothing some failed : Type 0) (stop : Stop C) (status : ℕ) (told : Told) : Type 0 where
  pub is_status : status ≡ stop_status status_of stop
  pub left : HasLeft why nothing some failed stop
  pub line : IsTold told (stop_line line_of stop)

-- with all done and the error sink as it was, or stopped for some cause
abbrev pub Ends : {C : Type 0} → (C → ℕ) → (C → List ℕ) → (Stop C → Type 0) → Type 0 → Type 0
    → Type 0 → Type 0 → ℕ → Told → Type 0
Ends {C = C} status_of line_of why nothing some failed done status told =
    ((status ≡ 0) × done × Keeps told.old told.new)
    ⊎ ((stop : Stop C) × Stops status_of line_of why nothing some failed stop status told)

-- ---- words that are no command

-- the line for words that are no command
abbrev pub bad_words : List ℕ
bad_words = codes "bad words\n"

-- words that are no command are told of as such, but where memory runs out before that is seen
abbrev pub RefusalEnds : ℕ → Told → Type 0
RefusalEnds status told =
    ((status ≡ 2) × IsTold told bad_words)
    ⊎ ((status ≡ 6) × IsTold told (codes "no memory\n"))
