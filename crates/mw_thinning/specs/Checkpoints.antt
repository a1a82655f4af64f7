-- Runs of lives with checkpoints between them.
use Rattle.std.specs.Prelude.{◌≡◌, ℕ, List, [], ◌∷◌, map}
use Rattle.mw_model.specs.Seed.{Seed}
use Rattle.mw_protocol.specs.Lives as lives
use Rattle.mw_protocol.specs.Lives.{Life, Call, Luck, crashes, left_by, new_life, reply_to}
use Rattle.mw_protocol.specs.Records.{Record}
use Rattle.mw_laws.specs.Kept as plain
use Rattle.mw_thinning.specs.Histories.{heard_in}
use Rattle.mw_thinning.specs.Same.{Same}
use Rattle.mw_thinning.specs.Thinning.{thinned}

pub data Step : Type 0 where
  -- a call, or a crash and a life anew
  goes : lives.Step → Step
  -- a crash that leaves so many pending records, a checkpoint, and a life anew, of whose journal
  -- the first gate that isn't open is at a place: it begins with what counts of the records
  thins : ℕ → ℕ → Step

abbrev pub after : Life → Step → Life
after life (goes s) = lives.after life s
after life (thins more place) = new_life life.room.seed (thinned (left_by life more)) place

abbrev pub after_all : Life → List Step → Life
after_all life [] = life
after_all life (s ∷ ss) = after_all (after life s) ss

-- the life that a room made new comes to, and its journal
abbrev pub life_after_all : Seed → List Step → Life
life_after_all seed steps = after_all (new_life seed [] 40) steps

abbrev pub journal_after : Seed → List Step → List Record
journal_after seed steps = (life_after_all seed steps).room.journal

-- the same run without the checkpoints
abbrev pub unthinned : Step → lives.Step
unthinned (goes s) = s
unthinned (thins more place) = crashes more place

abbrev pub plain_run : List Step → List lives.Step
plain_run steps = map unthinned steps

-- it answers each further call the same, has owed its sessions the same packets, and its journal
-- comes to the same
pub record IsAsPlain (seed : Seed) (steps : List Step) : Type 0 where
  pub answers : (call : Call) (luck : Luck)
      → reply_to (life_after_all seed steps) call luck
      ≡ reply_to (lives.life_after_all seed (plain_run steps)) call luck
  pub sessions : heard_in (life_after_all seed steps)
      ≡ heard_in (lives.life_after_all seed (plain_run steps))
  pub journals : Same seed (journal_after seed steps) (plain.journal_after seed (plain_run steps))

-- so it is at each point of each run
abbrev pub CheckpointsChangeNothing : Type 0
CheckpointsChangeNothing = (seed : Seed) (steps : List Step) → IsAsPlain seed steps
