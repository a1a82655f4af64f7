-- Rows of a script beside the definitions.
use Rattle.std.specs.Prelude.{◌≡◌, ◌∷◌, [], None, true, false, refl}
use Rattle.mw_model.specs.Seed.{Seed}
use Rattle.mw_protocol.specs.Lives.{Life, new_life}
use Rattle.mw_protocol.specs.Packets.{good, sync}
use Rattle.mw_script.specs.Commands.{opens, sends, takes, loses, commits, crashes}
use Rattle.mw_drive.specs.Drive.{run, overrun, gone}

-- a room that was just made
abbrev pub made : Seed → Life
made seed = new_life seed [] 40

-- a session that isn't open, and that was never opened
pub take_seven : (seed : Seed)
    → (run (made seed) (takes 7 ∷ loses 7 ∷ [])).puts ≡ gone 7 ∷ gone 7 ∷ []
take_seven seed = refl

-- a room with a session that was owed more than it may keep
abbrev pub crowded : Seed → Life
crowded seed = record {
  room = record {
    seed = seed;
    journal = [];
    opened = 1;
    sessions = record { number = 1; member = None; owed = []; taken = 0; overrun = true } ∷ [];
  };
  committed = 0;
  place = 40;
  stopped = None;
  calls = 0;
}

-- two packets on it are told of once
pub told_once : (seed : Seed)
    → (run (crowded seed) (sends 1 (good sync ∷ good sync ∷ []) ∷ [])).puts ≡ overrun 1 ∷ []
told_once seed = refl

-- a message without packets makes no call
pub no_call : (seed : Seed) → (run (crowded seed) (sends 1 [] ∷ [])).puts ≡ []
no_call seed = refl

-- it can still be lost, and is then gone
pub still_lost : (seed : Seed)
    → (run (crowded seed) (takes 1 ∷ loses 1 ∷ takes 1 ∷ [])).puts ≡ overrun 1 ∷ gone 1 ∷ []
still_lost seed = refl

-- after a crash nobody is there, and the next session is the first one
pub nobody_stays : (seed : Seed)
    → (run (crowded seed) (commits ∷ crashes ∷ takes 1 ∷ [])).puts ≡ gone 1 ∷ []
nobody_stays seed = refl

pub first_again : (seed : Seed) → (run (crowded seed) (crashes ∷ opens 0 ∷ [])).life.room.opened ≡ 1
first_again seed = refl

-- a journal whose gate stands where no batch fits is full only where something is to be appended
pub not_full : (seed : Seed)
    → (run (new_life seed [] 1073741823) (opens 0 ∷ commits ∷ takes 1 ∷ loses 1 ∷ [])).full ≡ false
not_full seed = refl
