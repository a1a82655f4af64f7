-- Rows of words beside the definitions.
use Rattle.std.specs.Prelude.{◌≡◌, List, ℕ, [], ◌∷◌, true, false, Some, None, codes, refl}
use Rattle.clap.specs.declared.error.kind.ErrorKind.TheVariants.{UnknownArgument, ArgumentConflict, MissingRequiredArgument}
use Rattle.clap.proofs.OnLiterals.{clap_on_literals}
use Rattle.mw_words.specs.Words.{IsDrive, drive_app, faults, generate_app, given, serve_app}

-- a file's name
pub drive_one : IsDrive (codes "drive" ∷ codes "A" ∷ [])
    (record { multidata = codes "A"; journal = None; pair = false })
unfolding faults given clap_on_literals
drive_one = record {
  taken = record { named = refl; faultless = refl };
  multidata = refl;
  journal = refl;
  pair = refl;
}

-- two files' names
pub drive_two : IsDrive (codes "drive" ∷ codes "A" ∷ codes "J" ∷ [])
    (record { multidata = codes "A"; journal = Some (codes "J"); pair = false })
unfolding faults given clap_on_literals
drive_two = record {
  taken = record { named = refl; faultless = refl };
  multidata = refl;
  journal = refl;
  pair = refl;
}

-- CHOICE of a pair room; the flag may stand anywhere
pub drive_pair : IsDrive (codes "drive" ∷ codes "--pair" ∷ codes "A" ∷ codes "C" ∷ [])
    (record { multidata = codes "A"; journal = Some (codes "C"); pair = true })
unfolding faults given clap_on_literals
drive_pair = record {
  taken = record { named = refl; faultless = refl };
  multidata = refl;
  journal = refl;
  pair = refl;
}

-- no flag twice
pub pair_twice : faults drive_app
    (codes "drive" ∷ codes "A" ∷ codes "C" ∷ codes "--pair" ∷ codes "--pair" ∷ [])
    ≡ ArgumentConflict ∷ []
unfolding faults clap_on_literals
pair_twice = refl

-- a word too many
pub drive_three : faults drive_app (codes "drive" ∷ codes "A" ∷ codes "J" ∷ codes "K" ∷ [])
    ≡ UnknownArgument ∷ []
unfolding faults clap_on_literals
drive_three = refl

abbrev pub made : List (List ℕ)
made = codes "generate" ∷ codes "--seed=5" ∷ codes "p.json" ∷ codes "o" ∷ []

-- an option may stand anywhere, with its value after `=`
pub seed_first : given generate_app made (codes "seed") ≡ Some (codes "5")
unfolding given clap_on_literals
seed_first = refl

-- tries that aren't said
pub tries_unsaid : given generate_app made (codes "tries") ≡ Some (codes "100")
unfolding given clap_on_literals
tries_unsaid = refl

-- no option twice
pub seed_twice : faults generate_app
    (codes "generate" ∷ codes "p" ∷ codes "o" ∷ codes "--seed" ∷ codes "5" ∷ codes "--seed"
    ∷ codes "6" ∷ []) ≡ ArgumentConflict ∷ []
unfolding faults clap_on_literals
seed_twice = refl

abbrev pub hosted : List (List ℕ)
hosted = codes "serve" ∷ codes "A" ∷ codes "J" ∷ codes "--bind" ∷ codes "127.0.0.1:38281" ∷ []

-- a room's address
pub hosted_bind : given serve_app hosted (codes "bind") ≡ Some (codes "127.0.0.1:38281")
unfolding given clap_on_literals
hosted_bind = refl

-- workers that aren't said
pub workers_unsaid : given serve_app hosted (codes "workers") ≡ Some (codes "32")
unfolding given clap_on_literals
workers_unsaid = refl

-- a room that goes on
pub accept_unsaid : given serve_app hosted (codes "accept") ≡ None
unfolding given clap_on_literals
accept_unsaid = refl

-- a room that ends after three connections
pub accept_said : given serve_app
    (codes "serve" ∷ codes "--accept=3" ∷ codes "A" ∷ codes "J" ∷ codes "--bind=0.0.0.0:1" ∷ [])
    (codes "accept") ≡ Some (codes "3")
unfolding given clap_on_literals
accept_said = refl

-- no room without an address
pub bind_unsaid : faults serve_app (codes "serve" ∷ codes "A" ∷ codes "J" ∷ [])
    ≡ MissingRequiredArgument ∷ []
unfolding faults clap_on_literals
bind_unsaid = refl
