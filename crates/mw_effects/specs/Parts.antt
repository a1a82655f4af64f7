-- What the code keeps of a room's records, and what an effect makes of it.
use Rattle.std.specs.Prelude.{◌≡◌, ℕ, zero, suc, ◌+◌, ◌==◌, ◌&&◌, ◌++◌, ◌∷◌, [], List, Option, Some, None, length, map, if◌then◌else◌}
use Rattle.mw_model.specs.Seed.{Seed}
use Rattle.mw_protocol.specs.Checks.{Check}
use Rattle.mw_protocol.specs.HintList.{hinted_all, bought_by}
use Rattle.mw_protocol.specs.Standing as plain
use Rattle.mw_protocol.specs.Statuses.{SlotStatus, set_status}
use Rattle.mw_protocol.specs.Storage.{Kept, put}
use Rattle.mw_checks.specs.Log.{AreFresh, checks_of}
use Rattle.mw_records.specs.Records.{record_view, hint_view}
use Rattle.mw_effects.specs.declared.effect.Effect.{Effect}
use Rattle.mw_effects.specs.declared.standing.Standing.{Standing}

abbrev pub standing_of : Standing → plain.Standing
standing_of s =
    record {
      checked = s.log.checked;
      statuses = s.statuses.items;
      hints = s.hints.hints;
      storage = s.store.kept;
    }

abbrev pub seed_of : Standing → Seed
seed_of s = s.log.seed

-- ---- statuses

-- a slot's status where it is given, else they stay
abbrev pub stated_by : Option SlotStatus → List SlotStatus → List SlotStatus
stated_by None ss = ss
stated_by (Some s) ss = set_status s.team s.slot s.status ss

-- the index of the first status of a slot in a team
abbrev pub place_of_status : ℕ → ℕ → List SlotStatus → ℕ
place_of_status team slot [] = zero
place_of_status team slot (s ∷ ss) =
    if (s.team == team) && (s.slot == slot) then zero else suc (place_of_status team slot ss)

-- ---- the data storage

-- a key's value where one is given, else they stay
abbrev pub kept_by : Option Kept → List Kept → List Kept
kept_by None ks = ks
kept_by (Some k) ks = put k.key k.value ks

-- how many keys want room for that
abbrev pub keys_in : Option Kept → ℕ
keys_in None = 0
keys_in (Some k) = 1

-- ---- what an effect's records come to

-- the checks
abbrev pub news_of : Effect → List Check
news_of e = checks_of e.team e.new

abbrev pub grown : Standing → Effect → plain.Standing
grown s e = record {
  checked = s.log.checked ++ news_of e;
  statuses = stated_by e.status s.statuses.items;
  hints = hinted_all s.hints.hints (map hint_view e.hints);
  storage = kept_by e.stored s.store.kept;
}

-- how many hints more a slot of a team has paid for
abbrev pub paid_by : Effect → ℕ → ℕ → ℕ
paid_by e team slot =
    elim e.payer [ None ↦ 0 | Some payer ↦ if (e.team == team) && (payer == slot) then 1 else 0 ]

-- it records nothing
pub record IsQuiet (e : Effect) : Type 0 where
  pub records : e.records ≡ []
  pub new : e.new ≡ []
  pub status : e.status ≡ None
  pub hints : e.hints ≡ []
  pub payer : e.payer ≡ None
  pub stored : e.stored ≡ None

-- its parts are what its records come to: locations that aren't checked, a status, hints, who pays for one, and a key's value
pub record IsLogged (s : Standing) (e : Effect) : Type 0 where
  pub fresh : AreFresh s.log.seed s.log.checked e.team e.new
  pub comes_to : grown s e ≡ plain.steps s.log.seed (standing_of s) (map record_view e.records)
  pub paid : (team slot : ℕ)
      → length (bought_by (grown s e).hints team slot)
      ≡ length (bought_by s.hints.hints team slot) + paid_by e team slot
