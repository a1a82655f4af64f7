-- Releases and collects, and the checks that they come to.
use Rattle.std.specs.Prelude.{◌≡◌, ℕ, ◌==◌, ◌++◌, [], List, map, if◌then◌else◌}
use Rattle.mw_model.specs.Seed.{Seed}
use Rattle.mw_protocol.specs.Commands.{at_goal, is_automatic, where_new}
use Rattle.mw_protocol.specs.Records.{Record, Hint, release, collect}
use Rattle.mw_protocol.specs.Standing as plain
use Rattle.mw_protocol.specs.Statuses.{SlotStatus}
use Rattle.mw_protocol.specs.Storage.{Kept}
use Rattle.mw_checks.specs.Log.{AreFresh, checks_of}
use Rattle.mw_records.specs.Records.{record_view}
use Rattle.mw_effects.specs.declared.giving.Given.{Given}
use Rattle.mw_effects.specs.declared.giving.Giving.{Giving}
use Rattle.mw_effects.specs.declared.giving.Giving.TheVariants.{Release, Collect}
use Rattle.mw_effects.specs.declared.standing.Standing.{Standing}

abbrev pub asking : Giving → ℕ → ℕ → Record
asking Release team slot = release team slot
asking Collect team slot = collect team slot

-- a record, where it is done at the goal itself and asks for a check that isn't there yet
abbrev pub given_where : ℕ → Seed → plain.Standing → Record → List Record
given_where permission seed now r = if is_automatic permission then where_new seed now r else []

-- what is given with a new status
abbrev pub given_with : ℕ → Seed → plain.Standing → ℕ → ℕ → List Record
given_with status seed now team slot = if status == 30 then at_goal seed now team slot else []

-- the checks aren't there yet, and are what the records come to, whatever the statuses, hints and keys
pub record IsGiven (s : Standing) (team : ℕ) (g : Given) : Type 0 where
  pub fresh : AreFresh s.log.seed s.log.checked team g.new
  pub comes_to : (ss : List SlotStatus) (hs : List Hint) (ks : List Kept)
      → plain.steps s.log.seed
      (record { checked = s.log.checked; statuses = ss; hints = hs; storage = ks })
      (map record_view g.records)
      ≡ record {
        checked = s.log.checked ++ checks_of team g.new;
        statuses = ss;
        hints = hs;
        storage = ks;
      }
