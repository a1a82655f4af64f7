-- When two journals come to the same.
use Rattle.std.specs.Prelude.{◌≡◌, ℕ, List}
use Rattle.mw_model.specs.Seed.{Seed}
use Rattle.mw_protocol.specs.Asked as asked
use Rattle.mw_protocol.specs.HintList as hint_list
use Rattle.mw_protocol.specs.Records.{Record}
use Rattle.mw_protocol.specs.Standing as standings
use Rattle.mw_protocol.specs.Statuses as given
use Rattle.mw_protocol.specs.Storage as stores
use Rattle.mw_thinning.specs.Thinning.{thinned}

-- the points of a slot that a journal leaves
abbrev pub points_of : Seed → List Record → ℕ → ℕ → ℕ
points_of seed journal team slot =
    standings.points seed (standings.standing seed journal) team slot

-- the same checks, items of each slot of each team, value under each key, hints, points of each
-- slot of each team, and statuses; where a key stands among the others nobody is told
pub record Same (seed : Seed) (first second : List Record) : Type 0 where
  pub checked : asked.checked seed first ≡ asked.checked seed second
  pub received : (team slot : ℕ)
      → asked.received seed team slot first ≡ asked.received seed team slot second
  pub storage : (key : List ℕ)
      → stores.value_of key (stores.storage first) ≡ stores.value_of key (stores.storage second)
  pub hints : hint_list.hints first ≡ hint_list.hints second
  pub points : (team slot : ℕ) → points_of seed first team slot ≡ points_of seed second team slot
  pub statuses : given.statuses first ≡ given.statuses second

-- so it is with what counts of any journal
abbrev pub ThinnedIsTheSame : Type 0
ThinnedIsTheSame = (seed : Seed) (journal : List Record) → Same seed journal (thinned journal)
