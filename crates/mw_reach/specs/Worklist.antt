-- Reach by a worklist: the steps that a new place or item may open are asked again, and no others.
use Rattle.std.specs.Prelude.{ℕ, ◌≡◌, ◌<◌, ◌≤◌, ◌+◌, List, [], ◌∷◌, None, Bool, true, false, All, flat_map, length, map, slice_index, slice_index_or}
use Rattle.mw_rules.specs.Holds.{Bag, Places, bag_of, places_of}
use Rattle.mw_rules.specs.Laws.{IsPartOf}
use Rattle.mw_multi.specs.Joint.{Joint}
use Rattle.mw_multi.specs.Steps.{Step}
use Rattle.mw_reach.specs.Reach.{Placed, is_open, Closed}
use Rattle.mw_reach.specs.Bound.{sum_at}
use Rattle.mw_reach.specs.Counts.{IsTally, CountsFit, missing}
use Rattle.mw_reach.specs.Rows.{RowFits, steps_in}
use Rattle.mw_multi.specs.Placement.{numbers_at}
use Rattle.mw_reach.specs.Tables.{IsWatched, step_at}
use Rattle.mw_reach.specs.declared.row.Row.{Row}
use Rattle.mw_reach.specs.declared.row.Rows.{Rows}

abbrev pub no_row : Row
no_row = record { slot = 0; start = None; to = 0 }

abbrev pub row_at : List Row → ℕ → Row
row_at rows n = slice_index_or rows n no_row

-- the number is of a row that starts nowhere
abbrev pub IsOrigin : List Row → ℕ → Type 0
IsOrigin rows n = (n < length rows) × ((row_at rows n).start ≡ None)

-- the tables are of so many places and items, and each step stands where it has to
pub record AreRows (joint : Joint) (places items : ℕ) (rows : Rows) : Type 0 where
  pub fit : All (RowFits joint places items) rows.rows
  pub origins_fit : All (IsOrigin rows.rows) rows.origins
  pub places_fit : length rows.by_place ≡ places
  pub items_fit : length rows.by_item ≡ items
  pub watched : IsWatched (steps_in joint rows) rows.origins rows.by_place rows.by_item

-- each of the steps that is open leads into the list
abbrev pub Lead : Bag → Places → Places → List Step → Type 0
Lead bag done v [] = Unit {0}
Lead bag done v (step ∷ steps) =
    (is_open step bag done ≡ true → v step.to ≡ true) × Lead bag done v steps

-- each listed place that isn't done waits in the queue
abbrev pub IsQueued : Places → List Bool → List ℕ → ℕ → ℕ → Type 0
IsQueued done listed queue head len =
    (p : ℕ) → places_of listed p ≡ true → done p ≡ false
    → (k : ℕ) × (head ≤ k) × (k < len) × (slice_index queue k ≡ p)

-- each place in the queue is listed
abbrev pub AreListed : List Bool → List ℕ → ℕ → Type 0
AreListed listed queue len = (k : ℕ) → k < len → places_of listed (slice_index queue k) ≡ true

-- these steps were asked, and the places that the open ones lead to were listed
pub record Wakes (asked : List Step) (bag : Bag) (done : Places) (listed : List Bool)
    (queue : List ℕ) (len : ℕ) (later : List Bool) (later_queue : List ℕ) (later_len : ℕ) : Type 0
  where
    pub grows : IsPartOf (places_of listed) (places_of later)
    pub settled : Lead bag done (places_of later) asked
    pub sound : (v : Places) → Lead bag done v asked → IsPartOf (places_of listed) v
        → IsPartOf (places_of later) v
    pub longer : len ≤ later_len
    pub queued : (head : ℕ) → head ≤ len → IsQueued done listed queue head len
        → IsQueued done later later_queue head later_len
    pub entries : AreListed listed queue len → AreListed later later_queue later_len
    pub room : later_len + missing later ≡ len + missing listed
    pub front : (k : ℕ) → k < len → slice_index later_queue k ≡ slice_index queue k

abbrev pub steps_at : List Step → List ℕ → List Step
steps_at steps numbers = map (step_at steps) numbers

-- the numbers of the steps that name these items, item by item
abbrev pub numbers_of : List (List ℕ) → List ℕ → List ℕ
numbers_of by_item items = flat_map (numbers_at by_item) items

-- how many steps a place and what lies there may open
abbrev pub cost_at : Rows → Placed → ℕ → ℕ
cost_at rows placed p =
    length (numbers_at rows.by_place p)
    + length (numbers_of rows.by_item (slice_index_or placed p []))

-- the same over the places of the list
abbrev pub paid : Rows → Placed → List Bool → ℕ
paid rows placed done = sum_at (cost_at rows placed) 0 done

-- there is room for the counts and for each place that isn't listed
pub record IsGoing (placed : Placed) (done : List Bool) (counts : List ℕ) (listed : List Bool)
    (queue : List ℕ) (len : ℕ) : Type 0 where
  pub room : CountsFit placed done counts
  pub entries : AreListed listed queue len
  pub space : len + missing listed ≤ length listed

-- in the midst of the work
pub record IsWorking (steps : List Step) (base : Bag) (placed : Placed) (done : List Bool)
    (counts : List ℕ) (listed : List Bool) (queue : List ℕ) (head len : ℕ) : Type 0 where
  pub tally : IsTally base placed done counts
  pub room : CountsFit placed done counts
  pub inside : IsPartOf (places_of done) (places_of listed)
  pub settled : (n : ℕ) → is_open (step_at steps n) (bag_of counts) (places_of done) ≡ true
      → places_of listed (step_at steps n).to ≡ true
  pub sound : (v : Places) → Closed steps base placed v → IsPartOf (places_of listed) v
  pub queued : IsQueued (places_of done) listed queue head len
  pub entries : AreListed listed queue len
  pub space : len + missing listed ≤ length listed
