-- Which steps a place or an item may open.
use Rattle.std.specs.Prelude.{ℕ, ◌≡◌, ◌<◌, ◌+◌, List, None, true, length, map, nat_eq, slice_index_or, if◌then◌else◌}
use Rattle.mw_rules.specs.Rule.{never}
use Rattle.mw_rules.specs.Names.{is_among}
use Rattle.mw_multi.specs.Placement.{numbers_at}
use Rattle.mw_multi.specs.Steps.{Step}
use Rattle.mw_reach.specs.Reach.{one_if, times_in}
use Rattle.mw_reach.specs.Bound.{names_item_at, waits_for_place}

-- past the end stands a step that is never open
abbrev pub no_step : Step
no_step = record { from = None; to = 0; rule = never; first_place = 0; first_item = 0 }

abbrev pub step_at : List Step → ℕ → Step
step_at steps n = slice_index_or steps n no_step

-- each step from nowhere stands among the origins, and each step stands once at each place and at each item that may
-- open it, and nowhere else
pub record IsWatched (steps : List Step) (origins : List ℕ)
    (by_place by_item : List (List ℕ)) : Type 0 where
  pub nowhere : (n : ℕ) → n < length steps → (step_at steps n).from ≡ None
      → is_among origins n ≡ true
  pub places : (n p : ℕ)
      → times_in n (numbers_at by_place p) ≡ one_if (waits_for_place (step_at steps n) p)
  pub items : (n i : ℕ)
      → times_in n (numbers_at by_item i) ≡ one_if (names_item_at (step_at steps n) i)

-- in the second table the number stands more often than in the first, at each key by so much, and all else stays
pub record IsNoted (old new : List (List ℕ)) (number : ℕ) (more : ℕ → ℕ) : Type 0 where
  pub size : length new ≡ length old
  pub times : (n k : ℕ)
      → times_in n (numbers_at new k)
      ≡ times_in n (numbers_at old k) + (if nat_eq number n then more k else 0)

-- a slot's numbers, over all slots
abbrev pub shifted : ℕ → List ℕ → List ℕ
shifted first ns = map (λ n. first + n) ns

-- a number for each place of these but this one
abbrev pub but_at : ℕ → (ℕ → ℕ) → ℕ → ℕ
but_at place more k = if nat_eq place k then 0 else more k
