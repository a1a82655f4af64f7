-- For proofs alone: the copies that were put, in the order of the run.
use Rattle.std.specs.Prelude.{ℕ, ◌≡◌, ◌<◌, ◌≤◌, ◌+◌, ◌-◌, ◌*◌, ◌^◌, ◌++◌, List, [], Option, Some, Bool, true, All, drop, filter, find, flat_map, length, map, slice_index_or, take}
use Rattle.mw_rules.specs.Holds.{Places}
use Rattle.mw_multi.specs.Joint.{Joint, place_total, item_total}
use Rattle.mw_multi.specs.Steps.{steps_of}
use Rattle.mw_multi.specs.Placement.{Put, put_numbers, IsPlaced}
use Rattle.mw_multi.specs.Events.{events_of}
use Rattle.mw_reach.specs.Reach.{Placed, bag_with, IsLeast}
use Rattle.mw_reach.specs.Bound.{asks_naming, asks_at, new_in}
use Rattle.mw_fill.specs.Copies.{ItemCopy, copy_numbers, all_numbers}
use Rattle.mw_fill.specs.Openings.{Opening, accepts}
use Rattle.mw_fill.specs.Fill.{Outcome, first_fit, in_hand, is_allowed, FillRun}
use Rattle.mw_fill.specs.Asks.{AreLists, asks_of_goals, asks_of_levels}
use Rattle.mw_fill.specs.Kept.{CopyKept, OpeningKept, IsHeldFor, AreTaken, is_open_in}
use Rattle.mw_fill.specs.declared.laying.Laying.{Laying}

-- it lies at a place of the list
abbrev pub lies_in : Places → Put → Bool
lies_in w put = w put.place

-- the numbers of those that lie at places of the list, one for each owner of each
abbrev pub numbers_found : Joint → Places → List Put → List ℕ
numbers_found joint w laid = flat_map (put_numbers joint) (filter (lies_in w) laid)

-- it is at a place of the joint, and its numbers are the joint's
pub record IsLaid (joint : Joint) (put : Put) : Type 0 where
  pub place : put.place < place_total joint.slots
  pub numbers : All (λ n. n < item_total joint.slots) (put_numbers joint put)

-- for each copy where its numbers begin among those of all, and last where they end
pub record AreBegins (joint : Joint) (copies : List ItemCopy) (begins : List ℕ) : Type 0 where
  pub size : length begins ≡ length copies + 1
  pub each : (k d : ℕ) → k ≤ length copies
      → slice_index_or begins k d ≡ length (all_numbers joint (take k copies))

-- copies, with their numbers over all slots and where those of each begin, and locations of the
-- joint
pub record AreOrdered (joint : Joint) (copies : List ItemCopy) (numbers begins : List ℕ)
    (openings : List Opening) : Type 0 where
  pub copies_kept : All (CopyKept joint) copies
  pub few : length copies ≤ 10240000
  pub numbers_are : numbers ≡ all_numbers joint copies
  pub few_numbers : length numbers ≤ 10240000
  pub begins_are : AreBegins joint copies begins
  pub openings_kept : All (OpeningKept joint) openings

-- the copies that were put have the numbers of the first copies
abbrev pub AreFirst : Joint → List ItemCopy → List Put → Type 0
AreFirst joint copies laid =
    map (put_numbers joint) laid ≡ map (copy_numbers joint) (take (length laid) copies)

-- the first copies were put where the run puts them: what it gives from there on, the whole run
-- gives
abbrev pub RunsOn : Joint → List Opening → List ItemCopy → List Put → Type 0
RunsOn joint openings copies laid =
    (out : Outcome)
    → FillRun joint openings (drop (length laid) copies) laid out
    → FillRun joint openings copies [] out

-- the first copies were put where the run puts them
pub record AreLaid (joint : Joint) (openings : List Opening) (copies : List ItemCopy)
    (laid : List Put) (held : List (Option Put)) (table : Placed) : Type 0 where
  pub held_is : IsHeldFor joint laid held
  pub table_is : IsPlaced joint (events_of joint ++ laid) table
  pub each : All (IsLaid joint) laid
  pub numbers : AreFirst joint copies laid
  pub runs : RunsOn joint openings copies laid

-- the same of what was put so far
abbrev pub IsLaying : Joint → List Opening → List ItemCopy → Laying → Type 0
IsLaying joint openings copies laying =
    AreLaid joint openings copies laying.laid laying.held.items laying.placed

-- something is held at each of the first so many locations as it says
pub record IsPast (openings : List Opening) (laying : Laying) : Type 0 where
  pub within : laying.from ≤ length openings
  pub taken : AreTaken laying.held.items openings laying.from

-- this is the first location that is free and accepts the next copy, and it is in the list
abbrev pub IsSure : List Opening → List ItemCopy → List Put → List (Option Put) → Places → Opening
    → Type 0
IsSure openings copies laid held places opening =
    (copy : ItemCopy) → copy ≡ slice_index_or copies (length laid) copy
    → (find (is_open_in (accepts copy) held) openings ≡ Some opening)
    × (places opening.place ≡ true)

-- the next copy finds this location by its own list
abbrev pub IsFound : Joint → List Opening → List ItemCopy → List Put → Placed → Option Opening
    → Type 0
IsFound joint openings copies laid table found =
    let hand = in_hand joint (drop (length laid + 1) copies) in
    (w : Places) × IsLeast (steps_of joint) hand table w
    × ((copy : ItemCopy) → copy ≡ slice_index_or copies (length laid) copy
    → first_fit (is_allowed joint (bag_with hand table w) w copy) laid openings ≡ found)

-- ---- asks

-- the numbers over all slots of the copies from one to another, one for each owner of each
abbrev pub numbers_between : Joint → List ItemCopy → ℕ → ℕ → List ℕ
numbers_between joint copies from to = all_numbers joint (take (to - from) (drop from copies))

-- what it costs to go on from one list to another with these items more
abbrev pub asks_more : Joint → Placed → List ℕ → List Bool → List Bool → ℕ
asks_more joint table more before later =
    asks_naming (steps_of joint) more + asks_at (steps_of joint) table (new_in before later)

-- each goal once for each copy from one to another that may be missed
abbrev pub goals_between : Joint → List ItemCopy → ℕ → ℕ → ℕ
goals_between joint copies from to = asks_of_goals joint (take (to - from) (drop from copies))

-- the asks within a range of the copies, by so many levels of halves
abbrev pub asks_of_range : Joint → List ItemCopy → (ℕ → Placed) → (ℕ → ℕ → List Bool) → ℕ → ℕ → ℕ
    → ℕ
asks_of_range joint copies tables lists levels from to =
    levels * asks_naming (steps_of joint) (numbers_between joint copies from to)
    + asks_of_levels joint tables lists levels from to
    + goals_between joint copies from to

-- between two counts lie no more asks than those within a range, whatever is put after those that
-- were put
abbrev pub RangeWithin : Joint → List ItemCopy → List Put → ℕ → ℕ → ℕ → ℕ → Type 0
RangeWithin joint copies laid from to before after =
    (levels : ℕ) (puts : List Put) (tables : ℕ → Placed) (lists : ℕ → ℕ → List Bool)
    → to ≤ from + 2 ^ levels → take (length laid) puts ≡ laid
    → AreLists joint copies puts tables lists
    → after ≤ before + asks_of_range joint copies tables lists levels from to

-- the asks within the first half of a range, with those for its list; the whole's list was there
abbrev pub FirstWithin : Joint → List ItemCopy → List Put → ℕ → ℕ → ℕ → ℕ → ℕ → Type 0
FirstWithin joint copies laid from middle to before after =
    (levels : ℕ) (puts : List Put) (tables : ℕ → Placed) (lists : ℕ → ℕ → List Bool)
    → middle ≤ from + 2 ^ levels → take (length laid) puts ≡ laid
    → AreLists joint copies puts tables lists
    → after ≤ before + (asks_naming (steps_of joint) (numbers_between joint copies middle to)
    + asks_at (steps_of joint) (tables from) (new_in (lists from to) (lists from middle)))
    + asks_of_range joint copies tables lists levels from middle

-- the same of the second half
abbrev pub SecondWithin : Joint → List ItemCopy → List Put → ℕ → ℕ → ℕ → ℕ → ℕ → Type 0
SecondWithin joint copies laid from middle to before after =
    (levels : ℕ) (puts : List Put) (tables : ℕ → Placed) (lists : ℕ → ℕ → List Bool)
    → to ≤ middle + 2 ^ levels → take (length laid) puts ≡ laid
    → AreLists joint copies puts tables lists
    → after ≤ before
    + (asks_naming (steps_of joint) (numbers_between joint copies from middle)
    + asks_at (steps_of joint) (tables middle) (new_in (lists from to) (lists middle to)))
    + asks_of_range joint copies tables lists levels middle to
