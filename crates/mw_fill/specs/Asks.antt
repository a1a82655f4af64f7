-- How often rules are asked while copies are put by halves.
use Rattle.std.specs.Prelude.{ℕ, zero, suc, ◌≡◌, ◌+◌, ◌-◌, ◌*◌, ◌/◌, ◌^◌, ◌≤◌, ◌⊎◌, List, [], ◌∷◌, ◌++◌, None, Bool, Result, MatchResult, drop, length, sum_by, take, if◌then◌else◌}
use Rattle.mw_rules.specs.Holds.{Places, places_of}
use Rattle.mw_multi.specs.Joint.{Joint, place_total}
use Rattle.mw_multi.specs.Steps.{steps_of}
use Rattle.mw_multi.specs.Placement.{Put, IsPlaced}
use Rattle.mw_multi.specs.Events.{events_of}
use Rattle.mw_reach.specs.Reach.{Placed, bag_with, IsLeast}
use Rattle.mw_reach.specs.Bound.{asks_allowed, asks_naming, asks_at, new_in}
use Rattle.mw_fill.specs.Copies.{ItemCopy, all_numbers}
use Rattle.mw_fill.specs.Openings.{Opening, regular}
use Rattle.mw_fill.specs.Fill.{Outcome, first_fit, in_hand, is_missable, is_allowed, FillRun}
use Rattle.mw_fill.specs.Answer.{OnStuck}
use Rattle.mw_fill.specs.Try.{lists_of}
use Rattle.mw_fill.specs.declared.error.FillError.{FillError}

-- the first copies were put where the run puts them: what it gives from there on, the whole run
-- gives
abbrev pub AreRun : Joint → List Opening → List ItemCopy → List Put → Type 0
AreRun joint openings copies puts =
    (out : Outcome) → FillRun joint openings (drop (length puts) copies) puts out
    → FillRun joint openings copies [] out

-- for each two numbers the least list without the copies between them: those below the first number
-- are where they were put, and those from the second one on are in hand
pub record AreLists (joint : Joint) (copies : List ItemCopy) (puts : List Put) (tables : ℕ → Placed)
    (lists : ℕ → ℕ → List Bool) : Type 0 where
  pub tables_are : (from : ℕ)
      → IsPlaced joint (events_of joint ++ take from puts) (tables from)
  pub sizes : (from to : ℕ) → length (lists from to) ≡ place_total joint.slots
  pub least : (from to : ℕ)
      → IsLeast (steps_of joint) (in_hand joint (drop to copies)) (tables from)
      (places_of (lists from to))

-- the number half way
abbrev pub half_way : ℕ → ℕ → ℕ
half_way from to = from + (to - from) / 2

-- the asks for the places that are new where a list goes on to the list of one half, and then to
-- that of the other
abbrev pub asks_of_halves : Joint → (ℕ → Placed) → (ℕ → ℕ → List Bool) → ℕ → ℕ → ℕ → ℕ
asks_of_halves joint tables lists from middle to =
    asks_at (steps_of joint) (tables from) (new_in (lists from to) (lists from middle))
    + asks_at (steps_of joint) (tables middle) (new_in (lists from to) (lists middle to))

-- the same for each half, and for its halves, so many levels deep
abbrev pub asks_of_levels : Joint → (ℕ → Placed) → (ℕ → ℕ → List Bool) → ℕ → ℕ → ℕ → ℕ
asks_of_levels joint tables lists zero from to = 0
asks_of_levels joint tables lists (suc levels) from to =
    let middle = half_way from to in
    asks_of_halves joint tables lists from middle to
    + (asks_of_levels joint tables lists levels from middle
    + asks_of_levels joint tables lists levels middle to)

-- each goal once for a copy that may be missed
abbrev pub goals_for : Joint → ItemCopy → ℕ
goals_for joint copy = if is_missable joint copy then length joint.slots else 0

abbrev pub asks_of_goals : Joint → List ItemCopy → ℕ
asks_of_goals joint copies = sum_by (goals_for joint) copies

-- the asks of a fill: those for its first list; at each level each rule once for each owner of each
-- copy whose item it names, in hand for one half or found where it was put for the other; those for
-- the places that are new in the lists of the halves; and each goal once for each copy that may be
-- missed
abbrev pub asks_of_fill : Joint → List ItemCopy → (ℕ → Placed) → (ℕ → ℕ → List Bool) → ℕ → ℕ
asks_of_fill joint copies tables lists levels =
    asks_allowed (steps_of joint) (tables 0) (lists 0 (length copies))
    + (levels * asks_naming (steps_of joint) (all_numbers joint copies)
    + asks_of_levels joint tables lists levels 0 (length copies)
    + asks_of_goals joint copies)

-- the next of these copies finds no location: with the later ones in hand, none that is free is
-- allowed
abbrev pub FindsNone : Joint → List Opening → List ItemCopy → List Put → Type 0
FindsNone joint openings rest puts =
    (copy : ItemCopy) × (later : List ItemCopy) × (table : Placed) × (w : Places)
    × (rest ≡ copy ∷ later) × IsPlaced joint (events_of joint ++ puts) table
    × IsLeast (steps_of joint) (in_hand joint later) table w
    × (first_fit (is_allowed joint (bag_with (in_hand joint later) table w) w copy) puts openings
    ≡ None)

-- the run ends with these puts: each copy was put, or the next one finds no location
abbrev pub EndsWith : Joint → List Opening → List ItemCopy → List Put → Type 0
EndsWith joint openings copies puts =
    (length puts ≡ length copies) ⊎ FindsNone joint openings (drop (length puts) copies) puts

-- by what is answered: each copy was put; or, where a copy found no location, the run ends with
-- these puts; where memory ran out it may end later
abbrev pub AnswersAt : {X : Type 0} → Joint → List Opening → List ItemCopy → Result X FillError
    → List Put → Type 0
AnswersAt joint openings copies result puts = MatchResult result
    (λ x. length puts ≡ length copies)
    (λ e. OnStuck e (λ slot item. EndsWith joint openings copies puts))

-- no rule was asked between two counts, or no more than in a fill whose first copies were put so,
-- by as few levels as have room for the copies
abbrev pub AsksWhere : (List Put → Type 0) → Joint → List Opening → List ItemCopy → ℕ → ℕ → Type 0
AsksWhere Ends joint openings copies before after =
    (after ≡ before)
    ⊎ ((puts : List Put) × (tables : ℕ → Placed) × (lists : ℕ → ℕ → List Bool)
    × AreRun joint openings copies puts × Ends puts × AreLists joint copies puts tables lists
    × ((levels : ℕ) → length copies ≤ 2 ^ levels
    → after ≤ before + asks_of_fill joint copies tables lists levels))

-- no more than in a fill that ends as the answer says
abbrev pub AsksWithin : {X : Type 0} → Joint → List Opening → List ItemCopy → Result X FillError
    → ℕ → ℕ → Type 0
AsksWithin joint openings copies result before after =
    AsksWhere (AnswersAt joint openings copies result) joint openings copies before after

-- the same for the try with this number
abbrev pub TryAsksWithin : {X : Type 0} → Joint → ℕ → ℕ → Result X FillError → ℕ → ℕ → Type 0
TryAsksWithin joint seed stream result before after =
    AsksWithin joint (regular (lists_of joint seed stream).openings)
    (lists_of joint seed stream).asked result before after
