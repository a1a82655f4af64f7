-- Which steps at a place have to be asked, and which places are reached at once with it.
use Rattle.std.specs.Prelude.{ℕ, ◌≡◌, ◌<◌, ◌≤◌, ◌⊎◌, List, [], ◌∷◌, ◌++◌, Option, Some, None, Bool, true, false, not, ◌&&◌, filter, flat_map, length, map, nat_eq}
use Rattle.mw_rules.specs.Rule.{Rule, always, never, has, has_all, has_any, has_count, can_reach, all_of, some_of}
use Rattle.mw_rules.specs.Holds.{places_of}
use Rattle.mw_rules.specs.Names.{is_among}
use Rattle.mw_multi.specs.World.{Entrance, Location}
use Rattle.mw_multi.specs.Joint.{Slot, Joint}
use Rattle.mw_multi.specs.Placement.{numbers_at}
use Rattle.mw_multi.specs.Steps.{Step}
use Rattle.mw_reach.specs.Reach.{Placed}
use Rattle.mw_reach.specs.Tables.{step_at}
use Rattle.mw_reach.specs.Worklist.{row_at, IsWorking}
use Rattle.mw_rules.specs.Laws.{IsPartOf}
use Rattle.mw_multi.specs.Steps.{rule_list}
use Rattle.mw_rules.specs.Ruling.{rule_at}
use Rattle.mw_reach.specs.declared.row.Start.{Start}
use Rattle.mw_reach.specs.declared.row.Row.{Row}
use Rattle.mw_reach.specs.declared.split.Split.{Split}

-- the rule is the one that always holds
abbrev pub is_always : Rule → Bool
is_always always = true
is_always never = false
is_always (has i n) = false
is_always (has_all is) = false
is_always (has_any is) = false
is_always (has_count is n) = false
is_always (can_reach p) = false
is_always (all_of rs) = false
is_always (some_of rs) = false

abbrev pub entrance_always : Entrance → Bool
entrance_always e = is_always e.rule

abbrev pub location_always : Location → Bool
location_always l = is_always l.rule

-- for each of a slot's rules, whether it always holds
abbrev pub slot_always : Slot → List Bool
slot_always slot =
    map entrance_always slot.world.entrances
    ++ (map location_always slot.world.locations ++ is_always slot.world.goal ∷ [])

-- the same of the joint's rules
abbrev pub always_list : Joint → List Bool
always_list joint = flat_map slot_always joint.slots

-- each number of the list is of a rule that always holds
abbrev pub AreAlways : Joint → List Bool → Type 0
AreAlways joint free = (n : ℕ) → places_of free n ≡ true → rule_at (rule_list joint) n ≡ always

-- it starts at the place, by a rule that always holds
abbrev pub starts_free : List Bool → Option Start → ℕ → Bool
starts_free free None p = false
starts_free free (Some start) p = nat_eq start.from p && places_of free start.rule

-- the step with this number may always be taken from the place, and no step waits for where it leads
abbrev pub leads_to_leaf : List Bool → List Row → List (List ℕ) → ℕ → ℕ → Bool
leads_to_leaf free rows by_place p n =
    starts_free free (row_at rows n).start p
    && nat_eq (length (numbers_at by_place (row_at rows n).to)) 0

abbrev pub is_asked : List Bool → List Row → List (List ℕ) → ℕ → ℕ → Bool
is_asked free rows by_place p n = not (leads_to_leaf free rows by_place p n)

-- the numbers of the steps at a place that have to be asked
abbrev pub asked_numbers : List Bool → List Row → List (List ℕ) → ℕ → List ℕ
asked_numbers free rows by_place p = filter (is_asked free rows by_place p) (numbers_at by_place p)

abbrev pub row_to : List Row → ℕ → ℕ
row_to rows n = (row_at rows n).to

-- where the others lead
abbrev pub leaf_places : List Bool → List Row → List (List ℕ) → ℕ → List ℕ
leaf_places free rows by_place p =
    map (row_to rows) (filter (leads_to_leaf free rows by_place p) (numbers_at by_place p))

-- no step waits for the place, and a step whose rule always holds leads there
pub record IsLeaf (steps : List Step) (by_place : List (List ℕ)) (from place : ℕ) : Type 0 where
  pub within : place < length by_place
  pub alone : numbers_at by_place place ≡ []
  pub number : ℕ
  pub from_is : (step_at steps number).from ≡ Some from
  pub rule_is : (step_at steps number).rule ≡ always
  pub to_is : (step_at steps number).to ≡ place

-- each step at a place has to be asked there or leads to one of its leaves
pub record IsSplit (steps : List Step) (by_place : List (List ℕ)) (split : Split) : Type 0 where
  pub asked_size : length split.asked ≡ length by_place
  pub leaves_size : length split.leaves ≡ length by_place
  pub asked : (p n : ℕ) → is_among (numbers_at split.asked p) n ≡ true
      → is_among (numbers_at by_place p) n ≡ true
  pub heard : (p n : ℕ) → is_among (numbers_at by_place p) n ≡ true
      → (is_among (numbers_at split.asked p) n ≡ true)
      ⊎ (is_among (numbers_at split.leaves p) (step_at steps n).to ≡ true)
  pub fewer : (p : ℕ) → length (numbers_at split.asked p) ≤ length (numbers_at by_place p)
  pub leaves_are : (p t : ℕ) → is_among (numbers_at split.leaves p) t ≡ true
      → IsLeaf steps by_place p t

-- in the midst of the work, with these places in the list as well
pub record HasTaken (steps : List Step) (base : ℕ → ℕ) (placed : Placed) (done : List Bool)
    (counts : List ℕ) (before listed : List Bool) (queue : List ℕ) (head len : ℕ)
    (leaves : List ℕ) : Type 0 where
  pub working : IsWorking steps base placed done counts listed queue head len
  pub grows : IsPartOf (places_of before) (places_of listed)
  pub there : (t : ℕ) → is_among leaves t ≡ true → places_of listed t ≡ true
