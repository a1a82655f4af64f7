-- What generate answers.
use Rattle.std.specs.Prelude.{ℕ, ◌≡◌, ◌+◌, ◌<◌, ◌≤◌, List, Option, Some, None, Result, Ok, Err, length, sum_by}
use Rattle.mw_rules.specs.Holds.{Places}
use Rattle.mw_multi.specs.WorldKept.{copies}
use Rattle.mw_multi.specs.Joint.{Slot, Link, Joint}
use Rattle.mw_multi.specs.Bags.{everything}
use Rattle.mw_multi.specs.Steps.{steps_of}
use Rattle.mw_multi.specs.Placement.{Put, IsPlaced}
use Rattle.mw_multi.specs.Events.{events_of}
use Rattle.mw_reach.specs.Reach.{bag_with, IsLeast}
use Rattle.mw_reach.specs.Required.{first_lack}
use Rattle.mw_reach.specs.declared.lack.Lack.{Lack}
use Rattle.mw_reach.specs.declared.lack.Lack.TheVariants.{Goal, Location as Spot}
use Rattle.mw_fill.specs.Openings.{openings_of}
use Rattle.mw_fill.specs.Try.{IsFilled, IsStuck}
use Rattle.mw_fill.specs.declared.seed.Seed.{Seed}
use Rattle.mw_fill.specs.declared.seed.GenerateError.{GenerateError}
use Rattle.mw_fill.specs.declared.seed.GenerateError.TheVariants.{NotBeatable, NotFull, TooManyItems, Exhausted, Memory}

-- this is the first thing that is lacking with everything in hand, in the least list for it with
-- the events alone
abbrev pub IsLacking : Joint → Option Lack → Type 0
IsLacking joint lack =
    (table : List (List ℕ)) × (w : Places) × IsPlaced joint (events_of joint) table
    × IsLeast (steps_of joint) (everything joint) table w
    × (lack ≡ first_lack joint (bag_with (everything joint) table w) w)

-- how many copies the pools and the links have
abbrev pub slot_pool_size : Slot → ℕ
slot_pool_size s = sum_by copies s.pool

-- how many copies a link has
abbrev pub link_size : Link → ℕ
link_size l = sum_by copies l.copies

abbrev pub pool_size : Joint → ℕ
pool_size joint = sum_by slot_pool_size joint.slots + sum_by link_size joint.links

-- how many locations have an id
abbrev pub room_size : Joint → ℕ
room_size joint = length (openings_of joint)

-- each try below this number is stuck
abbrev pub AreStuck : Joint → ℕ → ℕ → Type 0
AreStuck joint seed tries =
    (stream : ℕ) → stream < tries → (slot : ℕ) × (item : ℕ) × IsStuck joint seed stream slot item

-- with everything in hand nothing is lacking, and there is room for all copies
pub record CanBeTried (joint : Joint) : Type 0 where
  pub nothing : IsLacking joint None
  pub room : pool_size joint ≤ room_size joint

-- the placement of the first try below so many that gives one
pub record IsFirst (joint : Joint) (seed tries stream : ℕ) (placement : List Put) : Type 0 where
  pub below : stream < tries
  pub filled : IsFilled joint seed stream placement
  pub earlier : AreStuck joint seed stream

-- each refusal, where none before it applies
abbrev pub IsRefused : Joint → ℕ → ℕ → GenerateError → Type 0
IsRefused joint seed tries (NotBeatable slot) = IsLacking joint (Some (Goal slot))
IsRefused joint seed tries (NotFull slot place) = IsLacking joint (Some (Spot slot place))
IsRefused joint seed tries (TooManyItems have room) =
    IsLacking joint None × (have ≡ pool_size joint) × (room ≡ room_size joint) × (room < have)
IsRefused joint seed tries Exhausted = CanBeTried joint × AreStuck joint seed tries
IsRefused joint seed tries Memory = Unit {0}

-- a goal that doesn't hold with everything in hand, a location that is out of reach though its slot
-- wants all of them, too many items, the first try that gives a placement, or none
abbrev pub GeneratedSeed : Joint → ℕ → ℕ → Result Seed GenerateError → Type 0
GeneratedSeed joint seed tries (Ok found) =
    CanBeTried joint × IsFirst joint seed tries found.stream found.placement
GeneratedSeed joint seed tries (Err refusal) = IsRefused joint seed tries refusal
