use Rattle.std.proofs.Common.{◌≡◌, ◌-◌, ℕ, None, drop, length, slice_index_or}
use Rattle.mw_multi.specs.Joint.{place_total}
use Rattle.mw_multi.specs.Placement.{what_stands}
use Rattle.mw_multi.proofs.stands.stands_of.Given as goal

-- what the last puts put is there
abbrev pub invariant-loop-done : goal.invariant-loop-done
invariant-loop-done l =
    (length l.stands.items ≡ place_total l.joint.slots)
    × ((place : ℕ) → slice_index_or l.stands.items place None ≡ what_stands (drop (length l.placement - l.done) l.placement) place)
