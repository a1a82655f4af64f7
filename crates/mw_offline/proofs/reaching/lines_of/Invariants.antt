use Rattle.std.proofs.Common.{◌≡◌, ◌++◌, ◌+◌, map, drop, string_bytes}
use Rattle.mw_rules.specs.Holds.{Places}
use Rattle.mw_reach.specs.Reached.{places_in}
use Rattle.mw_offline.specs.Reaching.{reached_in, slot_lines}
use Rattle.mw_offline.proofs.reaching.lines_of.Given as goal

-- the lines so far, and those of the slots that are left
abbrev pub invariant-loop-before : goal.invariant-loop-before
invariant-loop-before l = (some : Places) → l.start ≡ map (λ s. reached_in s some) l.joint.slots
    → string_bytes l.out ++ slot_lines (l.before + 1) (drop l.before l.joint.slots) some (places_in l.all) ≡ slot_lines 1 l.joint.slots some (places_in l.all)
