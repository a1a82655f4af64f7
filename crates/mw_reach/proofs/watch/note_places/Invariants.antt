use Rattle.std.proofs.Common.{take}
use Rattle.mw_reach.specs.Reach.{times_in}
use Rattle.mw_reach.specs.Tables.{IsNoted, shifted, but_at}
use Rattle.mw_reach.proofs.watch.note_places.Given as goal

-- the places so far
abbrev pub invariant-loop-place : goal.invariant-loop-place
invariant-loop-place l = IsNoted l.initial.table l.table l.number (but_at l.start (λ k. times_in k (shifted l.first (take l.place-index l.places))))
