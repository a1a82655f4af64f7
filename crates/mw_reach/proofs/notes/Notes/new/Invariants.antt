use Rattle.std.proofs.Common.{◌≡◌, [], replicate}
use Rattle.mw_reach.proofs.notes.Notes.new.Given as goal

abbrev pub invariant-loop : goal.invariant-loop
invariant-loop l = l.entries.items ≡ replicate l.counter []
