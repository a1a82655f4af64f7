use Rattle.std.proofs.Common.{◌≡◌}
use Rattle.mw_session.specs.Passes.{RoomPass}
use Rattle.mw_session.proofs.room.close_all.Given as goal

abbrev pub invariant-loop : goal.invariant-loop
invariant-loop g l = (l.first.lock ≡ l.lock) × (let z : RoomPass _ = record l.initial.first { counts = l.first.counts } in l.first ≡ z)
