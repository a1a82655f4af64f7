use Rattle.std.proofs.Common.{◌≡◌, drop}
use Rattle.mw_json.specs.View.{view}
use Rattle.mw_protocol.specs.Storage.{run_from}
use Rattle.mw_storage.proofs.run.run.Given as goal

-- the operations that are left make of it what all make of the first value
abbrev pub invariant-loop-i : goal.invariant-loop-i
invariant-loop-i l = run_from l.i (drop l.i l.operations) (view l.value) ≡ run_from 0 l.operations (view l.initial.value)
