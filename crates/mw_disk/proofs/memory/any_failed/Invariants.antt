use Rattle.std.proofs.Common.{◌≡◌, drop}
use Rattle.mw_disk.specs.Calls.{fault_count}
use Rattle.mw_disk.proofs.memory.any_failed.Given as goal

-- none of the calls so far was
abbrev pub invariant-loop-made : goal.invariant-loop-made
invariant-loop-made l = fault_count l.calls ≡ fault_count (drop l.made-index l.calls)
