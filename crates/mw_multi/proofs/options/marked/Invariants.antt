use Rattle.std.proofs.Common.{◌≡◌, take}
use Rattle.mw_multi.specs.Labels.{flags_of}
use Rattle.mw_multi.proofs.options.marked.Given as goal

abbrev pub invariant-loop-next : goal.invariant-loop-next
invariant-loop-next l = l.flags.items ≡ flags_of l.labels (take l.next l.names)
