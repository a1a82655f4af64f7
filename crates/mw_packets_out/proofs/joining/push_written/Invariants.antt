use Rattle.std.proofs.Common.{◌≡◌, ◌++◌, map, take}
use Rattle.std.specs.Prelude.{string_bytes}
use Rattle.mw_packets_out.specs.Joined.{joined}
use Rattle.mw_packets_out.proofs.joining.push_written.Given as goal

abbrev pub invariant-loop-i : goal.invariant-loop-i
invariant-loop-i l = string_bytes l.out ≡ string_bytes l.initial.out ++ joined l.after (map (λ t. t.now) (take l.i l.written))
