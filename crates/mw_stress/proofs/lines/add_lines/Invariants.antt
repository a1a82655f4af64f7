use Rattle.std.proofs.Common.{◌≡◌, ◌++◌, string_bytes}
use Rattle.mw_stress.specs.Lines.{slot_lines}
use Rattle.mw_stress.proofs.lines.add_lines.Given as goal

-- the lines of the slots so far
abbrev pub invariant-loop-before : goal.invariant-loop-before
invariant-loop-before l = string_bytes l.out ≡ string_bytes l.fn.out ++ slot_lines l.taken l.before
