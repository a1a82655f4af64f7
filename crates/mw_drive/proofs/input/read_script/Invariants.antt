use Rattle.std.proofs.Common.{◌≡◌, ◌≤◌, ◌-◌, vec_len}
use Rattle.std.specs.Io.KnownBytes.{Consumes}
use Rattle.mw_drive.proofs.input.read_script.Given as goal

-- what was taken so far
abbrev pub invariant-loop-script : goal.invariant-loop-script
invariant-loop-script g l =
    Consumes (g.S.Source.left l.fn.input) (g.S.Source.left l.input) l.script.items × (vec_len l.script ≤ 67108865) × (vec_len l.chunk ≡ 65536) × (g.S.Source.faults l.fn.input ≤ g.S.Source.faults l.input)

abbrev pub decreases-loop-script : goal.decreases-loop-script
decreases-loop-script g l = 67108865 - vec_len l.script
