use Rattle.std.proofs.Common.{◌≡◌, ◌≤◌, ◌-◌, vec_len}
use Rattle.std.specs.Io.KnownBytes.{Consumes}
use Rattle.mw_play.proofs.input.read_input.Given as goal

-- what was taken so far
abbrev pub invariant-loop-text : goal.invariant-loop-text
invariant-loop-text g l =
    Consumes (g.S.Source.left l.fn.input) (g.S.Source.left l.input) l.text.items × (vec_len l.text ≤ 65537) × (vec_len l.chunk ≡ 4096) × (g.S.Source.faults l.fn.input ≤ g.S.Source.faults l.input)

abbrev pub decreases-loop-text : goal.decreases-loop-text
decreases-loop-text g l = 65537 - vec_len l.text
