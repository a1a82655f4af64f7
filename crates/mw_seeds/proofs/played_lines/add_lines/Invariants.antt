use Rattle.std.proofs.Common.{◌≡◌, ◌++◌, ◌+◌, None, drop, slice_index_or, string_bytes}
use Rattle.mw_seeds.specs.Played.{played_lines}
use Rattle.mw_seeds.proofs.played_lines.add_lines.Given as goal

-- the lines so far, and those of the spheres that are left
abbrev pub invariant-loop-index : goal.invariant-loop-index
invariant-loop-index l =
    string_bytes l.out ++ played_lines l.joint (λ p. slice_index_or l.stands p None) (l.index + 1) (drop l.index l.spheres)
    ≡ string_bytes l.fn.out ++ played_lines l.joint (λ p. slice_index_or l.stands p None) 1 l.spheres
