use Rattle.std.proofs.Common.{◌≡◌, ◌++◌, None, flat_map, slice_index_or, string_bytes, take}
use Rattle.mw_seeds.specs.Played.{spot_line}
use Rattle.mw_seeds.proofs.played_lines.add_sphere.Given as goal

abbrev pub invariant-loop-spot : goal.invariant-loop-spot
invariant-loop-spot l = string_bytes l.out ≡ string_bytes l.fn.out ++ flat_map (spot_line l.joint (λ p. slice_index_or l.stands p None) l.number) (take l.spot-index l.sphere)
