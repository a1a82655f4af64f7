use Rattle.std.proofs.Common.{◌≡◌, ◌++◌, flat_map, replicate, Some}
use Rattle.mw_seeds.specs.SeedFile.{start_of}
use Rattle.mw_seeds.proofs.seed_slots.push_copies.Given as goal

abbrev pub invariant-loop : goal.invariant-loop
invariant-loop l = l.start ≡ l.fn.start ++ flat_map start_of (replicate l.counter (Some l.item))
