use Rattle.std.proofs.Common.{◌≡◌, ◌<◌, ◌^◌, ℕ, [], length, take}
use Rattle.std.specs.Prelude.{sum_by, if◌then◌else◌}
use Rattle.mw_rules.specs.Names.{is_among}
use Rattle.mw_multi.specs.Placement.{numbers_at}
use Rattle.mw_spheres.proofs.shown.take_out.Given as goal

abbrev pub invariant-loop-place : goal.invariant-loop-place
invariant-loop-place l = record {
  size : length l.table ≡ length l.fn.table;
  few : sum_by length l.table < 2 ^ 31;
  entries : (p : ℕ) → numbers_at l.table p ≡ (if is_among (take l.place-index l.places) p then [] else numbers_at l.fn.table p);
}
