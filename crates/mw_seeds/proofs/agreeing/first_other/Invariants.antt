use Rattle.std.proofs.Common.{◌≡◌, ◌≤◌, length, drop}
use Rattle.mw_seeds.specs.Keys.{first_other_key}
use Rattle.mw_seeds.proofs.agreeing.first_other.Given as goal

-- each of the entries so far agrees
abbrev pub invariant-loop-index : goal.invariant-loop-index
invariant-loop-index l = record {
  within : l.index ≤ length l.held;
  same : first_other_key l.catalogs l.slots l.many (drop l.index l.keys) (drop l.index l.held) ≡ first_other_key l.catalogs l.slots l.many l.keys l.held;
}
