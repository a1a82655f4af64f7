use Rattle.std.proofs.Common.{◌≡◌, ℤ, take, drop, []}
use Rattle.std.specs.Ordering.{int_eq}
use Rattle.std.specs.HashSet as hashed
use Rattle.mw_multidata.specs.Names.{has_id, ids_differ}
use Rattle.mw_multidata.proofs.catalog.distinct_ids.Given as goal

abbrev pub invariant-loop-named : goal.invariant-loop-named
invariant-loop-named l = record {
  left : ids_differ (take l.named-index l.names) (drop l.named-index l.names) ≡ ids_differ [] l.names;
  seen : (q : ℤ) → hashed.contains int_eq l.seen q ≡ has_id (take l.named-index l.names) q;
}
