use Rattle.std.proofs.Common.{◌≡◌, ℕ, List, take}
use Rattle.std.specs.Prelude.{bytes_eq}
use Rattle.std.specs.HashMap as hashed
use Rattle.mw_multi.specs.Labels.{index_of}
use Rattle.mw_multi.proofs.labels.places_of.Given as goal

abbrev pub invariant-loop-i : goal.invariant-loop-i
invariant-loop-i l = (q : List ℕ) → hashed.get_by (λ k. bytes_eq q k.now) l.places ≡ index_of (take l.i l.labels) q
