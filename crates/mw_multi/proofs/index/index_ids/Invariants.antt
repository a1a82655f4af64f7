use Rattle.std.proofs.Common.{◌≡◌, ℤ, take, map}
use Rattle.std.specs.Ordering.{int_eq}
use Rattle.std.specs.HashMap as hash
use Rattle.mw_multi.specs.Indexes.{index_of_id}
use Rattle.mw_multi.proofs.index.index_ids.Given as goal

abbrev pub invariant-loop-i : goal.invariant-loop-i
invariant-loop-i g l = (q : ℤ) → hash.get int_eq l.index q ≡ index_of_id (map g.T.HasId.id_of (take l.i l.table)) q
