use Rattle.std.proofs.Common.{◌≡◌, ℕ, List, take, map}
use Rattle.std.specs.Prelude.{bytes_eq}
use Rattle.std.specs.HashMap as hash
use Rattle.mw_multi.specs.Indexes.{index_of_name}
use Rattle.mw_multi.proofs.index.index_names.Given as goal

abbrev pub invariant-loop-i : goal.invariant-loop-i
invariant-loop-i g l = (q : List ℕ) → hash.get_by (λ k. bytes_eq q k.now) l.index ≡ index_of_name (map g.T.Named.name_of (take l.i l.table)) q
