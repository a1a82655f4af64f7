use Rattle.std.proofs.Common.{◌≡◌, ◌<◌, drop, take, length}
use Rattle.std.specs.Prelude.{All, sum_by}
use Rattle.mw_multi.specs.WorldKept.{copies}
use Rattle.mw_multi.specs.PlayersKept.{start_count}
use Rattle.mw_multi.specs.JointOf.{start_option}
use Rattle.mw_multi.proofs.Fronts.{with_front}
use Rattle.mw_multi.proofs.options.start_in.Given as goal

abbrev pub invariant-loop-i : goal.invariant-loop-i
invariant-loop-i l = record {
  items : with_front l.start (start_option l.slot l.labels l.i (drop l.i l.entries)) ≡ start_option l.slot l.labels 0 l.entries;
  within : All (λ s. s.item < length l.labels) l.start;
  together : sum_by copies l.start ≡ sum_by start_count (take l.i l.entries);
}
