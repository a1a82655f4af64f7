use Rattle.std.proofs.Common.{arith}
use Rattle.mw_script.proofs.Walks.{length_cut}
use Rattle.mw_script.proofs.script.judge_script.Goals as goal

pub slice_bounds-too_long-end : goal.slice_bounds-too_long-end
slice_bounds-too_long-end c = length_cut _ _ (omega arith)
