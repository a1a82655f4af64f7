use Rattle.std.proofs.Common.{◌+◌, ◌-◌, ◌*◌, length}
use Rattle.mw_fill.proofs.assumed.+place_range.Given as goal

abbrev pub decreases-place_first : goal.decreases-place_first
decreases-place_first g l = 2 * (l.middle - length l.laying.now.laid) + 1

abbrev pub decreases-place_second : goal.decreases-place_second
decreases-place_second g l = 2 * (l.to - length l.laying.now.laid) + 1

abbrev pub decreases-place_range : goal.decreases-place_range
decreases-place_range g l = 2 * (l.to - length l.laying.now.laid)
