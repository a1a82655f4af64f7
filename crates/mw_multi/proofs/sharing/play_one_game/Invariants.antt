use Rattle.std.proofs.Common.{◌≡◌, take, true}
use Rattle.std.specs.List.{list_all}
use Rattle.mw_multi.specs.JointOf.{member_plays}
use Rattle.mw_multi.proofs.sharing.play_one_game.Given as goal

abbrev pub invariant-loop-number : goal.invariant-loop-number
invariant-loop-number l = list_all (member_plays l.slots l.game) (take l.number-index l.members) ≡ true
