use Rattle.std.proofs.Common.{◌≡◌, ◌++◌, suc, length, take}
use Rattle.mw_multi.specs.Numbered.{each_numbered}
use Rattle.mw_fill.specs.Copies.{link_copies}
use Rattle.mw_fill.proofs.copies.push_links.Given as goal

abbrev pub invariant-loop-index : goal.invariant-loop-index
invariant-loop-index l = l.copies ≡ l.fn.copies ++ each_numbered (link_copies l.group l.joint.slots) (suc (length l.joint.slots)) (take l.index l.link-items)
