use Rattle.std.proofs.Common.{◌≡◌, ◌++◌, take}
use Rattle.mw_multi.specs.Numbered.{each_numbered}
use Rattle.mw_seeds.specs.FilePuts.{location_put}
use Rattle.mw_seeds.proofs.file_puts.push_slot.Given as goal

abbrev pub invariant-loop-index : goal.invariant-loop-index
invariant-loop-index l = l.puts ≡ l.fn.puts ++ each_numbered (location_put l.catalogs l.held l.number l.slot) 0 (take l.index l.location-items)
