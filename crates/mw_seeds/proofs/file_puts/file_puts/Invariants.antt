use Rattle.std.proofs.Common.{◌≡◌, take}
use Rattle.mw_multi.specs.Numbered.{each_numbered}
use Rattle.mw_seeds.specs.FilePuts.{slot_puts}
use Rattle.mw_seeds.proofs.file_puts.file_puts.Given as goal

abbrev pub invariant-loop-index : goal.invariant-loop-index
invariant-loop-index l = l.puts ≡ each_numbered (slot_puts l.catalogs l.held) 1 (take l.index l.slot-items)
