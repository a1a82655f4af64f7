use Rattle.std.proofs.Common.{◌≡◌, drop}
use Rattle.std.specs.Prelude.{bytes_eq}
use Rattle.std.specs.List.{position_from}
use Rattle.mw_multi.proofs.files.find_file.Given as goal

abbrev pub invariant-loop-i : goal.invariant-loop-i
invariant-loop-i l = position_from (bytes_eq l.name) l.i (drop l.i l.files) ≡ position_from (bytes_eq l.name) 0 l.files
