use Rattle.std.proofs.Common.{◌≡◌, drop}
use Rattle.mw_multi.specs.Files.{is_among}
use Rattle.mw_multi.proofs.files.has_file.Given as goal

abbrev pub invariant-loop-file : goal.invariant-loop-file
invariant-loop-file l = is_among (drop l.file-index l.files) l.name ≡ is_among l.files l.name
