use Rattle.std.proofs.Common.{◌≡◌, drop}
use Rattle.mw_edges.specs.Files.{entry_of}
use Rattle.mw_edges.proofs.files.find_entry.Given as goal

-- it is the first of those that are left
abbrev pub invariant-loop-entry : goal.invariant-loop-entry
invariant-loop-entry g l = entry_of l.entries l.name ≡ entry_of (drop l.entry-index l.entries) l.name
