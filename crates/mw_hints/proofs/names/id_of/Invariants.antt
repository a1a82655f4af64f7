use Rattle.std.proofs.Common.{◌≡◌, drop}
use Rattle.mw_protocol.specs.Hints.{id_named}
use Rattle.mw_hints.proofs.names.id_of.Given as goal

abbrev pub invariant-loop-entry : goal.invariant-loop-entry
invariant-loop-entry l = id_named l.name l.ids ≡ id_named l.name (drop l.entry-index l.ids)
