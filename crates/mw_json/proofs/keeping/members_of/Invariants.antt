use Rattle.std.proofs.Common.{◌≡◌, List, ◌++◌, map}
use Rattle.mw_json.specs.Entries.{entry_view}
use Rattle.mw_json.specs.View.{member_view}
use Rattle.mw_json.proofs.KeptLoops.{Entry}
use Rattle.mw_json.proofs.keeping.members_of.Given as goal

abbrev pub invariant-loop-name : goal.invariant-loop-name
invariant-loop-name l = (done : List Entry) × (l.fn.found.entries ≡ done ++ l.name-iterator) × (map member_view l.members ≡ map entry_view done)
