use Rattle.std.proofs.Common.{◌∙◌, ap}
use Rattle.mw_json.specs.Entries.{entries_view}
use Rattle.mw_json.proofs.KeptLoops.{entries-insert}
use Rattle.mw_json.proofs.keeping.put.Goals as goal

pub returns-in-Ok : goal.returns-in-Ok
returns-in-Ok c = ap entries_view c.in-Ok.ensures.entries ∙ entries-insert c.args.found.now.entries c.args.name c.args.value
