use Rattle.std.proofs.Common.{option_map, ap, ◌∙◌}
use Rattle.mw_json.specs.View.{view}
use Rattle.mw_storage.proofs.Entries.{copied_view, value_found}
use Rattle.mw_storage.proofs.keys.find.Goals as goal

pub returns : goal.returns
returns c = copied_view c.get.result ∙ ap (option_map view) c.get.ensures.value ∙ value_found c.args.key.now c.args.kept.now.entries
