use Rattle.std.proofs.Common.{rules}
use Rattle.mw_json.proofs.Valid.{all_valid}
use Rattle.mw_json.proofs.read.read_text.Goals as goal

pub returns-in-Ok-clause-valid : goal.returns-in-Ok-clause-valid
returns-in-Ok-clause-valid c = all_valid c.args.bytes.now 64 c.tree_of.result (search rules)
