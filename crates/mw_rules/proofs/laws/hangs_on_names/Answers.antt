use Rattle.mw_rules.proofs.Naming.{hangs_on_names}
use Rattle.mw_rules.proofs.laws.hangs_on_names.Goals as goal

pub returns : goal.returns
returns c = hangs_on_names
