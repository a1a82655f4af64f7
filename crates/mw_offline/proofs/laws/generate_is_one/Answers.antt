use Rattle.mw_offline.proofs.OneRun.{generate_is_one}
use Rattle.mw_offline.proofs.laws.generate_is_one.Goals as goal

pub returns : goal.returns
returns c = generate_is_one
