use Rattle.mw_laws.proofs.Setting.{refused_sets_change_nothing}
use Rattle.mw_laws.proofs.laws.refused_sets_change_nothing.Goals as goal

pub returns : goal.returns
returns c = refused_sets_change_nothing
