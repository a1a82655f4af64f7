use Rattle.mw_laws.proofs.Viewing.{whole_views_are_owed}
use Rattle.mw_laws.proofs.laws.whole_views_are_owed.Goals as goal

pub returns : goal.returns
returns c = whole_views_are_owed
