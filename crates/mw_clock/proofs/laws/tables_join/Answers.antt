use Rattle.mw_clock.proofs.TablesJoined.{tables_join}
use Rattle.mw_clock.proofs.laws.tables_join.Goals as goal

pub returns : goal.returns
returns c = tables_join
