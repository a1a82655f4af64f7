use Rattle.mw_numerals.proofs.Undone.{one_way, comes_back, stays_apart}
use Rattle.mw_numerals.proofs.Utf8.{stays_text}
use Rattle.mw_numerals.proofs.laws.marks_are_undone.Goals as goal

pub returns-clause-one_way : goal.returns-clause-one_way
returns-clause-one_way c = one_way

pub returns-clause-back : goal.returns-clause-back
returns-clause-back c = comes_back

pub returns-clause-apart : goal.returns-clause-apart
returns-clause-apart c = stays_apart

pub returns-clause-text : goal.returns-clause-text
returns-clause-text c = stays_text
