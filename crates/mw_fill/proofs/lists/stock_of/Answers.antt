use Rattle.mw_fill.proofs.lists.stock_of.Goals as goal

pub returns-clause-kept : goal.returns-clause-kept
returns-clause-kept c = record {
  asked = c.in_ok-asked.ensures.kept;
  few = c.in_ok-asked.ensures.few;
  few_numbers = c.in_ok-asked.ensures.few_numbers;
  openings = c.in_ok-openings.ensures.kept;
  helping = c.in_ok-helping.ensures.kept;
  filling = c.in_ok-filling.ensures.kept;
}
