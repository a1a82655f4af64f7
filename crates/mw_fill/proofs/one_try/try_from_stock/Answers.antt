use Rattle.mw_fill.proofs.one_try.try_from_stock.Goals as goal

pub place_lists-requires-clause-lists : goal.place_lists-requires-clause-lists
place_lists-requires-clause-lists g c = c.in_ok-lists.ensures.kept c.args.joint.now c.requires.kept
