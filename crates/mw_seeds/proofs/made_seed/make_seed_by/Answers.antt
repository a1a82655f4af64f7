use Rattle.mw_seeds.proofs.MadeFirst.{generates}
use Rattle.mw_seeds.proofs.made_seed.make_seed_by.Goals as goal

pub returns-clause-ok : goal.returns-clause-ok
returns-clause-ok g c =
    let found = c.in_ok-found.found in
    let made = c.in_ok-made_of.ensures in
    generates c.args.joint.now c.args.seed c.args.tries found.stream found.placement _ _ c.in_ok-found.ensures.seed made
