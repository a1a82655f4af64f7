use Rattle.std.proofs.Common.{◌∙◌}
use Rattle.mw_rules.specs.Holds.{bag_of}
use Rattle.mw_multi.specs.Bags.{start_count}
use Rattle.mw_multi.specs.Steps.{steps_of}
use Rattle.mw_reach.specs.Reached.{counts_in, places_in}
use Rattle.mw_reach.proofs.Requiring.{lack_by_counts}
use Rattle.mw_reach.proofs.SameLeast.{IsLeast-same}
use Rattle.mw_spheres.proofs.lacking.lack_of.Goals as goal

pub returns-clause-lack : goal.returns-clause-lack
returns-clause-lack c =
    let joint = c.args.joint.now in
    let table = c.args.table.now in
    let start = start_count joint.slots in
    let w = places_in c.reach.new.into in
    record {
      reached = w;
      least = IsLeast-same (steps_of joint) (bag_of c.args.start.now) start table w c.requires.start.counts c.reach.ensures.least;
      is = c.first_lack.ensures ∙ lack_by_counts joint c.args.start.now table w (counts_in c.reach.new.into) start c.requires.start.counts c.reach.ensures.counts;
    }
