use Rattle.std.proofs.Common.{string_bytes}
use Rattle.mw_reach.specs.Reached.{places_in}
use Rattle.mw_offline.proofs.Counted.{lines_there}
use Rattle.mw_offline.proofs.reaching.reach_text.Goals as goal

pub returns : goal.returns
returns c =
    lines_there string_bytes c.args.joint.now c.in_ok-start.start (places_in c.reach_with-2.new.into) (places_in c.reach_with-4.new.into) c.lines_of.result
    (c.reach_with-2.ensures.reached _ c.in_ok-starting.ensures) (c.reach_with-4.ensures.reached _ c.in_ok-everything.ensures) c.in_ok-start.ensures c.lines_of.ensures
