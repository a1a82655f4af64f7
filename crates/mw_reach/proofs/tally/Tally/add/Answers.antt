use Rattle.std.proofs.Common.{arith, ap}
use Rattle.mw_reach.specs.Reach.{times_in}
use Rattle.mw_reach.proofs.Found.{found_outside}
use Rattle.mw_reach.proofs.tally.Tally.add.Goals as goal

pub count-requires-clause-room : goal.count-requires-clause-room
count-requires-clause-room c i =
    omega (arith, ap (times_in i) c.at.ensures, c.requires.room i, found_outside c.args.self.now.done.items c.args.place c.args.placed.now i c.requires.place c.requires.new)
