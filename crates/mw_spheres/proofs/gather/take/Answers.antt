use Rattle.std.proofs.Common.{ap, arith}
use Rattle.mw_reach.specs.Reach.{times_in}
use Rattle.mw_spheres.proofs.Taking.{room_at, room_taken}
use Rattle.mw_spheres.proofs.gather.take.Goals as goal

pub add_items-requires-clause-room : goal.add_items-requires-clause-room
add_items-requires-clause-room c = λ i.
    let a = c.args in
    omega (arith, room_at a.table.now a.taken.now a.bag.now a.place c.requires.place c.requires.new c.requires.room i, ap (times_in i) c.at.ensures)

pub returns-clause-room : goal.returns-clause-room
returns-clause-room c =
    let a = c.args in
    room_taken a.table.now a.taken.now a.bag.now c.add_items.new.bag a.place c.requires.place c.requires.new c.requires.room c.add_items.ensures.size
    (λ i. omega (arith, c.add_items.ensures.counts i, ap (times_in i) c.at.ensures))
