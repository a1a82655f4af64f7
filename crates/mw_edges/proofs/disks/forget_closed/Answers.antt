use Rattle.std.proofs.Common.{◌≡◌, arith}
use Rattle.mw_edges.specs.Places.{place_in}
use Rattle.mw_edges.proofs.KeptDisks.{written_kept, none_written}
use Rattle.mw_edges.proofs.disks.forget_closed.Goals as goal

pub returns-then-at-len : goal.returns-then-at-len
returns-then-at-len c =
    let here : c.place_of-at.result ≡ place_in c.args.disks.now.items c.args.name.now = cc in
    written_kept c.args.disks.now.items c.args.name.now c.place_of-at.result here c.index_mut.result.now (omega arith) c.index_mut.ensures.value

pub returns-else-at-len : goal.returns-else-at-len
returns-else-at-len c =
    let here : c.place_of-at.result ≡ place_in c.args.disks.now.items c.args.name.now = cc in
    none_written c.args.disks.now.items c.args.name.now c.place_of-at.result here (omega arith)
