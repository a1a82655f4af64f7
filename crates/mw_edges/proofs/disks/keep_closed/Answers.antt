use Rattle.std.proofs.Common.{◌≡◌, false, Some, arith}
use Rattle.mw_edges.specs.Places.{place_in}
use Rattle.mw_edges.proofs.KeptDisks.{open_within}
use Rattle.mw_edges.proofs.Replaced.{changed}
use Rattle.mw_edges.proofs.disks.keep_closed.Goals as goal

pub index_mut-requires : goal.index_mut-requires
index_mut-requires c =
    let here : c.place_of-at.result ≡ place_in c.args.disks.now.items c.args.name.now = cc in
    let within = open_within c.args.disks.now.items c.args.name.now c.requires in
    omega arith

pub returns : goal.returns
returns c =
    let here : c.place_of-at.result ≡ place_in c.args.disks.now.items c.args.name.now = cc in
    let within = open_within c.args.disks.now.items c.args.name.now c.requires in
    changed c.args.disks.now.items c.args.name.now c.index_mut.result.now (record { opened = false; closed = Some c.args.disk })
    c.place_of-at.result here (omega arith) c.index_mut.ensures.value
