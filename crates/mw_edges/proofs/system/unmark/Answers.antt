use Rattle.std.proofs.Common.{◌≡◌, false, arith}
use Rattle.mw_edges.specs.Places.{place_in}
use Rattle.mw_edges.proofs.Replaced.{changed, marked_within}
use Rattle.mw_edges.proofs.system.unmark.Goals as goal

pub index_mut-requires : goal.index_mut-requires
index_mut-requires c =
    let here : c.place_of-at.result ≡ place_in c.args.marks.now.items c.args.name.now = cc in
    let within = marked_within c.args.marks.now.items c.args.name.now c.requires in
    omega arith

pub returns : goal.returns
returns c =
    let here : c.place_of-at.result ≡ place_in c.args.marks.now.items c.args.name.now = cc in
    let within = marked_within c.args.marks.now.items c.args.name.now c.requires in
    changed c.args.marks.now.items c.args.name.now c.index_mut.result.now false c.place_of-at.result here (omega arith) c.index_mut.ensures.value
