use Rattle.std.proofs.Common.{◌≡◌, arith}
use Rattle.mw_edges.specs.Places.{place_in}
use Rattle.std.proofs.lemmas.Grind.{common_steps}
use Rattle.mw_edges.proofs.KeptDisks.{opened_again, opened_first}
use Rattle.mw_edges.proofs.disks.keep_open.Goals as goal

pub returns-then-at-len-clause-ok : goal.returns-then-at-len-clause-ok
returns-then-at-len-clause-ok c =
    let here : c.place_of-at.result ≡ place_in c.args.disks.now.items c.args.name.now = cc in
    opened_again c.args.disks.now.items c.args.name.now c.place_of-at.result here c.index_mut.result.now (omega arith) c.index_mut.ensures.value

pub returns-clause-ok : goal.returns-clause-ok
returns-clause-ok c =
    let here : c.place_of-at.result ≡ place_in c.args.disks.now.items c.args.name.now = cc in
    let first = opened_first c.args.disks.now.items c.args.name.now c.place_of-at.result here (omega arith) in
    grind (arith, common_steps, first)
