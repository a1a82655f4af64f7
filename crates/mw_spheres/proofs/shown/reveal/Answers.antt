use Rattle.std.proofs.Common.{length, sym, ap, ◌∙◌, subst, arith}
use Rattle.mw_multi.specs.Bags.{start_count}
use Rattle.mw_multi.specs.Joint.{IsJoint}
use Rattle.mw_multi.proofs.Counts.{start_bound}
use Rattle.mw_reach.specs.Counts.{outside}
use Rattle.mw_reach.specs.GoingOn.{HasMore}
use Rattle.mw_reach.specs.Reached.{IsPlacedFor, flags_in, places_in}
use Rattle.mw_reach.proofs.Found.{found-le}
use Rattle.mw_spheres.specs.Thinning.{HasFewer}
use Rattle.mw_spheres.proofs.Only.{only-fits, only-fewer, only-length}
use Rattle.mw_spheres.proofs.Revealing.{shown_after, table_after, fewer_numbers}
use Rattle.mw_spheres.proofs.shown.reveal.Goals as goal

pub put_shown-requires-clause-places : goal.put_shown-requires-clause-places
put_shown-requires-clause-places c = λ k d h. omega (arith, c.requires.add k d h, ap length c.requires.table, only-length c.args.shown.now c.args.full.now)

pub put_shown-requires-clause-sizes : goal.put_shown-requires-clause-sizes
put_shown-requires-clause-sizes c =
    let long = ap length c.requires.table ∙ only-length c.args.shown.now c.args.full.now in
    (omega arith, omega (arith, c.requires.sizes.1))

pub put_shown-requires-clause-fewer : goal.put_shown-requires-clause-fewer
put_shown-requires-clause-fewer c = subst (λ t. HasFewer t c.args.full.now) (sym c.requires.table) (only-fewer c.args.shown.now c.args.full.now)

pub go_on-requires-clause-placed : goal.go_on-requires-clause-placed
go_on-requires-clause-placed c =
    let a = c.args in
    let joint = a.joint.now in
    let last = c.show_none.new.shown in
    let shown = shown_after a.kept.now a.shown.now c.show.new.shown last a.add.now a.out.now c.requires.shown c.show.ensures c.show_none.ensures in
    let table = table_after a.kept.now a.shown.now last a.add.now a.out.now a.full.now a.table.now c.put_shown.new.table c.requires.shown shown c.requires.table c.put_shown.ensures.size c.in_ok-more.ensures.entries in
    subst (IsPlacedFor joint) (sym table) (only-fits joint last a.full.now c.requires.full)

pub go_on-requires-clause-room : goal.go_on-requires-clause-room
go_on-requires-clause-room c = λ i.
    let a = c.args in
    let joint = a.joint.now in
    let last = c.show_none.new.shown in
    let shown = shown_after a.kept.now a.shown.now c.show.new.shown last a.add.now a.out.now c.requires.shown c.show.ensures c.show_none.ensures in
    let table = table_after a.kept.now a.shown.now last a.add.now a.out.now a.full.now a.table.now c.put_shown.new.table c.requires.shown shown c.requires.table c.put_shown.ensures.size c.in_ok-more.ensures.entries in
    let kept : IsJoint joint = subst IsJoint c.joint.view_is c.joint.invariant in
    let start = start_count joint.slots in
    let more : HasMore start start a.table.now c.put_shown.new.table (places_in a.reached.now) c.as_slice.result.now = rw c.as_slice.ensures (c.in_ok-more.ensures.more start) in
    omega (
      arith,
      c.requires.least.tally i,
      more.counts i,
      start_bound joint.slots i kept.each,
      kept.few,
      found-le 0 c.put_shown.new.table (places_in a.reached.now) i,
      found-le 0 c.put_shown.new.table (outside (flags_in a.reached.now)) i,
      fewer_numbers c.put_shown.new.table a.full.now (ap length table ∙ only-length last a.full.now) c.put_shown.ensures.fewer,
      c.requires.few,
    )

pub returns-clause-table : goal.returns-clause-table
returns-clause-table c =
    let a = c.args in
    let joint = a.joint.now in
    let last = c.show_none.new.shown in
    let shown = shown_after a.kept.now a.shown.now c.show.new.shown last a.add.now a.out.now c.requires.shown c.show.ensures c.show_none.ensures in
    let table = table_after a.kept.now a.shown.now last a.add.now a.out.now a.full.now a.table.now c.put_shown.new.table c.requires.shown shown c.requires.table c.put_shown.ensures.size c.in_ok-more.ensures.entries in
    table

pub returns-clause-least : goal.returns-clause-least
returns-clause-least c =
    let a = c.args in
    let start = start_count a.joint.now.slots in
    let more : HasMore start start a.table.now c.put_shown.new.table (places_in a.reached.now) c.as_slice.result.now = rw c.as_slice.ensures (c.in_ok-more.ensures.more start) in
    c.go_on.ensures.least start start a.table.now c.requires.least more
