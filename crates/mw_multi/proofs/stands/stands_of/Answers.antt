use Rattle.std.proofs.Common.{◌-◌, None, ap, length, length-set, slice_index_or, ◌∙◌, arith}
use Rattle.mw_multi.proofs.WhatStands.{put_fits, one_more_stands}
use Rattle.mw_multi.proofs.stands.stands_of.Goals as goal

pub note-requires : goal.note-requires
note-requires c =
    let puts = c.as_slice-puts.result.now in
    let fits = put_fits c.args.joint.now puts c.args.placement.now (length puts - 1 - c.loop-done.done) c.index-puts-puts.result c.requires.each c.as_slice-puts.ensures
    (omega (arith, c.loop-done-test.true)) c.index-puts-puts.is in
    omega (arith, fits, c.loop-done.invariant.0)

pub loop-done-preserved : goal.loop-done-preserved
loop-done-preserved c =
    let puts = c.as_slice-puts.result.now in
    let l = c.loop-done in
    let put = c.index-puts-puts.result in
    let fits = put_fits c.args.joint.now puts c.args.placement.now (length puts - 1 - l.done) put c.requires.each c.as_slice-puts.ensures (omega (arith, c.loop-done-test.true)) c.index-puts-puts.is in (
      ap length c.note.ensures ∙ length-set l.stands.items put.place _ ∙ l.invariant.0,
      λ q.
          ap (λ s. slice_index_or s q None) c.note.ensures
          ∙ one_more_stands l.stands.items puts c.args.placement.now l.done put c.as_slice-puts.ensures c.loop-done-test.true c.index-puts-puts.is (omega (arith, fits, l.invariant.0)) l.invariant.1 q,
    )
