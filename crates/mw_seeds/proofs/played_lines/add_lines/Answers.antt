use Rattle.std.proofs.Common.{◌++◌, None, slice_index_or, string_bytes}
use Rattle.mw_seeds.specs.Played.{played_lines}
use Rattle.mw_seeds.proofs.PlayedLines.{lines_more}
use Rattle.mw_seeds.proofs.played_lines.add_lines.Goals as goal

pub loop-index-preserved : goal.loop-index-preserved
loop-index-preserved c =
    let a = c.args in
    let l = c.loop-index in
    lines_more a.joint.now (λ p. slice_index_or a.stands.now p None) (string_bytes l.out) (string_bytes c.add_sphere.new.out)
    (string_bytes a.out.now ++ played_lines a.joint.now (λ p. slice_index_or a.stands.now p None) 1 a.spheres.now) l.index a.spheres.now c.index-spheres-index.result c.as_slice.result.now
    c.loop-index-test.true c.index-spheres-index.is c.as_slice.ensures c.in_ok-add_sphere.ensures l.invariant
