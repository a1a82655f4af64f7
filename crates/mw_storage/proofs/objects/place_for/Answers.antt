use Rattle.std.proofs.Common.{nat_cmp, sym, ap, ◌∙◌}
use Rattle.std.specs.Cmp.Lexicographic.{slice_cmp}
use Rattle.mw_storage.proofs.Named.{not_before}
use Rattle.mw_storage.proofs.objects.place_for.Goals as goal

pub loop-i-preserved : goal.loop-i-preserved
loop-i-preserved c = λ j.
    let name = c.args.name.now in
    c.loop-i.invariant j
    ∙ not_before name j c.args.members.now c.loop-i.i c.index-members-i.result c.loop-i-test.true c.index-members-i.is
    (ap (slice_cmp nat_cmp name) (sym c.as_str.ensures) ∙ sym c.in-Greater.ensures)
