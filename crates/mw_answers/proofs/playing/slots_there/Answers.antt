use Rattle.std.proofs.Common.{◌∙◌}
use Rattle.mw_answers.proofs.Present.{there_next}
use Rattle.mw_answers.proofs.playing.slots_there.Goals as goal

pub loop-of-preserved : goal.loop-of-preserved
loop-of-preserved c = λ n.
    there_next c.args.team n c.loop-of.of-index c.args.members.now c.loop-of-item.result _ _ c.eq.result c.from.result c.loop-of-test.true c.loop-of-item.is
    c.eq.ensures (c.from.ensures ∙ c.get.ensures.value) (c.loop-of.invariant n) (c.in_ok-note.ensures n)
