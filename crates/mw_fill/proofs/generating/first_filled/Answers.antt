use Rattle.std.proofs.Common.{ℕ, subst, below_more}
use Rattle.mw_multi.specs.Joint.{IsJoint}
use Rattle.mw_fill.specs.Try.{IsStuck}
use Rattle.mw_fill.proofs.Beaten.{filled_beatable}
use Rattle.mw_fill.proofs.generating.first_filled.Goals as goal

pub loop-stream-preserved : goal.loop-stream-preserved
loop-stream-preserved g c =
    let here : (slot : ℕ) × (item : ℕ) × IsStuck c.args.joint.now c.args.seed c.loop-stream.stream slot item =
    (c.in-Err-Stuck.field-0-0, c.in-Err-Stuck.field-0-1, rw c.in-Err-Stuck.field-0-is at c.in-Err-Stuck.ensures.answer) in
    record {
      stuck = below_more (λ stream. (slot : ℕ) × (item : ℕ) × IsStuck c.args.joint.now c.args.seed stream slot item) c.loop-stream.stream c.loop-stream.invariant.stuck here;
      made = c.in-Err-Stuck.ensures.kept;
    }

pub returns-in-Ok-clause-beatable : goal.returns-in-Ok-clause-beatable
returns-in-Ok-clause-beatable g c = λ table placed.
    let joint = c.args.joint.now in
    filled_beatable joint (subst IsJoint c.joint.view_is c.joint.invariant) c.args.seed c.loop-stream.stream c.in-Ok.placement c.requires.tried.nothing c.in-Ok.ensures.answer table placed
