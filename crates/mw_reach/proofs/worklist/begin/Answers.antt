use Rattle.std.proofs.Common.{get_or, map, refl, arith, ◌∙◌}
use Rattle.std.proofs.lemmas.List.{take_all}
use Rattle.mw_reach.specs.Rows.{step_of}
use Rattle.mw_reach.specs.Worklist.{row_at}
use Rattle.mw_reach.proofs.Waking.{one_more_asked, origin_open, step_at-map}
use Rattle.mw_reach.proofs.worklist.begin.Goals as goal

pub loop-number-preserved : goal.loop-number-preserved
loop-number-preserved c =
    let rows = c.args.rows.now in
    let i = c.loop-number.number-index in
    let number = get_or c.args.origins.now i 0 in
    let origin = c.requires.origins i 0 c.loop-number-test.true in
    record {
      listed = c.list_origin.ensures.listed ∙ c.loop-number.invariant.listed;
      queue = c.list_origin.ensures.queue ∙ c.loop-number.invariant.queue;
      space = c.list_origin.ensures.space;
      woken = λ joint bag done.
          let next = c.list_origin.ensures.woken (step_of joint (row_at rows number)) bag done refl (origin_open joint (row_at rows number) bag done origin.1) in
          one_more_asked bag done (map (step_of joint) rows) c.args.origins.now i _ _ _ _ _ _ _ _ _ c.loop-number-test.true (c.loop-number.invariant.woken joint bag done) (rw (step_at-map joint rows number origin.0) next);
    }

pub returns-clause-woken : goal.returns-clause-woken
returns-clause-woken c joint bag done =
    let all = take_all c.loop-number.number-index c.args.origins.now (omega arith) in
    rw all at (c.loop-number.invariant.woken joint bag done)
