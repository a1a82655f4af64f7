use Rattle.std.proofs.Common.{◌<◌, length, arith, sym, ◌∙◌}
use Rattle.mw_script.proofs.Walks.{after_shorter}
use Rattle.mw_script.proofs.Steps.{refused_here, refused_later}
use Rattle.mw_script.proofs.script.first_refused.Goals as goal

pub returns-then-not-is_line : goal.returns-then-not-is_line
returns-then-not-is_line c =
    let l = c.loop-rest in
    let s = c.split_line in
    sym (refused_here l.number l.rest.now s.result.0.now (grind arith) s.ensures.line (grind arith)) ∙ l.invariant.same

pub loop-rest-preserved : goal.loop-rest-preserved
loop-rest-preserved c =
    let l = c.loop-rest in
    let s = c.split_line in
    let some : 0 < length l.rest.now = grind arith in
    let after = after_shorter l.rest.now some in
    record {
      same = refused_later l.number l.rest.now s.result.0.now s.result.1.now some s.ensures.line s.ensures.rest (grind arith) ∙ l.invariant.same;
      count = grind (arith, after, s.ensures.rest);
    }
