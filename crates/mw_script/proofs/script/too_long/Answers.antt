use Rattle.std.proofs.Common.{rules, ◌<◌, length, arith, sym, ◌∙◌}
use Rattle.mw_script.proofs.Walks.{after_shorter}
use Rattle.mw_script.proofs.Steps.{too_long_here, too_long_later, too_long_next}
use Rattle.mw_script.proofs.script.too_long.Goals as goal

pub returns-then-not-is_line : goal.returns-then-not-is_line
returns-then-not-is_line c =
    let l = c.loop-line in
    let s = c.in-Some in
    sym (too_long_here l.number l.rest.now s.line.now s.ensures.0 s.ensures.1 (grind arith)) ∙ l.invariant.same

pub loop-line-preserved : goal.loop-line-preserved
loop-line-preserved c =
    let l = c.loop-line in
    let s = c.in-Some in
    let some : 0 < length l.rest.now = grind (arith, s.ensures.0) in
    let after = after_shorter l.rest.now some in
    record {
      same = too_long_later l.number l.rest.now s.line.now s.others.now s.ensures.0 s.ensures.1 s.ensures.2 (grind arith) ∙ l.invariant.same;
      count = grind (arith, after, s.ensures.2);
    }

pub returns : goal.returns
returns c = sym (too_long_next c.loop-line.number c.loop-line.rest.now (search rules)) ∙ c.loop-line.invariant.same
