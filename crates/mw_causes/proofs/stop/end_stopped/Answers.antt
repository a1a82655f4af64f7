use Rattle.std.proofs.Common.{ℕ, List, sym, subst, ◌∙◌, inl}
use Rattle.mw_edges.specs.Causes.{Tells}
use Rattle.mw_causes.specs.declared.stop.Stop.TheVariants.{Refused}
use Rattle.mw_causes.proofs.stop.end_stopped.Goals as goal

pub returns-in-Ok-clause-ended : goal.returns-in-Ok-clause-ended
returns-in-Ok-clause-ended g c =
    let held = g.E.Sink.held in
    let refusals = g.E.Sink.refusals in
    let before = c.args.err.now in
    let after = c.tell-in-Ok.new.err in
    record {
      named = Refused c.in-Refused.cause;
      is = inl (sym c.in-Refused.is);
      is_status = c.status.ensures.is;
      line = subst (λ (bytes : List ℕ). Tells (held before) (held after) (refusals before) (refusals after) bytes) (c.as_str.ensures.value ∙ c.in-Ok.ensures) c.tell-in-Ok.ensures;
    }
