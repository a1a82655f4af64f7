use Rattle.std.proofs.Common.{arith}
use Rattle.std.proofs.lemmas.Grind.{common_steps}
use Rattle.mw_multidata.proofs.Ids.{has_id_push}
use Rattle.mw_multidata.proofs.catalog.distinct_ids.Goals as goal

pub loop-named-preserved : goal.loop-named-preserved
loop-named-preserved c =
    let known = c.loop-named.invariant.seen c.named-item.result.id in
    let added = c.in_ok-note.ensures.added in
    record {
      left = grind (arith, common_steps);
      seen = λ q. grind (arith, common_steps, has_id_push, c.loop-named.invariant.seen q, c.in_ok-note.ensures.seen q);
    }
