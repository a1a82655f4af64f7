use Rattle.std.proofs.Common.{rules, codes, refl}
use Rattle.mw_json.specs.View.{members_view}
use Rattle.mw_client.specs.News.{net_items_at}
use Rattle.mw_client.proofs.Few.{few_kept}
use Rattle.mw_client.proofs.hearing.received_of.Goals as goal

pub invariant_of-result : goal.invariant_of-result
invariant_of-result c = record {
  few = few_kept c.in_ok-items.items (members_view c.args.members.now) (c.in_ok-items.ensures net_items_at (codes "items") refl (search rules));
}
