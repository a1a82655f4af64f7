use Rattle.std.proofs.Common.{rules, codes, refl}
use Rattle.mw_json.specs.View.{members_view}
use Rattle.mw_packets_in.specs.Fields.{mask_at}
use Rattle.mw_packets_in.proofs.Kept.{mask_kept}
use Rattle.mw_packets_in.proofs.connect.connect_update_of.Goals as goal

pub invariant_of-result : goal.invariant_of-result
invariant_of-result c = mask_kept c.in_ok-items_handling.items_handling (members_view c.args.members.now) (c.in_ok-items_handling.ensures mask_at (codes "items_handling") refl (search rules))
