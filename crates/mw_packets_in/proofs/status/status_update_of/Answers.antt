use Rattle.std.proofs.Common.{rules, codes, refl}
use Rattle.mw_json.specs.View.{members_view}
use Rattle.mw_packets_in.specs.Fields.{client_status_at}
use Rattle.mw_packets_in.proofs.Kept.{client_status_kept}
use Rattle.mw_packets_in.proofs.status.status_update_of.Goals as goal

pub invariant_of-result : goal.invariant_of-result
invariant_of-result c = client_status_kept c.in_ok-status.status (members_view c.args.members.now) (c.in_ok-status.ensures client_status_at (codes "status") refl (search rules))
