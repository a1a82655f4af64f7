use Rattle.std.proofs.Common.{rules, codes, refl}
use Rattle.mw_json.specs.View.{members_view}
use Rattle.mw_packets_in.specs.Fields.{wholes_at}
use Rattle.mw_packets_in.proofs.Ranges.{wholes_kept}
use Rattle.mw_packets_in.proofs.locations.checks_of.Goals as goal

pub invariant_of-result : goal.invariant_of-result
invariant_of-result c = wholes_kept c.in_ok-locations.locations (members_view c.args.members.now) c.requires (c.in_ok-locations.ensures wholes_at (codes "locations") refl (search rules))
