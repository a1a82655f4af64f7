use Rattle.std.proofs.Common.{codes}
use Rattle.mw_json.specs.View.{view, members_view}
use Rattle.mw_packets_in.proofs.Passed.{member_read}
use Rattle.mw_packets_in.proofs.operations.operations_field.Goals as goal

pub operations_of-requires : goal.operations_of-requires
operations_of-requires c = member_read (codes "operations") (members_view c.args.members.now) (view c.in_ok-found.found.now) c.requires c.in_ok-found.ensures
