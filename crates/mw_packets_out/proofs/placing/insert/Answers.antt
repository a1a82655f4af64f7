use Rattle.std.proofs.Common.{◌≡◌}
use Rattle.mw_json.specs.View.{view, members_view}
use Rattle.mw_packets_out.specs.Places.{place_in}
use Rattle.mw_packets_out.proofs.Places.{put_there, still_writable}
use Rattle.mw_packets_out.proofs.placing.insert.Goals as goal

pub returns-clause-value : goal.returns-clause-value
returns-clause-value c =
    let here : c.place_of-at.result ≡ place_in c.args.name (members_view c.args.members.now.items) = cc in
    rw c.in_ok-insert.ensures.items (put_there c.args.members.now.items c.named.result c.place_of-at.result c.args.name (view c.args.value) c.named.ensures here)

pub returns-clause-writable : goal.returns-clause-writable
returns-clause-writable c all one =
    rw (returns-clause-value c) (still_writable (members_view c.args.members.now.items) c.args.name (view c.args.value) all one)
