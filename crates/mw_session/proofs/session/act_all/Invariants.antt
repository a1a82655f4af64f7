use Rattle.std.proofs.Common.{◌≡◌, map}
use Rattle.std.specs.Vec.Iter.{into_iter_items}
use Rattle.mw_packets_in.specs.View.{inbound_view}
use Rattle.mw_session.specs.Asked.{call_for}
use Rattle.mw_session.proofs.Turns.{ActsFirst}
use Rattle.mw_session.proofs.session.act_all.Given as goal

-- the calls of the elements so far are made
abbrev pub invariant-loop-element : goal.invariant-loop-element
invariant-loop-element g l =
    (l.pass.lock ≡ l.room)
    × ActsFirst (map (call_for l.session) (map inbound_view l.fn.message)) l.fn.pass (map (call_for l.session) (map inbound_view (into_iter_items l.element-iterator))) l.pass
