use Rattle.std.proofs.Common.{List, ap, subst}
use Rattle.mw_lock.specs.History.{events}
use Rattle.mw_lock.specs.Passes.{IsWhole}
use Rattle.mw_lock.specs.declared.view.Entry.{Entry}
use Rattle.mw_keep.specs.Standing.{HasLived}
use Rattle.mw_keep.specs.declared.call.Call.{Call}
use Rattle.mw_keep.specs.declared.reply.Reply.{Reply}
use Rattle.mw_session.specs.Passes.{RoomPass}
use Rattle.mw_session.proofs.room.close_all.Goals as goal

pub returns-in-Ok-clause-stands : goal.returns-in-Ok-clause-stands
returns-in-Ok-clause-stands g c =
    subst (λ (es : List (Entry Call Reply)). HasLived g.D.Disk.may_leave g.D.Disk.told g.D.Disk.faults c.in-Ok.room (events es))
    (ap (λ (z : RoomPass _). z.seen) c.loop.invariant.1) c.in-Ok.ensures.value.0

pub returns-in-Ok-clause-whole : goal.returns-in-Ok-clause-whole
returns-in-Ok-clause-whole g c = subst (λ (z : RoomPass _). IsWhole z) c.loop.invariant.1 c.in-Ok.ensures.whole
