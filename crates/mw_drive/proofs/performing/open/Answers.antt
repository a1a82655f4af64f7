use Rattle.std.proofs.Common.{◌∷◌, [], ◌∙◌, refl, sym}
use Rattle.mw_keep.specs.Views.{reply_view}
use Rattle.mw_protocol.specs.Lives.{happens}
use Rattle.mw_protocol.specs.Rooms.{opened}
use Rattle.mw_script.specs.Commands.{opens}
use Rattle.mw_drive.specs.Drive.{meet_overrun}
use Rattle.mw_drive.proofs.Commanding.{performed_by, one_done, no_put}
use Rattle.mw_drive.proofs.performing.open.Goals as goal

pub returns-clause-ok : goal.returns-clause-ok
returns-clause-ok g c digest seed life keeps going =
    let call = happens (opened c.args.time) in
    performed_by g.D.Disk.may_leave g.D.Disk.faults digest seed life (opens c.args.time) refl (call ∷ []) (meet_overrun life (call ∷ [])) _ c.act.new.kept refl
    (one_done g.D.Disk.may_leave digest seed life call (reply_view c.in_ok-act.field-0) c.act.new.kept (c.in_ok-act.ensures.ok digest seed life keeps going))
    (c.new.ensures.bytes ∙ sym (no_put (meet_overrun life (call ∷ []))))
