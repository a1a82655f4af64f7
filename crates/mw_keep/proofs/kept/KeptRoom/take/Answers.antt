use Rattle.std.proofs.Common.{◌∙◌, refl, sym}
use Rattle.mw_protocol.specs.Lives.{takes}
use Rattle.mw_keep.proofs.Acting.{not_stopped, takes_quietly}
use Rattle.mw_keep.proofs.kept.KeptRoom.take.Goals as goal

pub returns-then-shows_pending-clause-goes : goal.returns-then-shows_pending-clause-goes
returns-then-shows_pending-clause-goes g c digest life keeps accepted =
    c.commit_and_take.ensures.goes digest life keeps (not_stopped life (takes c.args.session) accepted) (sym (c.shows_pending.ensures digest life keeps accepted) ∙ c.if-shows_pending.true)

pub returns-clause-goes : goal.returns-clause-goes
returns-clause-goes g c digest life keeps accepted =
    takes_quietly g.D.Disk.may_leave g.D.Disk.moment g.D.Disk.left_since g.D.Disk.faults g.met.D.Disk.only_now g.met.D.Disk.counts_now digest life c.args.session c.args.self.now _ c.take.result
    (c.take.ensures.given life.room keeps.room) (sym (c.shows_pending.ensures digest life keeps accepted) ∙ c.if-shows_pending.false) keeps (c.take.ensures.left life.room keeps.room) refl refl refl refl refl
