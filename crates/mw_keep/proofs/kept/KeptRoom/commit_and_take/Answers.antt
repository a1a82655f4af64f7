use Rattle.std.proofs.Common.{refl}
use Rattle.mw_keep.specs.Views.{reply_view}
use Rattle.mw_keep.proofs.Acting.{takes_after, takes_failed}
use Rattle.mw_keep.proofs.kept.KeptRoom.commit_and_take.Goals as goal

pub returns-in-Ok-clause-goes : goal.returns-in-Ok-clause-goes
returns-in-Ok-clause-goes g c digest life keeps running some =
    takes_after g.D.Disk.may_leave g.D.Disk.moment g.D.Disk.left_since g.D.Disk.faults g.met.D.Disk.only_now g.met.D.Disk.counts_now digest life c.args.session c.args.self.now c.commit.new.self _ c.take.result
    some (c.in-Ok.ensures.goes digest life keeps running) (λ stands. (c.take.ensures.given life.room stands, c.take.ensures.left life.room stands)) refl refl refl refl refl

pub returns-in-Err-clause-goes : goal.returns-in-Err-clause-goes
returns-in-Err-clause-goes g c digest life keeps running some =
    takes_failed g.D.Disk.may_leave g.D.Disk.moment g.D.Disk.left_since g.D.Disk.faults g.met.D.Disk.only_now g.met.D.Disk.counts_now digest life c.args.session c.args.self.now c.commit.new.self (reply_view c.in-Err.reply)
    some c.in-Err.ensures.fails (c.in-Err.ensures.goes digest life keeps running)
