use Rattle.std.proofs.Common.{◌≡◌, ◌∙◌, ◌++◌, List, map, refl, ap, subst}
use Rattle.mw_protocol.specs.Lives.{happens, records_of}
use Rattle.mw_protocol.specs.Records as plain
use Rattle.mw_protocol.specs.Spelled.{records_bytes}
use Rattle.mw_records.specs.Records.{record_view}
use Rattle.mw_room.specs.Events.{event_view}
use Rattle.mw_keep.specs.Holds.{AreRecords}
use Rattle.mw_keep.proofs.Acting.{goes_lacking, goes_done}
use Rattle.mw_keep.proofs.kept.KeptRoom.happen.Goals as goal

pub returns-in_default-clause-goes : goal.returns-in_default-clause-goes
returns-in_default-clause-goes g c digest life keeps running =
    goes_lacking g.D.Disk.may_leave g.D.Disk.moment g.D.Disk.left_since g.D.Disk.faults g.met.D.Disk.only_now g.met.D.Disk.counts_now
    digest life (event_view c.args.event.now) c.args.self.now keeps c.args.self.now refl refl refl refl refl refl

pub returns-in-Err-clause-goes : goal.returns-in-Err-clause-goes
returns-in-Err-clause-goes g c digest life keeps running =
    goes_lacking g.D.Disk.may_leave g.D.Disk.moment g.D.Disk.left_since g.D.Disk.faults g.met.D.Disk.only_now g.met.D.Disk.counts_now
    digest life (event_view c.args.event.now) c.args.self.now keeps _ refl refl c.in-Err.ensures.err refl refl refl

pub returns-clause-goes : goal.returns-clause-goes
returns-clause-goes g c digest life keeps running =
    let event = event_view c.args.event.now in
    let plans = c.in-Ok.ensures.plans life.room keeps.room in
    let made : map record_view c.as_slice.result.now ≡ records_of life.room (happens event) =
    ap (λ rs. map record_view rs) c.as_slice.ensures ∙ c.records.ensures ∙ plans.records in
    let spelled = c.in_default-spell.ensures in
    goes_done g.D.Disk.may_leave g.D.Disk.moment g.D.Disk.left_since g.D.Disk.faults g.met.D.Disk.only_now g.met.D.Disk.counts_now
    digest life event c.args.self.now keeps _ _
    (subst (λ (rs : List plain.Record). AreRecords rs) made spelled.records)
    (spelled.ok ∙ ap (λ (rs : List plain.Record). c.args.self.now.pending ++ records_bytes rs) made)
    (c.answer_to-reply.ensures life.room keeps.room) (c.apply.ensures.stands life.room event keeps.room plans) refl refl refl refl
