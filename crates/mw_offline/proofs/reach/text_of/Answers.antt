use Rattle.std.proofs.Common.{Err, ap}
use Rattle.mw_causes.specs.Tables.{HasTableCause}
use Rattle.mw_causes.specs.declared.stop.Stop.TheVariants.{Memory}
use Rattle.mw_causes.proofs.Endings.{passed_exit, fault_passed, memory_late}
use Rattle.mw_causes.proofs.TableCauses.{unjoined_cause}
use Rattle.mw_offline.proofs.Counted.{reach_text}
use Rattle.mw_offline.proofs.reach.text_of.Goals as goal

pub returns-in_err-joint-clause-err : goal.returns-in_err-joint-clause-err
returns-in_err-joint-clause-err g c =
    let files = g.F.Folder.holds c.args.folder.now in
    let may_fail = g.F.Folder.may_fail c.args.folder.now in
    let name = c.args.words.now.players in
    let t = c.in_ok-tables.tables in
    let r = c.from_residual-in_err-joint in
    passed_exit (HasTableCause files may_fail name) r.result _ (unjoined_cause files name t.players t.worlds c.in_ok-tables.ensures.ok may_fail _ c.in_err-joint.ensures.err) r.ensures.1

pub returns-in_err-joint-clause-fault : goal.returns-in_err-joint-clause-fault
returns-in_err-joint-clause-fault g c =
    let r = c.from_residual-in_err-joint in
    λ e. absurd (c.in_err-joint.ensures.fault (ap Err (fault_passed r.result _ r.ensures.1 e)))

pub returns-in_err-reach_text-clause-err : goal.returns-in_err-reach_text-clause-err
returns-in_err-reach_text-clause-err g c =
    let r = c.from_residual-in_err-reach_text in
    passed_exit (HasTableCause (g.F.Folder.holds c.args.folder.now) (g.F.Folder.may_fail c.args.folder.now) c.args.words.now.players) r.result Memory tt r.ensures.1

pub returns-in_err-reach_text-clause-fault : goal.returns-in_err-reach_text-clause-fault
returns-in_err-reach_text-clause-fault g c =
    let r = c.from_residual-in_err-reach_text in
    λ e. absurd (memory_late r.result r.ensures.1 e)

pub returns-clause-ok : goal.returns-clause-ok
returns-clause-ok g c =
    let t = c.in_ok-tables.tables in
    reach_text (g.F.Folder.holds c.args.folder.now) c.args.words.now.players t.players t.worlds c.in_ok-tables.ensures.ok c.in_ok-joint.joint _ c.in_ok-joint.ensures.ok c.in_ok-reach_text.ensures
