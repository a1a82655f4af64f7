use Rattle.std.proofs.Common.{◌≡◌, Ok, Err, ap, subst, sym}
use Rattle.mw_model.specs.Seed.{Seed}
use Rattle.mw_multi.specs.JointOf.{joint_of}
use Rattle.mw_spheres.specs.Spheres.{IsSpheres}
use Rattle.mw_causes.specs.Tables.{AreUnjoined}
use Rattle.mw_causes.specs.declared.check_cause.CheckCause.TheVariants.{Tables, SeedFile}
use Rattle.mw_causes.proofs.Endings.{fault_exit, fault_passed, memory_late}
use Rattle.mw_offline.proofs.Checked.{unjoined_for, unread_for, wrong_for, wrong_late, text_for}
use Rattle.mw_offline.proofs.check_command.text_for.Goals as goal

pub returns-in_err-joint-clause-err : goal.returns-in_err-joint-clause-err
returns-in_err-joint-clause-err g c =
    let t = c.args.tables.now in
    unjoined_for (λ joint. joint_of t.worlds t.players ≡ Ok joint) (AreUnjoined t.worlds t.players) (g.F.Folder.holds c.args.folder.now c.args.name.now) (g.F.Folder.may_fail c.args.folder.now) c.from_residual.result _ c.in_err-joint.ensures.err c.from_residual.ensures.1

pub returns-in_err-joint-clause-fault : goal.returns-in_err-joint-clause-fault
returns-in_err-joint-clause-fault g c = λ e. absurd (c.in_err-joint.ensures.fault (ap Err (fault_exit Tables c.from_residual.result _ c.from_residual.ensures.1 e)))

pub returns-in_err-file-clause-err : goal.returns-in_err-file-clause-err
returns-in_err-file-clause-err g c =
    let t = c.args.tables.now in
    let r = c.from_residual-in_err-file in
    unread_for (λ joint. joint_of t.worlds t.players ≡ Ok joint) (AreUnjoined t.worlds t.players) (g.F.Folder.holds c.args.folder.now c.args.name.now) (g.F.Folder.may_fail c.args.folder.now) c.in_ok-joint.joint c.in_ok-joint.ensures.ok r.result _ c.in_err-file.ensures.err r.ensures.1

pub returns-in_err-file-clause-fault : goal.returns-in_err-file-clause-fault
returns-in_err-file-clause-fault g c =
    let r = c.from_residual-in_err-file in
    λ e. c.in_err-file.ensures.fault (ap Err (fault_exit SeedFile r.result _ r.ensures.1 e))

pub returns-in_err-placement-clause-err : goal.returns-in_err-placement-clause-err
returns-in_err-placement-clause-err g c =
    let t = c.args.tables.now in
    let r = c.from_residual-in_err-placement in
    wrong_for (λ joint. joint_of t.worlds t.players ≡ Ok joint) (AreUnjoined t.worlds t.players) (g.F.Folder.holds c.args.folder.now c.args.name.now) (g.F.Folder.may_fail c.args.folder.now) c.in_ok-joint.joint c.in_ok-joint.ensures.ok
    c.in_ok-file.file c.in_ok-file.ensures.ok r.result _ c.in_err-placement.ensures.err r.ensures.1

pub returns-in_err-placement-clause-fault : goal.returns-in_err-placement-clause-fault
returns-in_err-placement-clause-fault g c =
    let r = c.from_residual-in_err-placement in
    λ e. absurd (wrong_late _ (fault_passed r.result _ r.ensures.1 e))

pub text_of-requires-clause-spheres : goal.text_of-requires-clause-spheres
text_of-requires-clause-spheres g c =
    subst (IsSpheres c.in_ok-joint.joint c.in_ok-placement.placement) (sym (ap (λ (s : Seed). s.spheres) c.file.view_is)) c.in_ok-placement.ensures.ok.spheres

pub returns-in_err-text_of-clause-fault : goal.returns-in_err-text_of-clause-fault
returns-in_err-text_of-clause-fault g c =
    let r = c.from_residual-in_err-text_of in
    λ e. absurd (memory_late r.result r.ensures.1 e)

pub returns-clause-ok : goal.returns-clause-ok
returns-clause-ok g c =
    let t = c.args.tables.now in
    text_for (λ joint. joint_of t.worlds t.players ≡ Ok joint) (AreUnjoined t.worlds t.players) (g.F.Folder.holds c.args.folder.now c.args.name.now) (g.F.Folder.may_fail c.args.folder.now) c.in_ok-joint.joint c.in_ok-joint.ensures.ok
    c.in_ok-file.file c.in_ok-file.ensures.ok c.in_ok-placement.placement c.file.inside.spheres _ (ap (λ (s : Seed). s.spheres) c.file.view_is) c.in_ok-placement.ensures.ok c.in_ok-text_of.ensures
