use Rattle.std.proofs.Common.{◌∙◌, subst, sym}
use Rattle.mw_pair.specs.Steps.{Closes}
use Rattle.mw_pair.proofs.Steps.{around_run, unopened_at_most}
use Rattle.mw_pair.proofs.folder_files.open_pair.Goals as goal

pub returns-in-Err-clause-unopened : goal.returns-in-Err-clause-unopened
returns-in-Err-clause-unopened g c =
    let F = g.F.Folder in let D = g.F.Drive.Disk in
    unopened_at_most F.holds F.images F.is_open D.told D.may_leave D.faults c.args.folder.now c.open_one.new.folder c.choice.result.now c.in-Err.ensures.unopens

pub returns-in-Err-open_one-clause-unopened : goal.returns-in-Err-open_one-clause-unopened
returns-in-Err-open_one-clause-unopened g c =
    let F = g.F.Folder in let D = g.F.Drive.Disk in
    let first = c.args.folder.now in
    let a = c.open_one.new.folder in
    let b = c.open_one-2.new.folder in
    around_run F.holds F.images F.is_open D.told D.may_leave D.faults first a b c.close_one.new.folder c.choice.result.now c.in-Ok.disk c.in-Ok.ensures.opens
    (unopened_at_most F.holds F.images F.is_open D.told D.may_leave D.faults a b c.zero.result.now c.in-Err-open_one.ensures.unopens)
    (subst (λ n. Closes F.holds F.images F.is_open b c.close_one.new.folder n D.told D.may_leave c.in-Ok.disk) (c.choice-in-Err-open_one.ensures ∙ sym c.choice.ensures) c.close_one.ensures.closes)

pub returns-in-Err-open_one-2-clause-unopened : goal.returns-in-Err-open_one-2-clause-unopened
returns-in-Err-open_one-2-clause-unopened g c =
    let F = g.F.Folder in let D = g.F.Drive.Disk in
    let first = c.args.folder.now in
    let a = c.open_one.new.folder in
    let b = c.open_one-2.new.folder in
    let d = c.open_one-3.new.folder in
    let e = c.close_one-in-Err-open_one-2.new.folder in
    let last = c.close_one-in-Err-open_one-2-2.new.folder in
    around_run F.holds F.images F.is_open D.told D.may_leave D.faults first a e last c.choice.result.now c.in-Ok.disk c.in-Ok.ensures.opens
    (around_run F.holds F.images F.is_open D.told D.may_leave D.faults a b d e c.zero.result.now c.in-Ok-open_one.disk c.in-Ok-open_one.ensures.opens
    (unopened_at_most F.holds F.images F.is_open D.told D.may_leave D.faults b d c.one.result.now c.in-Err-open_one-2.ensures.unopens)
    (subst (λ n. Closes F.holds F.images F.is_open d e n D.told D.may_leave c.in-Ok-open_one.disk) (c.zero-in-Err-open_one-2.ensures ∙ sym c.zero.ensures) c.close_one-in-Err-open_one-2.ensures.closes))
    (subst (λ n. Closes F.holds F.images F.is_open e last n D.told D.may_leave c.in-Ok.disk) (c.choice-in-Err-open_one-2.ensures ∙ sym c.choice.ensures) c.close_one-in-Err-open_one-2-2.ensures.closes)
