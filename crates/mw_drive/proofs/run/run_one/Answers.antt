use Rattle.std.proofs.Common.{◌≡◌, ◌∙◌, ◌∷◌, [], true, inl, sym, subst}
use Rattle.mw_multidata.specs.Digest.{digest_of}
use Rattle.mw_keep.specs.Keeps.{kept_disk}
use Rattle.mw_script.specs.Commands.{command_view, crashes}
use Rattle.mw_drive.specs.Drive.{is_crash}
use Rattle.mw_drive.specs.Runs.{HasStepped, IsCut, IsOfRun}
use Rattle.mw_drive.proofs.Looping.{told_at_crash}
use Rattle.mw_keep.proofs.Going.{if_ok}
use Rattle.mw_drive.proofs.Passing.{if_err, if_err_all}
use Rattle.mw_drive.proofs.Stepping.{crash_is, crash_steps, crash_cuts, life_stepped, ran_outside}
use Rattle.mw_drive.proofs.run.run_one.Goals as goal

pub returns-then-is_crash-clause-ok : goal.returns-then-is_crash-clause-ok
returns-then-is_crash-clause-ok g c =
    let test : is_crash (command_view c.args.command) ≡ true = sym c.is_crash.ensures ∙ c.if-is_crash.true in
    let is : command_view c.args.command ≡ crashes = crash_is (command_view c.args.command) test in
    let held = g.O.Sink.held c.args.out.now in
    if_ok _ _ c.crash.result c.crash.ensures.ok
    (λ k h seed life kept.
    subst (λ x. HasStepped g.D.Disk.may_leave (digest_of c.args.file.now) seed life x held held k) (sym is)
    (let then = h seed life kept.accepted kept.keeps kept.going (told_at_crash (g.D.Disk.told (kept_disk c.args.kept)) (command_view c.args.command) test kept.finds) in
    crash_steps g.D.Disk.may_leave (digest_of c.args.file.now) seed life held k then.0 then.1))

pub returns-then-is_crash-clause-err : goal.returns-then-is_crash-clause-err
returns-then-is_crash-clause-err g c =
    let test : is_crash (command_view c.args.command) ≡ true = sym c.is_crash.ensures ∙ c.if-is_crash.true in
    let is : command_view c.args.command ≡ crashes = crash_is (command_view c.args.command) test in
    let held = g.O.Sink.held c.args.out.now in
    if_err_all _ _ _ _ c.crash.result c.crash.ensures.left c.crash.ensures.outside c.crash.ensures.own
    (λ e left outside own seed life kept.
    subst (λ x. IsCut g.D.Disk.may_leave (digest_of c.args.file.now) seed life x held held e.0 e.1) (sym is)
    (crash_cuts g.D.Disk.may_leave (digest_of c.args.file.now) seed life held e.0 e.1 (left seed life kept.keeps kept.going) own
    (λ sound. outside seed life kept.accepted kept.keeps kept.going (told_at_crash (g.D.Disk.told (kept_disk c.args.kept)) (command_view c.args.command) test kept.finds) sound)))

pub returns-then-is_crash-clause-lives : goal.returns-then-is_crash-clause-lives
returns-then-is_crash-clause-lives g c = if_ok _ _ c.crash.result c.crash.ensures.lives (λ k h has. h (has.seed, has.accepted))

pub returns-then-is_crash-clause-fault : goal.returns-then-is_crash-clause-fault
returns-then-is_crash-clause-fault g c = if_err _ _ c.crash.result c.crash.ensures.fault (λ e h is has. inl (h (has.seed, has.accepted) is))

pub returns-clause-ok : goal.returns-clause-ok
returns-clause-ok g c = if_ok _ _ c.perform_and_put.result c.perform_and_put.ensures.ok (λ k h seed life kept. h (digest_of c.args.file.now) seed life kept.keeps kept.going)

pub returns-clause-err : goal.returns-clause-err
returns-clause-err g c = if_err _ _ c.perform_and_put.result c.perform_and_put.ensures.err (λ e h seed life kept. h (digest_of c.args.file.now) seed life kept.keeps kept.going)

pub returns-clause-lives : goal.returns-clause-lives
returns-clause-lives g c = if_ok _ _ c.perform_and_put.result c.perform_and_put.ensures.ok
    (λ k h has. life_stepped g.D.Disk.may_leave c.args.file.now (command_view c.args.command) (g.O.Sink.held c.args.out.now) (g.O.Sink.held c.perform_and_put.new.out) c.args.kept k h has)

pub returns-clause-fault : goal.returns-clause-fault
returns-clause-fault g c = if_err _ _ c.perform_and_put.result c.perform_and_put.ensures.fault (λ e h is has. h is (digest_of c.args.file.now) has.seed has.life has.keeps has.going)

pub returns-then-is_crash-clause-ran : goal.returns-then-is_crash-clause-ran
returns-then-is_crash-clause-ran g c =
    let is : command_view c.args.command ≡ crashes = crash_is (command_view c.args.command) (sym c.is_crash.ensures ∙ c.if-is_crash.true) in
    if_err _ _ c.crash.result c.crash.ensures.ran (λ e ran. subst (λ x. IsOfRun (x ∷ []) e.1) (sym is) ran)

pub returns-clause-ran : goal.returns-clause-ran
returns-clause-ran g c = if_err _ _ c.perform_and_put.result c.perform_and_put.ensures.own (λ e own. ran_outside (command_view c.args.command ∷ []) e.1 own)
