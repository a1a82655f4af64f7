use Rattle.std.proofs.Common.{◌≡◌, ◌∙◌, map, sym, ap, subst, rules}
use Rattle.std.specs.Prelude.{IfOk, IfErr, string_bytes}
use Rattle.mw_packets_in.specs.View.{inbound_view}
use Rattle.mw_drive.specs.Calls.{Performs, StopsIn}
use Rattle.mw_script.specs.Commands.{command_view, opens, sends, takes, loses, commits}
use Rattle.mw_drive.proofs.performing.perform.Goals as goal

pub returns-in-Open-clause-ok : goal.returns-in-Open-clause-ok
returns-in-Open-clause-ok g c =
    let is : command_view c.args.command ≡ opens c.in-Open.time = ap command_view c.in-Open.is in
    subst (λ x. IfOk c.open.result (λ text. Performs g.D.Disk.may_leave c.args.kept.now x (string_bytes text) c.open.new.kept)) (sym is) c.open.ensures.ok

pub returns-in-Open-clause-err : goal.returns-in-Open-clause-err
returns-in-Open-clause-err g c =
    let is : command_view c.args.command ≡ opens c.in-Open.time = ap command_view c.in-Open.is in
    subst (λ x. IfErr c.open.result (λ error. StopsIn g.D.Disk.may_leave g.D.Disk.faults c.args.kept.now x error c.open.new.kept)) (sym is) c.open.ensures.err

pub returns-in-Send-clause-ok : goal.returns-in-Send-clause-ok
returns-in-Send-clause-ok g c =
    let same : c.unwrap.result ≡ c.in-Send.session = search rules in
    let is : command_view c.args.command ≡ sends c.unwrap.result (map inbound_view c.in-Send.message) = ap command_view c.in-Send.is ∙ ap (λ n. sends n (map inbound_view c.in-Send.message)) (sym same) in
    subst (λ x. IfOk c.send.result (λ text. Performs g.D.Disk.may_leave c.args.kept.now x (string_bytes text) c.send.new.kept)) (sym is) c.send.ensures.ok

pub returns-in-Send-clause-err : goal.returns-in-Send-clause-err
returns-in-Send-clause-err g c =
    let same : c.unwrap.result ≡ c.in-Send.session = search rules in
    let is : command_view c.args.command ≡ sends c.unwrap.result (map inbound_view c.in-Send.message) = ap command_view c.in-Send.is ∙ ap (λ n. sends n (map inbound_view c.in-Send.message)) (sym same) in
    subst (λ x. IfErr c.send.result (λ error. StopsIn g.D.Disk.may_leave g.D.Disk.faults c.args.kept.now x error c.send.new.kept)) (sym is) c.send.ensures.err

pub returns-in-Take-clause-ok : goal.returns-in-Take-clause-ok
returns-in-Take-clause-ok g c =
    let same : c.unwrap-in-Take.result ≡ c.in-Take.session = search rules in
    let is : command_view c.args.command ≡ takes c.unwrap-in-Take.result = ap command_view c.in-Take.is ∙ ap (takes) (sym same) in
    subst (λ x. IfOk c.take.result (λ text. Performs g.D.Disk.may_leave c.args.kept.now x (string_bytes text) c.take.new.kept)) (sym is) c.take.ensures.ok

pub returns-in-Take-clause-err : goal.returns-in-Take-clause-err
returns-in-Take-clause-err g c =
    let same : c.unwrap-in-Take.result ≡ c.in-Take.session = search rules in
    let is : command_view c.args.command ≡ takes c.unwrap-in-Take.result = ap command_view c.in-Take.is ∙ ap (takes) (sym same) in
    subst (λ x. IfErr c.take.result (λ error. StopsIn g.D.Disk.may_leave g.D.Disk.faults c.args.kept.now x error c.take.new.kept)) (sym is) c.take.ensures.err

pub returns-in-Lose-clause-ok : goal.returns-in-Lose-clause-ok
returns-in-Lose-clause-ok g c =
    let same : c.unwrap-in-Lose.result ≡ c.in-Lose.session = search rules in
    let is : command_view c.args.command ≡ loses c.unwrap-in-Lose.result = ap command_view c.in-Lose.is ∙ ap (loses) (sym same) in
    subst (λ x. IfOk c.lose.result (λ text. Performs g.D.Disk.may_leave c.args.kept.now x (string_bytes text) c.lose.new.kept)) (sym is) c.lose.ensures.ok

pub returns-in-Lose-clause-err : goal.returns-in-Lose-clause-err
returns-in-Lose-clause-err g c =
    let same : c.unwrap-in-Lose.result ≡ c.in-Lose.session = search rules in
    let is : command_view c.args.command ≡ loses c.unwrap-in-Lose.result = ap command_view c.in-Lose.is ∙ ap (loses) (sym same) in
    subst (λ x. IfErr c.lose.result (λ error. StopsIn g.D.Disk.may_leave g.D.Disk.faults c.args.kept.now x error c.lose.new.kept)) (sym is) c.lose.ensures.err

pub returns-in-Commit-clause-ok : goal.returns-in-Commit-clause-ok
returns-in-Commit-clause-ok g c =
    let is : command_view c.args.command ≡ commits = ap command_view c.in-Commit.is in
    subst (λ x. IfOk c.commit.result (λ text. Performs g.D.Disk.may_leave c.args.kept.now x (string_bytes text) c.commit.new.kept)) (sym is) c.commit.ensures.ok

pub returns-in-Commit-clause-err : goal.returns-in-Commit-clause-err
returns-in-Commit-clause-err g c =
    let is : command_view c.args.command ≡ commits = ap command_view c.in-Commit.is in
    subst (λ x. IfErr c.commit.result (λ error. StopsIn g.D.Disk.may_leave g.D.Disk.faults c.args.kept.now x error c.commit.new.kept)) (sym is) c.commit.ensures.err
