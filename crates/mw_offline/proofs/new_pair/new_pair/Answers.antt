use Rattle.std.proofs.Common.{◌⊎◌, Err, ap, inl, inr, arith}
use Rattle.mw_edges.specs.Causes.{Rose}
use Rattle.mw_offline.proofs.PairFiles.{bytes_kept, making_exit, pair_done, pair_left}
use Rattle.mw_offline.proofs.new_pair.new_pair.Goals as goal

pub returns-in_err-make_journals-clause-left : goal.returns-in_err-make_journals-clause-left
returns-in_err-make_journals-clause-left g c =
    let F = g.F.Folder in
    let first = c.args.folder.now in
    let last = c.make_journals.new.folder in
    let out = c.args.out.now in
    let read = c.in_ok-digest.ensures in
    let made = c.in_err-make_journals.ensures in
    let r = c.from_residual-in_err-make_journals in
    making_exit F.holds F.images F.is_open F.may_fail F.faults first c.read_digest.new.folder last read.same read.crash read.opened c.args.words.now c.in_ok-digest.digest read.ok (g.O.Sink.held out)
    (Rose (F.faults first) (F.faults last) ⊎ Rose (g.O.Sink.faults out) (g.O.Sink.faults out)) r.result _ made.refused (λ e. inl (omega (arith, read.later, made.fault (ap Err e)))) r.ensures.1

pub returns-in_err-make_journals-clause-bytes : goal.returns-in_err-make_journals-clause-bytes
returns-in_err-make_journals-clause-bytes g c =
    let F = g.F.Folder in
    let read = c.in_ok-digest.ensures in
    bytes_kept F.holds F.images F.is_open F.may_fail F.faults c.args.folder.now c.read_digest.new.folder c.make_journals.new.folder read.same read.crash read.opened c.args.words.now.journal c.in_err-make_journals.ensures.bytes

pub returns-clause-bytes : goal.returns-clause-bytes
returns-clause-bytes g c =
    let F = g.F.Folder in
    let read = c.in_ok-digest.ensures in
    bytes_kept F.holds F.images F.is_open F.may_fail F.faults c.args.folder.now c.read_digest.new.folder c.make_journals.new.folder read.same read.crash read.opened c.args.words.now.journal c.in_ok-make_journals.ensures.bytes

pub returns-clause-done : goal.returns-clause-done
returns-clause-done g c =
    let F = g.F.Folder in
    let read = c.in_ok-digest.ensures in
    pair_done F.holds F.images F.is_open F.may_fail F.faults c.args.folder.now c.read_digest.new.folder c.make_journals.new.folder read.same read.crash read.opened c.args.words.now c.in_ok-digest.digest read.ok
    c.in_ok-make_journals.ensures.made (g.O.Sink.held c.args.out.now) (g.O.Sink.held c.put_text.new.out) c.put_text.result c.put_text.ensures.done

pub returns-clause-left : goal.returns-clause-left
returns-clause-left g c =
    let F = g.F.Folder in
    let first = c.args.folder.now in
    let last = c.make_journals.new.folder in
    let read = c.in_ok-digest.ensures in
    pair_left F.holds F.images F.is_open F.may_fail F.faults first c.read_digest.new.folder last read.same read.crash read.opened c.args.words.now c.in_ok-digest.digest read.ok c.in_ok-make_journals.ensures.made
    (g.O.Sink.held c.args.out.now) (g.O.Sink.held c.put_text.new.out)
    (Rose (F.faults first) (F.faults last) ⊎ Rose (g.O.Sink.faults c.args.out.now) (g.O.Sink.faults c.put_text.new.out)) c.put_text.result c.put_text.ensures.late c.put_text.ensures.front (λ e. inr (c.put_text.ensures.fault e))
