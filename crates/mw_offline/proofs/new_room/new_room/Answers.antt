use Rattle.std.proofs.Common.{◌⊎◌, Err, ap, inl, inr, arith}
use Rattle.mw_edges.specs.Causes.{Rose}
use Rattle.mw_offline.proofs.NewRooms.{bytes_read, journal_exit, room_done, room_left}
use Rattle.mw_offline.proofs.new_room.new_room.Goals as goal

pub returns-in_err-make_journal-clause-left : goal.returns-in_err-make_journal-clause-left
returns-in_err-make_journal-clause-left g c =
    let F = g.F.Folder in
    let first = c.args.folder.now in
    let last = c.make_journal.new.folder in
    let out = c.args.out.now in
    let read = c.in_ok-digest.ensures in
    let made = c.in_err-make_journal.ensures in
    let r = c.from_residual-in_err-make_journal in
    journal_exit F.holds F.images F.is_open F.may_fail F.faults first c.read_digest.new.folder last read.same c.args.words.now c.in_ok-digest.digest read.ok read.crash (g.O.Sink.held out)
    (Rose (F.faults first) (F.faults last) ⊎ Rose (g.O.Sink.faults out) (g.O.Sink.faults out)) r.result _ made.refused made.kept
    (λ e. inl (omega (arith, read.later, made.fault (ap Err e)))) r.ensures.1

pub returns-in_err-make_journal-clause-bytes : goal.returns-in_err-make_journal-clause-bytes
returns-in_err-make_journal-clause-bytes g c =
    let F = g.F.Folder in
    let read = c.in_ok-digest.ensures in
    bytes_read F.holds F.images F.is_open F.may_fail F.faults c.args.folder.now c.read_digest.new.folder c.make_journal.new.folder read.same c.args.words.now.journal read.crash c.in_err-make_journal.ensures.bytes

pub returns-clause-bytes : goal.returns-clause-bytes
returns-clause-bytes g c =
    let F = g.F.Folder in
    let read = c.in_ok-digest.ensures in
    bytes_read F.holds F.images F.is_open F.may_fail F.faults c.args.folder.now c.read_digest.new.folder c.make_journal.new.folder read.same c.args.words.now.journal read.crash c.in_ok-make_journal.ensures.bytes

pub returns-clause-done : goal.returns-clause-done
returns-clause-done g c =
    let F = g.F.Folder in
    let read = c.in_ok-digest.ensures in
    let made = c.in_ok-make_journal.ensures in
    room_done F.holds F.images F.is_open F.may_fail F.faults c.args.folder.now c.read_digest.new.folder c.make_journal.new.folder read.same c.args.words.now c.in_ok-digest.digest read.ok made.empty made.ok
    (g.O.Sink.held c.args.out.now) (g.O.Sink.held c.put_text.new.out) c.put_text.result c.put_text.ensures.done

pub returns-clause-left : goal.returns-clause-left
returns-clause-left g c =
    let F = g.F.Folder in
    let first = c.args.folder.now in
    let last = c.make_journal.new.folder in
    let read = c.in_ok-digest.ensures in
    let made = c.in_ok-make_journal.ensures in
    room_left F.holds F.images F.is_open F.may_fail F.faults first c.read_digest.new.folder last read.same c.args.words.now c.in_ok-digest.digest read.ok made.empty made.ok
    (g.O.Sink.held c.args.out.now) (g.O.Sink.held c.put_text.new.out)
    (Rose (F.faults first) (F.faults last) ⊎ Rose (g.O.Sink.faults c.args.out.now) (g.O.Sink.faults c.put_text.new.out)) c.put_text.result c.put_text.ensures.late c.put_text.ensures.front (λ e. inr (c.put_text.ensures.fault e))
