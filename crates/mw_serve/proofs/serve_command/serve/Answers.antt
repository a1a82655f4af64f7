use Rattle.std.proofs.Common.{Some, ap, inl, refl}
use Rattle.mw_edges.specs.Folders.{opened_bytes}
use Rattle.mw_multidata.specs.Digest.{digest_of}
use Rattle.mw_offline.specs.FilesAround.{files_around}
use Rattle.mw_offline.proofs.Driving.{leaves_since}
use Rattle.mw_serve.proofs.Hosts.{listens_more}
use Rattle.mw_serve.proofs.Files.{finds_over, finishes_all, if_err_over, if_ok_over, read_serves, sent_since, serve_done, serve_stopped, short_since, to_end_since}
use Rattle.mw_serve.proofs.Sending.{none_keeps}
use Rattle.mw_serve.proofs.serve_command.serve.Goals as goal

pub returns-in-Ok-clause-done : goal.returns-in-Ok-clause-done
returns-in-Ok-clause-done g c =
    let F = g.F.Folder in let L = g.G.Line.Link in
    let first = c.args.folder.now in
    let second = c.read_seed_bytes.new.folder in
    let last = c.serve_on_file-outcome.new.folder in
    let named = c.args.words.now in
    let old = g.O.Sink.held c.args.out.now in
    let new = g.O.Sink.held c.finish.new.out in
    let files = files_around F.holds F.images F.is_open F.may_fail F.faults first last in
    let bytes = c.in-Ok.seed.bytes in
    let seed = c.in-Ok.seed.multidata in
    let read = c.in-Ok.ensures in
    let ran = c.serve_on_file-outcome in
    serve_done L.heard L.sent L.faults L.opened L.is_shut g.F.Drive.Disk.may_leave files named ran.result.served old new bytes seed (record { is_file = read.ok.0; is = read.ok.1 }) ran.result.outcome c.finish.result c.finish.ensures.finishes
    (if_ok_over ran.result.outcome ran.ensures.done (λ n d. (d.0, to_end_since L.heard L.sent L.faults L.opened L.is_shut g.F.Drive.Disk.may_leave F.holds F.images F.is_open F.may_fail F.faults first second last read.same read.crash named.journal bytes seed ran.result.served d.1)))

pub returns-in-Ok-clause-stopped : goal.returns-in-Ok-clause-stopped
returns-in-Ok-clause-stopped g c =
    let F = g.F.Folder in let L = g.G.Line.Link in
    let first = c.args.folder.now in
    let second = c.read_seed_bytes.new.folder in
    let last = c.serve_on_file-outcome.new.folder in
    let named = c.args.words.now in
    let old = g.O.Sink.held c.args.out.now in
    let new = g.O.Sink.held c.finish.new.out in
    let files = files_around F.holds F.images F.is_open F.may_fail F.faults first last in
    let bytes = c.in-Ok.seed.bytes in
    let seed = c.in-Ok.seed.multidata in
    let read = c.in-Ok.ensures in
    let ran = c.serve_on_file-outcome in
    serve_stopped L.heard L.sent L.faults L.opened L.is_shut g.F.Drive.Disk.may_leave files named ran.result.served old new bytes seed (record { is_file = read.ok.0; is = read.ok.1 }) ran.result.outcome c.finish.result c.finish.ensures.finishes
    (if_ok_over ran.result.outcome ran.ensures.done (λ n d. (d.0, to_end_since L.heard L.sent L.faults L.opened L.is_shut g.F.Drive.Disk.may_leave F.holds F.images F.is_open F.may_fail F.faults first second last read.same read.crash named.journal bytes seed ran.result.served d.1)))
    (if_err_over ran.result.outcome ran.ensures.short (λ error h. short_since L.heard L.sent L.faults L.opened L.is_shut g.F.Drive.Disk.may_leave F.holds F.images F.is_open F.may_fail F.faults first second last read.same read.crash named.journal bytes seed ran.result.served error h))

pub returns-in-Ok-clause-kept : goal.returns-in-Ok-clause-kept
returns-in-Ok-clause-kept g c =
    let F = g.F.Folder in let L = g.G.Line.Link in
    let first = c.args.folder.now in
    let second = c.read_seed_bytes.new.folder in
    let last = c.serve_on_file-outcome.new.folder in
    let named = c.args.words.now in
    let old = g.O.Sink.held c.args.out.now in
    let new = g.O.Sink.held c.finish.new.out in
    let files = files_around F.holds F.images F.is_open F.may_fail F.faults first last in
    let bytes = c.in-Ok.seed.bytes in
    let seed = c.in-Ok.seed.multidata in
    let read = c.in-Ok.ensures in
    let ran = c.serve_on_file-outcome in
    read_serves L.sent (record { shown = c.shown_is_checked.ensures; tails = c.tails_of_the_last_view.ensures; shown_across = c.shown_is_checked_across.ensures; tails_across = c.tails_across.ensures })
    files named bytes seed ran.result.served read.ok.0 read.ok.1
    (sent_since L.heard L.sent L.faults L.opened L.is_shut g.F.Drive.Disk.may_leave F.holds F.images F.is_open F.may_fail F.faults first second last read.same read.crash named.journal bytes seed ran.result.served ran.ensures.found)

pub returns-in-Ok-clause-leaves : goal.returns-in-Ok-clause-leaves
returns-in-Ok-clause-leaves g c =
    let F = g.F.Folder in let L = g.G.Line.Link in
    let first = c.args.folder.now in
    let second = c.read_seed_bytes.new.folder in
    let last = c.serve_on_file-outcome.new.folder in
    let named = c.args.words.now in
    let old = g.O.Sink.held c.args.out.now in
    let new = g.O.Sink.held c.finish.new.out in
    let files = files_around F.holds F.images F.is_open F.may_fail F.faults first last in
    let bytes = c.in-Ok.seed.bytes in
    let seed = c.in-Ok.seed.multidata in
    let read = c.in-Ok.ensures in
    let ran = c.serve_on_file-outcome in
    leaves_since F.holds F.images F.is_open F.may_fail F.faults first second last read.same read.crash (Some named.journal) read.opened ran.ensures.leaves

pub returns-in-Err-clause-kept : goal.returns-in-Err-clause-kept
returns-in-Err-clause-kept g c bytes seed told is =
    let F = g.F.Folder in
    none_keeps g.G.Line.Link.sent (files_around F.holds F.images F.is_open F.may_fail F.faults c.args.folder.now c.read_seed_bytes.new.folder) c.args.words.now.journal (digest_of bytes) seed c.new.result c.new.ensures
    (λ x. (c.in-Err.ensures.crash c.args.words.now.journal x).0)

pub returns-in-Ok-clause-listened : goal.returns-in-Ok-clause-listened
returns-in-Ok-clause-listened g c =
    let F = g.F.Folder in
    let first = c.args.folder.now in
    let second = c.read_seed_bytes.new.folder in
    let named = c.args.words.now in
    let bytes = c.in-Ok.seed.bytes in
    let seed = c.in-Ok.seed.multidata in
    let read = c.in-Ok.ensures in
    let ran = c.serve_on_file-outcome in
    listens_more _ _ _ _ _ _ _
    (λ found. record {
      bytes = bytes;
      seed = seed;
      seed_was = record { is_file = read.ok.0; is = read.ok.1 };
      finds = finds_over (opened_bytes (F.holds second named.journal)) (opened_bytes (F.holds first named.journal)) (ap opened_bytes (read.same named.journal)) (digest_of bytes) seed (F.images second named.journal) (F.images first named.journal) (λ x. (read.crash named.journal x).0) found;
    })
    (λ done. finishes_all ran.result.outcome _ _ c.finish.result c.finish.ensures.finishes done) ran.ensures.listened

pub returns-in-Err-clause-listened : goal.returns-in-Err-clause-listened
returns-in-Err-clause-listened g c = inl (refl, λ no. cc)
