use Rattle.std.proofs.Common.{◌≡◌, ◌∙◌, Some, true, ℕ, List, ap, refl, sym, subst, inl, inr}
use Rattle.std.specs.Option.{is_some}
use Rattle.std.specs.Prelude.{IfErr, IfOk, [], is_ok}
use Rattle.mw_edges.specs.Files.{open_file}
use Rattle.mw_edges.specs.Folders.{opened_bytes}
use Rattle.mw_multidata.specs.Digest.{digest_of}
use Rattle.mw_drive.specs.Ends.{IsAsRead}
use Rattle.mw_offline.specs.Driving.{JournalRead}
use Rattle.mw_offline.specs.FilesAround.{files_around}
use Rattle.mw_offline.proofs.Driving.{leaves_by, opened_same, same_both, tells_closed, tells_made}
use Rattle.mw_serve.specs.Hosted.{ListensAfter}
use Rattle.mw_serve.proofs.Hosts.{listens_more}
use Rattle.mw_serve.proofs.Files.{finds_over, refused_not, if_err_over, if_ok_over, sent_over, short_over, SeedSends, to_end_over, unopened_hosts}
use Rattle.mw_serve.specs.Serving.{FileFinds, FileHostsShort, FileHostsToEnd}
use Rattle.mw_session.specs.Rooms.{count_all}
use Rattle.mw_serve.proofs.serve_command.serve_on_file.Goals as goal

pub returns-in-Err-Failed-clause-short : goal.returns-in-Err-Failed-clause-short
returns-in-Err-Failed-clause-short g c =
    let F = g.F.Folder in let L = g.G.Line.Link in
    subst (λ r. IfErr r.outcome (FileHostsShort L.heard L.sent L.faults L.opened L.is_shut g.F.Drive.Disk.may_leave (files_around F.holds F.images F.is_open F.may_fail F.faults c.args.folder.now c.open_disk.new.self) c.args.words.now.journal c.args.seed.bytes c.args.seed.multidata r.served))
    (sym c.unserved.ensures)
    (unopened_hosts L.heard L.sent L.faults L.opened L.is_shut g.F.Drive.Disk.may_leave (files_around F.holds F.images F.is_open F.may_fail F.faults c.args.folder.now c.open_disk.new.self) c.args.words.now.journal c.args.seed.bytes c.args.seed.multidata [] refl (c.open_disk.ensures.crash c.args.words.now.journal) _ (inl refl))

pub returns-in-Err-Failed-clause-found : goal.returns-in-Err-Failed-clause-found
returns-in-Err-Failed-clause-found g c = inl ((λ text body settled x image. settled x ((c.open_disk.ensures.crash c.args.words.now.journal x).0 image)), ap (λ r. r.served) c.unserved.ensures)

pub returns-in-Err-Failed-clause-leaves : goal.returns-in-Err-Failed-clause-leaves
returns-in-Err-Failed-clause-leaves g c =
    let F = g.F.Folder in
    leaves_by F.holds F.images F.is_open F.may_fail F.faults c.args.folder.now c.open_disk.new.self c.args.words.now.journal c.open_disk.ensures.others (λ n other. c.open_disk.ensures.crash n)
    c.in-Err-Failed.ensures.unopened c.open_disk.ensures.others_open (tells_made (F.holds c.args.folder.now c.args.words.now.journal) (F.holds c.open_disk.new.self c.args.words.now.journal) c.in-Err-Failed.ensures.kept)

pub returns-in-Err-Memory-clause-short : goal.returns-in-Err-Memory-clause-short
returns-in-Err-Memory-clause-short g c =
    let F = g.F.Folder in let L = g.G.Line.Link in
    subst (λ r. IfErr r.outcome (FileHostsShort L.heard L.sent L.faults L.opened L.is_shut g.F.Drive.Disk.may_leave (files_around F.holds F.images F.is_open F.may_fail F.faults c.args.folder.now c.open_disk.new.self) c.args.words.now.journal c.args.seed.bytes c.args.seed.multidata r.served))
    (sym c.unserved-in-Err-Memory.ensures)
    (unopened_hosts L.heard L.sent L.faults L.opened L.is_shut g.F.Drive.Disk.may_leave (files_around F.holds F.images F.is_open F.may_fail F.faults c.args.folder.now c.open_disk.new.self) c.args.words.now.journal c.args.seed.bytes c.args.seed.multidata [] refl (c.open_disk.ensures.crash c.args.words.now.journal) _ (inr refl))

pub returns-in-Err-Memory-clause-found : goal.returns-in-Err-Memory-clause-found
returns-in-Err-Memory-clause-found g c = inl ((λ text body settled x image. settled x ((c.open_disk.ensures.crash c.args.words.now.journal x).0 image)), ap (λ r. r.served) c.unserved-in-Err-Memory.ensures)

pub returns-in-Err-Memory-clause-leaves : goal.returns-in-Err-Memory-clause-leaves
returns-in-Err-Memory-clause-leaves g c =
    let F = g.F.Folder in
    leaves_by F.holds F.images F.is_open F.may_fail F.faults c.args.folder.now c.open_disk.new.self c.args.words.now.journal c.open_disk.ensures.others (λ n other. c.open_disk.ensures.crash n)
    c.in-Err-Memory.ensures.unopened c.open_disk.ensures.others_open (tells_made (F.holds c.args.folder.now c.args.words.now.journal) (F.holds c.open_disk.new.self c.args.words.now.journal) c.in-Err-Memory.ensures.kept)

pub returns-clause-done : goal.returns-clause-done
returns-clause-done g c =
    let F = g.F.Folder in let L = g.G.Line.Link in
    let first = c.args.folder.now in
    let last = c.close_disk.new.self in
    let name = c.args.words.now.journal in
    let disk = c.in-Ok.disk in
    let e = c.host_on-disk.result in
    let file = c.as_slice.result.now in
    let seed = c.args.seed.multidata in
    let left = λ (x : List ℕ). (c.close_disk.ensures.left x).0 in
    subst (λ b. IfOk e.outcome (λ n. (n ≡ count_all e.served) × FileHostsToEnd L.heard L.sent L.faults L.opened L.is_shut g.F.Drive.Disk.may_leave (files_around F.holds F.images F.is_open F.may_fail F.faults first last) name b seed e.served)) c.as_slice.ensures
    (if_ok_over e.outcome c.host_on-disk.ensures.done
    (λ n d. (
      d.0,
      to_end_over L.heard L.sent L.faults L.opened L.is_shut g.F.Drive.Disk.may_leave (g.F.Drive.Disk.told disk) (opened_bytes (F.holds first name)) c.in-Ok.ensures.told (g.F.Drive.Disk.may_leave disk) (F.images first name) c.in-Ok.ensures.left
          (g.F.Drive.Disk.may_leave e.disk) (F.images last name) left (digest_of file) seed e.served d.1,
    )))

pub returns-clause-short : goal.returns-clause-short
returns-clause-short g c =
    let F = g.F.Folder in let L = g.G.Line.Link in
    let first = c.args.folder.now in
    let last = c.close_disk.new.self in
    let name = c.args.words.now.journal in
    let disk = c.in-Ok.disk in
    let e = c.host_on-disk.result in
    let file = c.as_slice.result.now in
    let seed = c.args.seed.multidata in
    let left = λ (x : List ℕ). (c.close_disk.ensures.left x).0 in
    subst (λ b. IfErr e.outcome (FileHostsShort L.heard L.sent L.faults L.opened L.is_shut g.F.Drive.Disk.may_leave (files_around F.holds F.images F.is_open F.may_fail F.faults first last) name b seed e.served)) c.as_slice.ensures
    (if_err_over e.outcome c.host_on-disk.ensures.short
    (λ error s. short_over L.heard L.sent L.faults L.opened L.is_shut g.F.Drive.Disk.may_leave (g.F.Drive.Disk.told disk) (opened_bytes (F.holds first name)) c.in-Ok.ensures.told (g.F.Drive.Disk.may_leave disk) (F.images first name) c.in-Ok.ensures.left
    (g.F.Drive.Disk.may_leave e.disk) (F.images last name) left (digest_of file) seed e.served error
    (IsAsRead (g.F.Drive.Disk.told disk) (g.F.Drive.Disk.told e.disk) (g.F.Drive.Disk.may_leave disk) (g.F.Drive.Disk.may_leave e.disk))
    (JournalRead (files_around F.holds F.images F.is_open F.may_fail F.faults first last) (Some name))
    (λ read. (
      opened_same (F.holds first name) (F.holds last name) (c.close_disk.ensures.told ∙ ap open_file (read.0 ∙ c.in-Ok.ensures.told)),
      λ x image. c.in-Ok.ensures.left x (read.1 x (left x image)),
    )) s))

pub returns-clause-found : goal.returns-clause-found
returns-clause-found g c =
    let F = g.F.Folder in let L = g.G.Line.Link in
    let first = c.args.folder.now in
    let last = c.close_disk.new.self in
    let name = c.args.words.now.journal in
    let disk = c.in-Ok.disk in
    let e = c.host_on-disk.result in
    let file = c.as_slice.result.now in
    let seed = c.args.seed.multidata in
    let left = λ (x : List ℕ). (c.close_disk.ensures.left x).0 in
    subst (λ b. SeedSends L.sent (files_around F.holds F.images F.is_open F.may_fail F.faults first last) name e.served b seed) c.as_slice.ensures
    (sent_over L.heard L.sent L.faults L.opened L.is_shut g.F.Drive.Disk.may_leave (g.F.Drive.Disk.told disk) (opened_bytes (F.holds first name)) c.in-Ok.ensures.told (g.F.Drive.Disk.may_leave disk) (F.images first name) c.in-Ok.ensures.left
    (g.F.Drive.Disk.may_leave e.disk) (F.images last name) left (digest_of file) seed e.served c.host_on-disk.ensures.found)

pub returns-clause-leaves : goal.returns-clause-leaves
returns-clause-leaves g c =
    let F = g.F.Folder in
    let first = c.args.folder.now in
    let middle = c.open_disk.new.self in
    let last = c.close_disk.new.self in
    let name = c.args.words.now.journal in
    leaves_by F.holds F.images F.is_open F.may_fail F.faults first last name (λ n other. c.close_disk.ensures.others n other ∙ c.open_disk.ensures.others n other)
    (λ n other. same_both (F.images first n) (F.images middle n) (F.images last n) (c.open_disk.ensures.crash n) (c.close_disk.ensures.crash n other))
    (c.close_disk.ensures.closed ∙ sym c.in-Ok.ensures.one) (λ n other. c.close_disk.ensures.others_open n other ∙ c.open_disk.ensures.others_open n other)
    (tells_closed (g.F.Drive.Disk.told c.host_on-disk.result.disk) (F.holds last name) c.close_disk.ensures.told ∙ c.host_on-disk.ensures.tells ∙ ap is_some c.in-Ok.ensures.told)

pub returns-in-Err-Failed-clause-listened : goal.returns-in-Err-Failed-clause-listened
returns-in-Err-Failed-clause-listened g c = inl (ap (λ r. g.G.Gate.listened r.gate) c.unserved.ensures, λ done. refused_not (ap (λ r. is_ok r.outcome) c.unserved.ensures) done)

pub returns-in-Err-Memory-clause-listened : goal.returns-in-Err-Memory-clause-listened
returns-in-Err-Memory-clause-listened g c = inl (ap (λ r. g.G.Gate.listened r.gate) c.unserved-in-Err-Memory.ensures, λ done. refused_not (ap (λ r. is_ok r.outcome) c.unserved-in-Err-Memory.ensures) done)

pub returns-clause-listened : goal.returns-clause-listened
returns-clause-listened g c =
    let F = g.F.Folder in
    let first = c.args.folder.now in
    let last = c.close_disk.new.self in
    let name = c.args.words.now.journal in
    let disk = c.in-Ok.disk in
    let e = c.host_on-disk.result in
    let seed = c.args.seed.multidata in
    subst (λ b. ListensAfter (FileFinds (files_around F.holds F.images F.is_open F.may_fail F.faults first last) name b seed) (is_ok e.outcome ≡ true) (g.G.Gate.listened c.args.gate) (g.G.Gate.listened e.gate) c.args.words.now.bind) c.as_slice.ensures
    (listens_more _ _ _ _ _ _ _
    (λ found. finds_over (g.F.Drive.Disk.told disk) (opened_bytes (F.holds first name)) c.in-Ok.ensures.told (digest_of c.as_slice.result.now) seed (g.F.Drive.Disk.may_leave disk) (F.images first name) c.in-Ok.ensures.left found) (λ done. done) c.host_on-disk.ensures.listened)
