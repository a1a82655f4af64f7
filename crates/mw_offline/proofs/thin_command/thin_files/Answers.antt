use Rattle.std.proofs.Common.{subst, sym}
use Rattle.mw_pair.specs.Thinning.{AreThinned, KeepAllowed, KeepSettled, RefusesThin}
use Rattle.mw_offline.specs.FilesAround.{files_around}
use Rattle.mw_offline.specs.ThinRuns.{ThinFails}
use Rattle.mw_offline.proofs.PairFiles.{thin_keeps, thin_refused, thinned_in, unread_keeps}
use Rattle.mw_offline.proofs.thin_command.thin_files.Goals as goal

pub returns-in_err-digest-clause-keeps : goal.returns-in_err-digest-clause-keeps
returns-in_err-digest-clause-keeps g c =
    let F = g.F.Folder in
    let second = c.read_digest.new.folder in
    let read = c.in_err-digest.ensures in
    unread_keeps F.holds F.images F.is_open F.may_fail F.faults c.args.folder.now second second read.same read.crash read.opened c.args.words.now

pub returns-in_err-names-clause-keeps : goal.returns-in_err-names-clause-keeps
returns-in_err-names-clause-keeps g c =
    let F = g.F.Folder in
    let second = c.read_digest.new.folder in
    let read = c.in_ok-digest.ensures in
    unread_keeps F.holds F.images F.is_open F.may_fail F.faults c.args.folder.now second second read.same read.crash read.opened c.args.words.now

pub returns-in-Ok-clause-thinned : goal.returns-in-Ok-clause-thinned
returns-in-Ok-clause-thinned g c =
    let F = g.F.Folder in
    let second = c.read_digest.new.folder in
    let last = c.thin_pair.new.folder in
    let read = c.in_ok-digest.ensures in
    let digest = c.in_ok-digest.digest in
    thinned_in F.holds F.images F.is_open F.may_fail F.faults c.args.folder.now second last read.same read.crash read.opened c.args.words.now digest read.ok c.in-Ok.kept
    (subst (λ n. AreThinned (F.holds second) (F.images last) n digest c.in-Ok.kept) c.in_ok-names.ensures c.in-Ok.ensures.thinned)

pub returns-in-Ok-clause-keeps : goal.returns-in-Ok-clause-keeps
returns-in-Ok-clause-keeps g c =
    let F = g.F.Folder in
    let second = c.read_digest.new.folder in
    let last = c.thin_pair.new.folder in
    let read = c.in_ok-digest.ensures in
    let digest = c.in_ok-digest.digest in
    thin_keeps F.holds F.images F.is_open F.may_fail F.faults c.args.folder.now second last read.same read.crash read.opened c.args.words.now digest read.ok
    (subst (λ n. KeepAllowed (F.holds second) (F.images second) (F.images last) n digest) c.in_ok-names.ensures c.in-Ok.ensures.kept)
    (subst (λ n. KeepSettled (F.holds second) (F.images second) (F.images last) n digest) c.in_ok-names.ensures c.in-Ok.ensures.settled)

pub returns-clause-keeps : goal.returns-clause-keeps
returns-clause-keeps g c =
    let F = g.F.Folder in
    let second = c.read_digest.new.folder in
    let last = c.thin_pair.new.folder in
    let read = c.in_ok-digest.ensures in
    let digest = c.in_ok-digest.digest in
    thin_keeps F.holds F.images F.is_open F.may_fail F.faults c.args.folder.now second last read.same read.crash read.opened c.args.words.now digest read.ok
    (subst (λ n. KeepAllowed (F.holds second) (F.images second) (F.images last) n digest) c.in_ok-names.ensures c.in-Err.ensures.kept)
    (subst (λ n. KeepSettled (F.holds second) (F.images second) (F.images last) n digest) c.in_ok-names.ensures c.in-Err.ensures.settled)

pub returns-clause-fails : goal.returns-clause-fails
returns-clause-fails g c =
    let F = g.F.Folder in
    let first = c.args.folder.now in
    let second = c.read_digest.new.folder in
    let last = c.thin_pair.new.folder in
    let read = c.in_ok-digest.ensures in
    let digest = c.in_ok-digest.digest in
    subst (ThinFails (files_around F.holds F.images F.is_open F.may_fail F.faults first last) c.args.words.now) (sym c.thin_stop.ensures)
    (thin_refused F.holds F.images F.is_open F.may_fail F.faults first second last read.same read.crash read.opened c.args.words.now digest read.ok c.in-Err.error
    (subst (λ n. RefusesThin (F.holds second) n digest c.in-Err.error) c.in_ok-names.ensures c.in-Err.ensures.refused))
