use Rattle.std.proofs.Common.{◌∙◌, ap, subst}
use Rattle.mw_multidata.specs.Digest.{digest_of}
use Rattle.mw_pair.specs.Choosing.{RefusesChoice}
use Rattle.mw_offline.specs.FilesAround.{files_around}
use Rattle.mw_offline.specs.PairDriving.{IsRefusedChoice}
use Rattle.mw_offline.specs.PairFiles.{PairUnplayed}
use Rattle.mw_offline.proofs.PairDriving.{memory_refused, named_refused}
use Rattle.mw_offline.proofs.pair_room.open_named.Goals as goal

pub returns-in-Err-clause-refused : goal.returns-in-Err-clause-refused
returns-in-Err-clause-refused g c =
    let F = g.F.Folder in
    memory_refused F.holds F.images F.is_open F.may_fail F.faults c.args.folder.now c.args.choice.now (digest_of c.args.seed.bytes)

pub returns-in-Err-open_chosen-clause-refused : goal.returns-in-Err-open_chosen-clause-refused
returns-in-Err-open_chosen-clause-refused g c =
    let F = g.F.Folder in
    let first = c.args.folder.now in
    let last = c.open_chosen.new.folder in
    let files = files_around F.holds F.images F.is_open F.may_fail F.faults first last in
    let e = c.in-Err-open_chosen.ensures in
    let names = c.in-Ok.ensures in
    subst (λ d. IsRefusedChoice files c.args.choice.now d c.choice_stop.result) (c.digest.ensures ∙ ap digest_of c.as_slice.ensures)
    (named_refused F.holds F.images F.is_open F.may_fail F.faults first last c.args.choice.now c.digest.result c.in-Err-open_chosen.error c.choice_stop.result c.choice_stop.ensures
    (subst (λ n. RefusesChoice (F.holds first) n c.digest.result c.in-Err-open_chosen.error) names e.refused)
    (subst (λ n. PairUnplayed files n c.digest.result) names e.unplayed))
