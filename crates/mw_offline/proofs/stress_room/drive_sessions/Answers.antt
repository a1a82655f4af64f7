use Rattle.std.proofs.Common.{◌≡◌, ◌∙◌, ◌<◌, [], Some, Err, arith, ap, refl}
use Rattle.mw_disk.specs.Calls.{DiskHistory, IsImage, bytes_of}
use Rattle.mw_disk.specs.Laws.{bytes_are_image}
use Rattle.mw_journal.specs.Settled.{AllShut}
use Rattle.mw_drive.specs.Drive.{stop}
use Rattle.mw_offline.specs.Stressing.{all_taken, first_life}
use Rattle.mw_offline.proofs.Driving.{from_ok}
use Rattle.mw_offline.proofs.NeverFull.{never_full}
use Rattle.mw_offline.proofs.Sessions.{new_going, new_keeps, only_memory}
use Rattle.mw_offline.proofs.stress_room.drive_sessions.Goals as goal

pub returns-in-Ok-act_all : goal.returns-in-Ok-act_all
returns-in-Ok-act_all c =
    let d = c.create_on-disk.result.0 in
    let told = λ (d : DiskHistory). Some (bytes_of d.start d.calls) in
    let images = λ (d : DiskHistory). IsImage d.start d.calls in
    let digest = c.digest-digest.result in
    let seed = c.args.multidata in
    let held = bytes_of d.start d.calls in
    let here = bytes_are_image d.start d.calls held refl in
    let shut = from_ok c.create_on-disk.result.1 (AllShut (images d) digest [] 40) c.in-Ok.field-0 c.in-Ok.is c.create_on-disk.ensures.ok in
    let k = c.in-Ok-resume.kept in
    let resumes = c.in-Ok-resume.ensures.resumes in
    c.in-Ok-act_all.ensures.ok digest seed (first_life seed) (new_keeps told images digest seed d k resumes held refl here shut) (new_going told images digest seed d k resumes held refl here shut)
    ∙ ap (all_taken (first_life seed)) c.in_ok-calls.ensures

pub want_of_memory-requires : goal.want_of_memory-requires
want_of_memory-requires c =
    let d = c.create_on-disk.result.0 in
    let told = λ (d : DiskHistory). Some (bytes_of d.start d.calls) in
    let images = λ (d : DiskHistory). IsImage d.start d.calls in
    let digest = c.digest-digest.result in
    let seed = c.args.multidata in
    let held = bytes_of d.start d.calls in
    let here = bytes_are_image d.start d.calls held refl in
    let shut = from_ok c.create_on-disk.result.1 (AllShut (images d) digest [] 40) c.in-Ok.field-0 c.in-Ok.is c.create_on-disk.ensures.ok in
    let k = c.in-Ok-resume.kept in
    let resumes = c.in-Ok-resume.ensures.resumes in
    let keeps = new_keeps told images digest seed d k resumes held refl here shut in
    let going = new_going told images digest seed d k resumes held refl here shut in
    only_memory c.in-Err.error c.in-Err.ensures.own
    (λ full.
    let stopped = c.in-Err.ensures.full (ap Err full) digest seed (first_life seed) keeps going in
    let runs = never_full seed c.args.many c.requires in
    let same = ap (stop (first_life seed)) c.in_ok-calls.ensures in
    cc)
    (λ fault. omega (arith, c.in-Err.ensures.fault (ap Err fault) digest seed (first_life seed) keeps going))
