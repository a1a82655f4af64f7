use Rattle.std.proofs.Common.{◌∙◌, Some, [], ap, refl, sym, subst}
use Rattle.std.proofs.KnownBytes.{Keeps-refl}
use Rattle.std.specs.Prelude.{OnOk, IfErr, ⊤}
use Rattle.mw_disk.specs.Calls.{IsImage, bytes_of}
use Rattle.mw_disk.specs.Laws.{bytes_are_image}
use Rattle.mw_journal.specs.Settled.{AllShut}
use Rattle.mw_journal.proofs.Told.{on_ok_one}
use Rattle.mw_multidata.specs.Digest.{digest_of}
use Rattle.mw_protocol.specs.Lives.{new_life}
use Rattle.mw_drive.specs.Ends.{Drives, StaysSettled, StopsWith}
use Rattle.mw_drive.specs.Left.{KeepsFrom}
use Rattle.mw_drive.proofs.Passing.{if_err}
use Rattle.mw_offline.specs.Driving.{IsNewJournal, NoImages}
use Rattle.mw_offline.proofs.Driving.{from_ok, if_err_two, drives_new, stops_new, runs_new, new_left}
use Rattle.mw_offline.proofs.Keeping.{nothing_left, quiet_from}
use Rattle.mw_offline.proofs.drive_command.drive_in_memory.Goals as goal

pub returns-in_err-disk-clause-runs : goal.returns-in_err-disk-clause-runs
returns-in_err-disk-clause-runs g c = quiet_from NoImages (digest_of c.args.seed.bytes) (new_life c.args.seed.multidata [] 40) (g.O.Sink.held c.args.out.now) (g.O.Sink.held c.args.out.now) (Keeps-refl (g.O.Sink.held c.args.out.now)) nothing_left

pub returns-in-Ok-clause-done : goal.returns-in-Ok-clause-done
returns-in-Ok-clause-done g c =
    let d = c.create_on-disk.result.0 in
    let file = c.as_slice-in-Ok.result.now in
    let images = IsImage d.start d.calls in
    let left = IsImage c.drive_on.result.0.start c.drive_on.result.0.calls in
    let old = g.O.Sink.held c.args.out.now in
    let new = g.O.Sink.held c.drive_on.new.out in
    let here : images (bytes_of d.start d.calls) = bytes_are_image d.start d.calls (bytes_of d.start d.calls) refl in
    let shut : AllShut images (digest_of file) [] 40 =
    subst (λ x. AllShut images x [] 40) (c.digest.ensures ∙ ap digest_of (c.as_slice.ensures ∙ sym c.as_slice-in-Ok.ensures))
    (from_ok c.create_on-disk.result.1 (AllShut images c.digest.result [] 40) c.in-Ok.field-0 c.in-Ok.is c.create_on-disk.ensures.ok) in
    let from = g.S.Source.left c.args.input.now in
    let to = g.S.Source.left c.drive_on.new.input in
    subst (λ b. OnOk c.drive_on.result.1 (Drives IsNewJournal (Some []) NoImages (digest_of b) c.args.seed.multidata from to old new)) c.as_slice-in-Ok.ensures
    (on_ok_one c.drive_on.result.1 c.drive_on.ensures.done
    (λ drives. drives_new (bytes_of d.start d.calls) images here (digest_of file) c.args.seed.multidata shut left old new from to drives))

pub returns-in-Ok-clause-stopped : goal.returns-in-Ok-clause-stopped
returns-in-Ok-clause-stopped g c =
    let d = c.create_on-disk.result.0 in
    let file = c.as_slice-in-Ok.result.now in
    let images = IsImage d.start d.calls in
    let left = IsImage c.drive_on.result.0.start c.drive_on.result.0.calls in
    let old = g.O.Sink.held c.args.out.now in
    let new = g.O.Sink.held c.drive_on.new.out in
    let here : images (bytes_of d.start d.calls) = bytes_are_image d.start d.calls (bytes_of d.start d.calls) refl in
    let shut : AllShut images (digest_of file) [] 40 =
    subst (λ x. AllShut images x [] 40) (c.digest.ensures ∙ ap digest_of (c.as_slice.ensures ∙ sym c.as_slice-in-Ok.ensures))
    (from_ok c.create_on-disk.result.1 (AllShut images c.digest.result [] 40) c.in-Ok.field-0 c.in-Ok.is c.create_on-disk.ensures.ok) in
    let from = c.args.input.now in
    let to = c.drive_on.new.input in
    subst (λ b. IfErr c.drive_on.result.1 (StopsWith g.S.Source.left IsNewJournal (λ _. ⊥) (StaysSettled NoImages NoImages (digest_of b)) ⊤ (Some []) NoImages (digest_of b) c.args.seed.multidata from to old new))
    c.as_slice-in-Ok.ensures
    (if_err_two c.drive_on.result.1 c.drive_on.ensures.stopped c.drive_on.ensures.accepted
    (λ e stops accepted. stops_new (bytes_of d.start d.calls) images here (digest_of file) c.args.seed.multidata shut left old new g.S.Source.left from to e
    (accepted [] refl (new_left (bytes_of d.start d.calls) images here (digest_of file) c.args.seed.multidata shut)) _ stops))

pub returns-in-Ok-clause-accepted : goal.returns-in-Ok-clause-accepted
returns-in-Ok-clause-accepted g c =
    let d = c.create_on-disk.result.0 in
    let file = c.as_slice-in-Ok.result.now in
    let images = IsImage d.start d.calls in
    let here : images (bytes_of d.start d.calls) = bytes_are_image d.start d.calls (bytes_of d.start d.calls) refl in
    let shut : AllShut images (digest_of file) [] 40 =
    subst (λ x. AllShut images x [] 40) (c.digest.ensures ∙ ap digest_of (c.as_slice.ensures ∙ sym c.as_slice-in-Ok.ensures))
    (from_ok c.create_on-disk.result.1 (AllShut images c.digest.result [] 40) c.in-Ok.field-0 c.in-Ok.is c.create_on-disk.ensures.ok) in
    if_err _ _ c.drive_on.result.1 c.drive_on.ensures.accepted (λ e accepted. accepted [] refl (new_left (bytes_of d.start d.calls) images here (digest_of file) c.args.seed.multidata shut))

pub returns-in-Ok-clause-runs : goal.returns-in-Ok-clause-runs
returns-in-Ok-clause-runs g c =
    let d = c.create_on-disk.result.0 in
    let file = c.as_slice-in-Ok.result.now in
    let images = IsImage d.start d.calls in
    let left = IsImage c.drive_on.result.0.start c.drive_on.result.0.calls in
    let old = g.O.Sink.held c.args.out.now in
    let new = g.O.Sink.held c.drive_on.new.out in
    let here : images (bytes_of d.start d.calls) = bytes_are_image d.start d.calls (bytes_of d.start d.calls) refl in
    let shut : AllShut images (digest_of file) [] 40 =
    subst (λ x. AllShut images x [] 40) (c.digest.ensures ∙ ap digest_of (c.as_slice.ensures ∙ sym c.as_slice-in-Ok.ensures))
    (from_ok c.create_on-disk.result.1 (AllShut images c.digest.result [] 40) c.in-Ok.field-0 c.in-Ok.is c.create_on-disk.ensures.ok) in
    subst (λ b. KeepsFrom NoImages (digest_of b) (new_life c.args.seed.multidata [] 40) old new) c.as_slice-in-Ok.ensures
    (runs_new (bytes_of d.start d.calls) images here (digest_of file) c.args.seed.multidata shut left old new c.drive_on.ensures.found)

pub returns-clause-runs : goal.returns-clause-runs
returns-clause-runs g c = quiet_from NoImages (digest_of c.args.seed.bytes) (new_life c.args.seed.multidata [] 40) (g.O.Sink.held c.args.out.now) (g.O.Sink.held c.args.out.now) (Keeps-refl (g.O.Sink.held c.args.out.now)) nothing_left
