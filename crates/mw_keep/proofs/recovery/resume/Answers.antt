use Rattle.std.proofs.Common.{◌≡◌, ◌∙◌, ℕ, List, sym, ap, subst}
use Rattle.mw_disk.specs.Crash.{LeavesOnly}
use Rattle.mw_protocol.specs.Lives.{life_after_all}
use Rattle.mw_protocol.specs.Rooms.{replayed}
use Rattle.mw_protocol.specs.Spelled.{records_bytes}
use Rattle.mw_room.specs.Represents.{Represents}
use Rattle.mw_journal.specs.Image.{StandsAt}
use Rattle.mw_journal.specs.Journal.{StandsFor, disk_of, gate_of}
use Rattle.mw_journal.specs.Settled.{IsSettled}
use Rattle.mw_keep.specs.Entered.{RefusesText}
use Rattle.mw_keep.specs.Holds.{IsSafe}
use Rattle.mw_keep.specs.Keeps.{journal_of, room_of}
use Rattle.mw_keep.specs.Recovers.{IsNoJournal, IsOutside, RefusesResume}
use Rattle.mw_keep.proofs.Entering.{whole_text}
use Rattle.mw_keep.proofs.Going.{goes_on_from, left_accepted}
use Rattle.mw_keep.proofs.Lived.{fresh_lived, new_keeps}
use Rattle.mw_keep.proofs.Resuming.{never_of_text, of_bytes, one_of, outside_as, outside_text, refuses_as, refuses_text}
use Rattle.mw_keep.proofs.recovery.resume.Goals as goal

pub returns-in-Ok-enter_all-clause-fresh : goal.returns-in-Ok-enter_all-clause-fresh
returns-in-Ok-enter_all-clause-fresh g c = fresh_lived g.D.Disk.may_leave g.D.Disk.told g.D.Disk.faults c.new.result c.new.ensures.fresh
    (λ r stands. c.new.ensures.committed r (subst (λ x. Represents x r) c.new.ensures.room stands))

pub returns-in-Ok-enter_all-clause-disk : goal.returns-in-Ok-enter_all-clause-disk
returns-in-Ok-enter_all-clause-disk g c = ap disk_of (sym c.new.ensures.fresh.journal)

pub returns-in-Ok-enter_all-clause-resumes : goal.returns-in-Ok-enter_all-clause-resumes
returns-in-Ok-enter_all-clause-resumes g c =
    let may_leave = g.D.Disk.may_leave in
    let fresh = c.new.ensures.fresh in
    let h = c.in-Ok-enter_all.ensures.entered c.args.multidata c.in-Ok.ensures in
    let digest = c.args.digest.now in
    let is : c.in-Ok-open.text ≡ records_bytes h.journal = sym c.as_slice.ensures ∙ whole_text c.args.multidata c.as_slice.result.now c.enter_all.new.room h in
    let place = gate_of c.in-Ok-open.journal in
    let stands : Represents (room_of c.new.result) (replayed c.args.multidata h.journal) = subst (λ r. Represents r (replayed c.args.multidata h.journal)) (sym c.new.ensures.room) h.stands in
    let safe : IsSafe may_leave digest h.journal place (journal_of c.new.result) = record {
      stands = subst (λ j. StandsFor may_leave digest (records_bytes h.journal) j) (sym c.new.ensures.journal)
          (subst (λ (t : List ℕ). StandsFor may_leave digest t c.in-Ok-open.journal) is c.in-Ok-open.ensures.ok);
      here = ap gate_of c.new.ensures.journal;
    } in
    record {
      journal = h.journal;
      place = place;
      keeps = new_keeps may_leave digest c.args.multidata h.journal place c.new.result fresh (λ r is_so. c.new.ensures.committed r (subst (λ x. Represents x r) c.new.ensures.room is_so)) stands h.sound.spelled safe;
      began = record {
        room = subst (λ r. Represents r (replayed c.args.multidata h.journal)) fresh.room stands;
        records = h.sound.spelled;
        journal_holds = subst (λ j. IsSafe may_leave digest h.journal place j) fresh.journal safe;
      };
      whole = safe.stands.0;
      sound = h.sound;
      stands = λ f told. subst (λ (t : List ℕ). StandsAt f digest t place) is (c.in-Ok-open.ensures.stands f told);
      one = λ f kept batch told first second settled. one_of c.in-Ok-open.text h.journal kept batch is h.sound.spelled first second
          (c.in-Ok-open.ensures.one f (records_bytes kept) (records_bytes batch) told settled);
    }

pub returns-in-Ok-enter_all-clause-goes_on : goal.returns-in-Ok-enter_all-clause-goes_on
returns-in-Ok-enter_all-clause-goes_on g c life was =
    goes_on_from g.D.Disk.told g.D.Disk.may_leave c.args.digest.now c.args.multidata c.args.disk c.new.result life (returns-in-Ok-enter_all-clause-resumes g c) was

pub returns-in-Ok-enter_all-clause-any_moment : goal.returns-in-Ok-enter_all-clause-any_moment
returns-in-Ok-enter_all-clause-any_moment g c text body settled =
    subst (λ d. LeavesOnly g.D.Disk.moment g.D.Disk.left_since c.args.disk d (λ f. IsSettled f c.args.digest.now text body))
    (sym (ap disk_of c.new.ensures.journal)) (c.in-Ok-open.ensures.any_moment text body settled)

pub returns-in-Err-enter_all-clause-refused : goal.returns-in-Err-enter_all-clause-refused
returns-in-Err-enter_all-clause-refused g c =
    refuses_text (g.D.Disk.told c.args.disk) c.args.digest.now c.args.multidata (g.D.Disk.faults c.args.disk) (g.D.Disk.faults c.into_disk.result)
    c.in-Ok-open.text (gate_of c.in-Ok-open.journal) c.in-Err-enter_all.error
    (subst (λ (t : List ℕ). RefusesText c.args.multidata t c.in-Err-enter_all.error) c.as_slice.ensures
    (c.in-Err-enter_all.ensures.refused c.args.multidata c.in-Ok.ensures))
    c.in-Ok-open.ensures.stands

pub returns-in-Err-enter_all-clause-settled : goal.returns-in-Err-enter_all-clause-settled
returns-in-Err-enter_all-clause-settled g c f kept batch told sound more settled =
    outside_text c.args.multidata c.in-Ok-open.text kept batch c.in-Err-enter_all.error sound more
    (c.in-Ok-open.ensures.one f (records_bytes kept) (records_bytes batch) told settled)
    (subst (λ (t : List ℕ). RefusesText c.args.multidata t c.in-Err-enter_all.error) c.as_slice.ensures
    (c.in-Err-enter_all.ensures.refused c.args.multidata c.in-Ok.ensures))

pub returns-in-Err-enter_all-clause-any_moment : goal.returns-in-Err-enter_all-clause-any_moment
returns-in-Err-enter_all-clause-any_moment g c text body settled =
    subst (λ d. LeavesOnly g.D.Disk.moment g.D.Disk.left_since c.args.disk d (λ f. IsSettled f c.args.digest.now text body))
    (sym c.into_disk.ensures) (c.in-Ok-open.ensures.any_moment text body settled)

pub returns-in-Err-clause-refused : goal.returns-in-Err-clause-refused
returns-in-Err-clause-refused g c =
    subst (RefusesResume (g.D.Disk.told c.args.disk) c.args.digest.now c.args.multidata (g.D.Disk.faults c.args.disk) (g.D.Disk.faults c.in-Err.disk))
    (sym c.keep_error.ensures)
    (refuses_as (g.D.Disk.told c.args.disk) c.args.digest.now c.args.multidata (g.D.Disk.faults c.args.disk) (g.D.Disk.faults c.in-Err.disk)
    c.in-Err.error c.in-Err.ensures.refused)

pub returns-in-Err-clause-settled : goal.returns-in-Err-clause-settled
returns-in-Err-clause-settled g c f kept batch told sound more settled =
    subst IsOutside (sym c.keep_error.ensures)
    (outside_as c.in-Err.error (c.in-Err.ensures.settled f (records_bytes kept) (records_bytes batch) told settled))

pub returns-in-Err-clause-read : goal.returns-in-Err-clause-read
returns-in-Err-clause-read g c none = c.in-Err.ensures.read (of_bytes c.in-Err.error (subst IsNoJournal c.keep_error.ensures none))

pub returns-in-Err-enter_all-clause-read : goal.returns-in-Err-enter_all-clause-read
returns-in-Err-enter_all-clause-read g c none = absurd
    (never_of_text c.args.multidata c.as_slice.result.now c.in-Err-enter_all.error (c.in-Err-enter_all.ensures.refused c.args.multidata c.in-Ok.ensures) none)

pub returns-in-Err-enter_all-clause-accepted : goal.returns-in-Err-enter_all-clause-accepted
returns-in-Err-enter_all-clause-accepted g c steps was =
    left_accepted (g.D.Disk.told c.args.disk) (g.D.Disk.may_leave c.args.disk) c.args.digest.now c.args.multidata (life_after_all c.args.multidata steps) c.in-Err-enter_all.error
    (c.journals_are_named.ensures.journal c.args.multidata steps c.names_fit.ensures) (returns-in-Err-enter_all-clause-settled g c) was

pub returns-in-Err-clause-accepted : goal.returns-in-Err-clause-accepted
returns-in-Err-clause-accepted g c steps was =
    left_accepted (g.D.Disk.told c.args.disk) (g.D.Disk.may_leave c.args.disk) c.args.digest.now c.args.multidata (life_after_all c.args.multidata steps) c.keep_error.result
    (c.journals_are_named.ensures.journal c.args.multidata steps c.names_fit.ensures) (returns-in-Err-clause-settled g c) was
