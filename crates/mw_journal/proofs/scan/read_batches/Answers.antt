use Rattle.std.proofs.Common.{◌∙◌, ◌+◌, ℕ, drop, take, refl, sym, ap, subst, inr, arith, Some}
use Rattle.mw_journal.specs.Opening.{Reaches}
use Rattle.mw_journal.specs.Scan.{EndsBefore, NoSeed}
use Rattle.mw_journal.proofs.Batches.{reaches_more}
use Rattle.mw_journal.proofs.Gates.{body_wrong}
use Rattle.mw_journal.proofs.Reading.{both}
use Rattle.mw_journal.proofs.Told.{refuses_open}
use Rattle.mw_journal.proofs.scan.read_batches.Goals as goal

pub returns-in-Err-read_body-clause-refused : goal.returns-in-Err-read_body-clause-refused
returns-in-Err-read_body-clause-refused g c =
    let told = g.D.Disk.told c.args.disk.now in
    let place = c.loop-gate.place in
    let size = c.in-Ok-Open.size in
    let so_far = c.loop-gate.invariant in
    let sees = rw c.in-Ok-Open.field-0-is at c.in-Ok-Open.ensures.sees in
    let fits = rw c.in-Ok-Open.field-0-is at c.in-Ok-Open.ensures.fits in
    refuses_open told c.args._digest.now (EndsBefore (g.D.Disk.told c.read_gate.new.disk) (place + 5) size) NoSeed
    (g.D.Disk.faults c.args.disk.now) (g.D.Disk.faults c.read_gate.new.disk) (g.D.Disk.faults c.read_body.new.disk)
    c.in-Err-read_body.error (omega (arith, so_far.reads.later, c.read_gate.ensures.reads.later)) c.in-Err-read_body.ensures.refused
    (λ at ends f is.
    let now = so_far.reads.same ∙ is in
    let reaches = so_far.so_far f is in
    inr (
      reaches.0,
      place,
      drop place f,
      reaches.1,
      body_wrong f place size fits.0 fits.1 fits.2 (sees f now) (ends.1 f (c.read_gate.ensures.reads.same ∙ now)) ∙ ap (λ (n : ℕ). Some n) (sym ends.0),
    ))
    (λ found none. absurd none)

pub loop-gate-preserved : goal.loop-gate-preserved
loop-gate-preserved g c =
    let so_far = c.loop-gate.invariant in
    let sees = rw c.in-Ok-Open.field-0-is at c.in-Ok-Open.ensures.sees in
    let fits = rw c.in-Ok-Open.field-0-is at c.in-Ok-Open.ensures.fits in
    let run = both g.D.Disk.told g.D.Disk.may_leave g.D.Disk.moment g.D.Disk.left_since g.D.Disk.faults
    c.args.disk.now c.loop-gate.disk c.read_gate.new.disk so_far.reads c.read_gate.ensures.reads in
    record {
      near = omega (arith, fits.0, fits.2, c.from.ensures);
      reads = both g.D.Disk.told g.D.Disk.may_leave g.D.Disk.moment g.D.Disk.left_since g.D.Disk.faults
          c.args.disk.now c.read_gate.new.disk c.read_body.new.disk run c.read_body.ensures.reads;
      so_far = λ f told.
          let now = so_far.reads.same ∙ told in
          let body = c.in_default.ensures.bytes f (c.read_gate.ensures.reads.same ∙ now) in
          let more = reaches_more f c.args._digest.now c.loop-gate.text.items c.read_body.new.text.items
          (take c.in-Ok-Open.size (drop (c.loop-gate.place + 5) f)) c.loop-gate.place c.in-Ok-Open.size
          (so_far.so_far f told) (sees f now) refl body.0 fits.0 fits.1 fits.2 body.1 in
          subst (λ n. Reaches f c.args._digest.now c.read_body.new.text.items (c.loop-gate.place + (5 + n))) (sym c.from.ensures) more;
    }
