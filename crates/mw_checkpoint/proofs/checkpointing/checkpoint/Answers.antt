use Rattle.std.proofs.Common.{◌≡◌, ◌≤◌, ◌∙◌, inl, inr, ap, ap₂, rules, sym, subst, is_some}
use Rattle.mw_thinning.specs.Thinning.{thinned}
use Rattle.mw_checkpoint.specs.Choices.{named_in}
use Rattle.mw_checkpoint.specs.Pair.{PairStands, journal_at, pick}
use Rattle.mw_checkpoint.specs.Preparing.{RefusesPrepare}
use Rattle.mw_checkpoint.specs.Switching.{RefusesSwitch}
use Rattle.mw_checkpoint.proofs.Settling.{stand_chosen, stand_prepared, stand_settled}
use Rattle.mw_checkpoint.proofs.WholeCheckpoints.{counted, kept_chosen, kept_prepared, kept_settled, refuses_since}
use Rattle.mw_checkpoint.proofs.checkpointing.checkpoint.Goals as goal

pub returns-in-Err-clause-kept : goal.returns-in-Err-clause-kept
returns-in-Err-clause-kept g c allowed s =
    let e = c.in-Err.ensures in
    kept_settled g.D.Disk.told g.D.Disk.may_leave g.D.Disk.moment g.D.Disk.left_since g.met.D.Disk.counts_now c.args.digest.now allowed c.args.files c.in-Err.files e.journals.0 e.journals.1 e.any_moment s

pub returns-in-Err-prepare-clause-kept : goal.returns-in-Err-prepare-clause-kept
returns-in-Err-prepare-clause-kept g c allowed s =
    let e = c.in-Ok.ensures in
    let p = c.in-Err-prepare.ensures in
    kept_chosen g.D.Disk.told g.D.Disk.may_leave g.D.Disk.moment g.D.Disk.left_since g.met.D.Disk.counts_now c.args.digest.now allowed c.args.files c.in-Ok.read.0 c.in-Err-prepare.files c.in-Ok.read.1
    e.journals.0 e.journals.1 e.reads p.choice p.any_moment s

pub returns-in-Ok-switch-clause-kept : goal.returns-in-Ok-switch-clause-kept
returns-in-Ok-switch-clause-kept g c allowed s =
    let e = c.in-Ok.ensures in
    let p = c.in-Ok-prepare.ensures in
    let r = e.reads in
    let is = p.prepares.prepared r.chosen.text (r.chosen.place, r.chosen.shut) r.chosen.choices r.chosen.last in
    let w = c.in-Ok-switch.ensures in
    kept_prepared g.D.Disk.told g.D.Disk.may_leave g.D.Disk.moment g.D.Disk.left_since g.met.D.Disk.counts_now c.args.digest.now allowed c.args.files c.in-Ok.read.0 c.in-Ok.read.1
    e.journals.0 e.journals.1 r c.in-Ok-prepare.prepared p.prepares.records is p.prepares.seed p.any_moment c.in-Ok-switch.files w.journals.0 w.journals.1
    (λ f first second image left right.
    inr (w.switched r.chosen.text p.prepares.records is f first second image (subst (λ d. g.D.Disk.may_leave d first) (sym w.journals.0) left) (subst (λ d. g.D.Disk.may_leave d second) (sym w.journals.1) right)))
    s

pub returns-in-Err-switch-clause-kept : goal.returns-in-Err-switch-clause-kept
returns-in-Err-switch-clause-kept g c allowed s =
    let e = c.in-Ok.ensures in
    let p = c.in-Ok-prepare.ensures in
    let r = e.reads in
    let is = p.prepares.prepared r.chosen.text (r.chosen.place, r.chosen.shut) r.chosen.choices r.chosen.last in
    let w = c.in-Err-switch.ensures in
    kept_prepared g.D.Disk.told g.D.Disk.may_leave g.D.Disk.moment g.D.Disk.left_since g.met.D.Disk.counts_now c.args.digest.now allowed c.args.files c.in-Ok.read.0 c.in-Ok.read.1
    e.journals.0 e.journals.1 r c.in-Ok-prepare.prepared p.prepares.records is p.prepares.seed p.any_moment c.in-Err-switch.files w.journals.0 w.journals.1
    (λ f first second image left right.
    w.pairs r.chosen.text p.prepares.records is f first second
    (g.met.D.Disk.counts_now c.in-Err-switch.files.choice (g.D.Disk.moment c.in-Ok-prepare.prepared.files.choice) f (w.any_moment r.chosen.text p.prepares.records is).later image) left right)
    s

pub returns-in-Err-clause-settled : goal.returns-in-Err-clause-settled
returns-in-Err-clause-settled g c allowed s some =
    let e = c.in-Err.ensures in
    stand_settled g.D.Disk.told g.D.Disk.may_leave g.D.Disk.moment g.D.Disk.left_since g.met.D.Disk.counts_now c.args.digest.now allowed c.args.files c.in-Err.files e.journals.0 e.journals.1 e.any_moment s

pub returns-in-Err-prepare-clause-settled : goal.returns-in-Err-prepare-clause-settled
returns-in-Err-prepare-clause-settled g c allowed s some =
    let e = c.in-Ok.ensures in
    let p = c.in-Err-prepare.ensures in
    stand_chosen g.D.Disk.told g.D.Disk.may_leave g.D.Disk.moment g.D.Disk.left_since g.met.D.Disk.counts_now c.args.digest.now allowed c.args.files c.in-Ok.read.0 c.in-Err-prepare.files c.in-Ok.read.1
    e.journals.0 e.journals.1 e.reads p.choice p.any_moment s

pub returns-in-Ok-switch-clause-settled : goal.returns-in-Ok-switch-clause-settled
returns-in-Ok-switch-clause-settled g c allowed s some =
    let e = c.in-Ok.ensures in
    let p = c.in-Ok-prepare.ensures in
    let r = e.reads in
    let is = p.prepares.prepared r.chosen.text (r.chosen.place, r.chosen.shut) r.chosen.choices r.chosen.last in
    let w = c.in-Ok-switch.ensures in
    stand_prepared g.D.Disk.told g.D.Disk.may_leave g.D.Disk.moment g.D.Disk.left_since g.met.D.Disk.counts_now c.args.digest.now allowed c.args.files c.in-Ok.read.0 c.in-Ok.read.1
    e.journals.0 e.journals.1 r c.in-Ok-prepare.prepared p.prepares.records is p.prepares.seed p.prepares.one c.in-Ok-switch.files w.journals.0 w.journals.1
    (w.any_moment r.chosen.text p.prepares.records is) s some

pub returns-in-Err-switch-clause-settled : goal.returns-in-Err-switch-clause-settled
returns-in-Err-switch-clause-settled g c allowed s some =
    let e = c.in-Ok.ensures in
    let p = c.in-Ok-prepare.ensures in
    let r = e.reads in
    let is = p.prepares.prepared r.chosen.text (r.chosen.place, r.chosen.shut) r.chosen.choices r.chosen.last in
    let w = c.in-Err-switch.ensures in
    stand_prepared g.D.Disk.told g.D.Disk.may_leave g.D.Disk.moment g.D.Disk.left_since g.met.D.Disk.counts_now c.args.digest.now allowed c.args.files c.in-Ok.read.0 c.in-Ok.read.1
    e.journals.0 e.journals.1 r c.in-Ok-prepare.prepared p.prepares.records is p.prepares.seed p.prepares.one c.in-Err-switch.files w.journals.0 w.journals.1
    (w.any_moment r.chosen.text p.prepares.records is) s some

pub returns-in-Ok-switch-clause-done : goal.returns-in-Ok-switch-clause-done
returns-in-Ok-switch-clause-done g c =
    let e = c.in-Ok.ensures in
    let p = c.in-Ok-prepare.ensures in
    let r = e.reads in
    let is = p.prepares.prepared r.chosen.text (r.chosen.place, r.chosen.shut) r.chosen.choices r.chosen.last in
    let w = c.in-Ok-switch.ensures in
    let named : journal_at c.in-Ok.read.1 c.in-Ok.read.0 ≡ journal_at (named_in r.chosen.text) c.args.files =
    ap₂ (λ a b. pick c.in-Ok.read.1 a b) e.journals.0 e.journals.1 ∙ ap (λ n. journal_at n c.args.files) r.chosen.last in record {
      text = r.chosen.text;
      records = p.prepares.records;
      names = λ f told. (r.chosen.place, r.stands f told);
      choices = r.chosen.choices;
      reads = λ f told. p.prepares.stands f (ap g.D.Disk.told named ∙ told);
      spelled = is.spelled;
      stands = λ f first second image left right.
          subst (λ d. PairStands f first second d (thinned p.prepares.records)) p.prepares.seed (w.switched r.chosen.text p.prepares.records is f first second image left right);
      of = w.kept.1 ∙ is.of;
      left = w.kept.0 ∙ is.kept;
    }

pub returns-in-Ok-switch-clause-count : goal.returns-in-Ok-switch-clause-count
returns-in-Ok-switch-clause-count g c =
    let e = c.in-Ok.ensures in
    let p = c.in-Ok-prepare.ensures in
    let w = c.in-Ok-switch.ensures in
    counted g.D.Disk.faults c.in-Ok.read.1 c.args.files c.in-Ok.read.0 c.in-Ok-prepare.prepared.files c.in-Ok-switch.files e.count e.journals.0 e.journals.1 p.choice p.count.0 p.count.1 w.count w.journals.0 w.journals.1

pub returns-in-Err-switch-clause-count : goal.returns-in-Err-switch-clause-count
returns-in-Err-switch-clause-count g c =
    let e = c.in-Ok.ensures in
    let p = c.in-Ok-prepare.ensures in
    let w = c.in-Err-switch.ensures in
    counted g.D.Disk.faults c.in-Ok.read.1 c.args.files c.in-Ok.read.0 c.in-Ok-prepare.prepared.files c.in-Err-switch.files e.count e.journals.0 e.journals.1 p.choice p.count.0 p.count.1 w.count w.journals.0 w.journals.1

pub returns-in-Err-switch-clause-refused : goal.returns-in-Err-switch-clause-refused
returns-in-Err-switch-clause-refused g c =
    let e = c.in-Ok.ensures in
    let p = c.in-Ok-prepare.ensures in
    let w = c.in-Err-switch.ensures in
    let made = c.in-Ok-prepare.prepared in
    let told = g.D.Disk.told made.files.choice in
    let after = g.D.Disk.faults c.in-Err-switch.files.choice in
    inr (inr (
      told,
      ap (λ d. is_some (g.D.Disk.told d)) p.choice ∙ e.tells,
      refuses_since told c.args.digest.now (g.D.Disk.faults c.args.files.choice) (g.D.Disk.faults made.files.choice) after c.in-Err-switch.error
          (subst (λ d. g.D.Disk.faults c.args.files.choice ≤ g.D.Disk.faults d) (sym p.choice) e.count)
          (subst (λ d. RefusesSwitch told d (g.D.Disk.faults made.files.choice) after c.in-Err-switch.error) p.prepares.seed w.refused),
      (λ f is. w.settled f is),
    ))

pub returns-in-Err-prepare-clause-refused : goal.returns-in-Err-prepare-clause-refused
returns-in-Err-prepare-clause-refused g c =
    let r = c.in-Ok.ensures.reads in
    let D = g.D.Disk in
    let refused : RefusesPrepare D.told D.faults c.args.digest.now c.in-Ok.read.1 c.args.files c.in-Err-prepare.files c.in-Err-prepare.error = search rules in
    inr (inl (
      r.chosen.text,
      (λ f told. (r.chosen.place, r.stands f told)),
      subst (λ n. RefusesPrepare D.told D.faults c.args.digest.now n c.args.files c.in-Err-prepare.files c.in-Err-prepare.error) r.chosen.last refused,
    ))
