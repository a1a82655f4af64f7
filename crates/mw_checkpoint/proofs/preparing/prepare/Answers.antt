use Rattle.std.proofs.Common.{◌∙◌, List, map, sym, ap, subst}
use Rattle.std.proofs.lemmas.List.{length-map}
use Rattle.mw_journal.specs.Settled.{AllSettled}
use Rattle.mw_protocol.specs.Records.{Record}
use Rattle.mw_records.specs.Records.{record_view}
use Rattle.mw_checkpoint.specs.Pair.{HoldsText, IsPrepared, journal_at}
use Rattle.mw_checkpoint.proofs.Carrying.{AreSafe, prepared, carried, pairs}
use Rattle.mw_checkpoint.proofs.preparing.prepare.Goals as goal

pub new-requires : goal.new-requires
new-requires g c =
    let records : List Record = map record_view c.in-Ok.read.1 in
    let safe : AreSafe g.D.Disk.may_leave c.args.digest.now c.args.named records c.args.files c.join-files.result = record {
      choice = c.join-files.ensures.choice ∙ c.split-choice.ensures.choice;
      chosen = subst (HoldsText g.D.Disk.may_leave c.args.digest.now _) (sym c.join-files.ensures.chosen) c.in-Ok.ensures.holds;
      thin = subst (HoldsText g.D.Disk.may_leave c.args.digest.now _) (sym c.join-files.ensures.other)
          (subst (λ s. HoldsText g.D.Disk.may_leave c.args.digest.now s c.in-Ok-write_anew.other) c.in-Ok-thin_bytes.ensures.bytes c.in-Ok-write_anew.ensures.ok);
      spelled = c.in-Ok.ensures.records;
    } in (
      c.requires.text,
      records,
      prepared g.D.Disk.may_leave c.args.digest.now c.args.named records c.args.files c.join-files.result c.other_number-number.result c.in-Ok-thin_bytes.thinned.0 c.len-of.result
          safe c.other_number-number.ensures c.in-Ok-thin_bytes.ensures.count (c.len-of.ensures ∙ sym (length-map c.in-Ok.read.1 record_view))
          c.requires.text (c.requires.place, c.requires.shut) c.requires.choices c.requires.last,
    )

pub returns-in-Ok-write_anew-clause-prepares : goal.returns-in-Ok-write_anew-clause-prepares
returns-in-Ok-write_anew-clause-prepares g c =
    let records : List Record = map record_view c.in-Ok.read.1 in
    let start = c.split-choice.ensures.chosen in
    let safe : AreSafe g.D.Disk.may_leave c.args.digest.now c.args.named records c.args.files c.join-files.result = record {
      choice = c.join-files.ensures.choice ∙ c.split-choice.ensures.choice;
      chosen = subst (HoldsText g.D.Disk.may_leave c.args.digest.now _) (sym c.join-files.ensures.chosen) c.in-Ok.ensures.holds;
      thin = subst (HoldsText g.D.Disk.may_leave c.args.digest.now _) (sym c.join-files.ensures.other)
          (subst (λ s. HoldsText g.D.Disk.may_leave c.args.digest.now s c.in-Ok-write_anew.other) c.in-Ok-thin_bytes.ensures.bytes c.in-Ok-write_anew.ensures.ok);
      spelled = c.in-Ok.ensures.records;
    } in
    record {
      records = records;
      prepared = λ text holds choices last. subst (IsPrepared g.D.Disk.may_leave text records) (sym c.new.ensures)
          (prepared g.D.Disk.may_leave c.args.digest.now c.args.named records c.args.files c.join-files.result c.other_number-number.result c.in-Ok-thin_bytes.thinned.0 c.len-of.result
          safe c.other_number-number.ensures c.in-Ok-thin_bytes.ensures.count (c.len-of.ensures ∙ sym (length-map c.in-Ok.read.1 record_view))
          text holds choices last);
      seed = ap (λ m. m.digest) c.new.ensures;
      choice = ap (λ m. m.files.choice) c.new.ensures ∙ safe.choice;
      stands = λ f told. c.in-Ok.ensures.stands f (ap g.D.Disk.told start ∙ told);
      one = λ f text body told settled. c.in-Ok.ensures.one f text body (ap g.D.Disk.told start ∙ told)
          (subst (λ d. AllSettled (g.D.Disk.may_leave d) c.args.digest.now text body) (sym start) settled);
    }

pub returns-in-Err-clause-any_moment : goal.returns-in-Err-clause-any_moment
returns-in-Err-clause-any_moment g c =
    carried g.D.Disk.may_leave g.D.Disk.moment g.D.Disk.left_since c.args.digest.now c.split-choice.result.1 (journal_at c.args.named c.args.files) c.in-Err.chosen
    (journal_at c.args.named c.join.result) c.split-choice.ensures.chosen c.join.ensures.chosen c.in-Err.ensures.any_moment

pub returns-in-Err-clause-pairs : goal.returns-in-Err-clause-pairs
returns-in-Err-clause-pairs g c =
    pairs g.D.Disk.may_leave g.D.Disk.moment g.D.Disk.left_since c.args.digest.now c.args.named c.args.files (journal_at c.args.named c.join.result)
    (returns-in-Err-clause-any_moment g c)

pub returns-in-Err-thin_bytes-clause-any_moment : goal.returns-in-Err-thin_bytes-clause-any_moment
returns-in-Err-thin_bytes-clause-any_moment g c =
    carried g.D.Disk.may_leave g.D.Disk.moment g.D.Disk.left_since c.args.digest.now c.split-choice.result.1 (journal_at c.args.named c.args.files) c.in-Ok.read.0
    (journal_at c.args.named c.join-in-Err-thin_bytes.result) c.split-choice.ensures.chosen c.join-in-Err-thin_bytes.ensures.chosen c.in-Ok.ensures.any_moment

pub returns-in-Err-thin_bytes-clause-pairs : goal.returns-in-Err-thin_bytes-clause-pairs
returns-in-Err-thin_bytes-clause-pairs g c =
    pairs g.D.Disk.may_leave g.D.Disk.moment g.D.Disk.left_since c.args.digest.now c.args.named c.args.files (journal_at c.args.named c.join-in-Err-thin_bytes.result)
    (returns-in-Err-thin_bytes-clause-any_moment g c)

pub returns-in-Ok-write_anew-clause-any_moment : goal.returns-in-Ok-write_anew-clause-any_moment
returns-in-Ok-write_anew-clause-any_moment g c =
    carried g.D.Disk.may_leave g.D.Disk.moment g.D.Disk.left_since c.args.digest.now c.split-choice.result.1 (journal_at c.args.named c.args.files) c.in-Ok.read.0
    (journal_at c.args.named c.new.result.files) c.split-choice.ensures.chosen (ap (λ m. journal_at c.args.named m.files) c.new.ensures ∙ c.join-files.ensures.chosen) c.in-Ok.ensures.any_moment

pub returns-in-Ok-write_anew-clause-pairs : goal.returns-in-Ok-write_anew-clause-pairs
returns-in-Ok-write_anew-clause-pairs g c =
    pairs g.D.Disk.may_leave g.D.Disk.moment g.D.Disk.left_since c.args.digest.now c.args.named c.args.files (journal_at c.args.named c.new.result.files)
    (returns-in-Ok-write_anew-clause-any_moment g c)

pub returns-clause-any_moment : goal.returns-clause-any_moment
returns-clause-any_moment g c =
    carried g.D.Disk.may_leave g.D.Disk.moment g.D.Disk.left_since c.args.digest.now c.split-choice.result.1 (journal_at c.args.named c.args.files) c.in-Ok.read.0
    (journal_at c.args.named c.join-in-Err-write_anew.result) c.split-choice.ensures.chosen c.join-in-Err-write_anew.ensures.chosen c.in-Ok.ensures.any_moment

pub returns-clause-pairs : goal.returns-clause-pairs
returns-clause-pairs g c =
    pairs g.D.Disk.may_leave g.D.Disk.moment g.D.Disk.left_since c.args.digest.now c.args.named c.args.files (journal_at c.args.named c.join-in-Err-write_anew.result)
    (returns-clause-any_moment g c)
