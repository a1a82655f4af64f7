use Rattle.std.proofs.Common.{◌∙◌, ap, inl, inr, sym, subst}
use Rattle.mw_journal.specs.Journal.{gate_of}
use Rattle.mw_checkpoint.specs.Choices.{AreChoices, IsBadByte, named_in}
use Rattle.mw_checkpoint.specs.Refused.{IsOutside, RefusesChosen}
use Rattle.mw_checkpoint.proofs.Naming.{choices_joined, no_bad_byte, outside_pair, refuses_chosen}
use Rattle.mw_checkpoint.proofs.choosing.chosen.Goals as goal

pub returns-in-Some-clause-settled : goal.returns-in-Some-clause-settled
returns-in-Some-clause-settled g c f text body told front more settled =
    let bad = subst (λ l. IsBadByte l c.in-Some.at) c.as_slice.ensures c.in-Some.ensures in
    elim (c.in-Ok.ensures.one f text body told settled) [
      | inl one ↦ no_bad_byte c.in-Ok.text c.in-Some.at (subst AreChoices (sym one) front) bad.within bad.bad
      | inr both ↦ no_bad_byte c.in-Ok.text c.in-Some.at (subst AreChoices (sym both) (choices_joined text body front more)) bad.within bad.bad
    ]

pub returns-in-Ok-clause-reads : goal.returns-in-Ok-clause-reads
returns-in-Ok-clause-reads g c = record {
  chosen = record {
    text = c.in-Ok.text;
    place = gate_of c.in-Ok.journal;
    shut = λ f left. c.in-Ok.ensures.ok.1 f (subst (λ d. g.D.Disk.may_leave d f) c.into_disk-choice.ensures left);
    choices = subst AreChoices c.as_slice.ensures c.in-None.ensures;
    last = c.last_byte-named.ensures ∙ ap named_in c.as_slice-in-Ok.ensures;
  };
  stands = λ f told. c.in-Ok.ensures.stands f told;
  one = λ f text body told settled. c.in-Ok.ensures.one f text body told settled;
}

pub returns-clause-refused : goal.returns-clause-refused
returns-clause-refused g c =
    let told = g.D.Disk.told c.args.files.choice in
    let before = g.D.Disk.faults c.args.files.choice in
    let after = g.D.Disk.faults c.in-Err.choice in
    subst (RefusesChosen told c.args.digest.now before after) (sym c.pair_error.ensures)
    (refuses_chosen told c.args.digest.now before after c.in-Err.error c.in-Err.ensures.refused)

pub returns-clause-settled : goal.returns-clause-settled
returns-clause-settled g c f text body told front more settled =
    subst IsOutside (sym c.pair_error.ensures) (outside_pair 0 c.in-Err.error (c.in-Err.ensures.settled f text body told settled))
