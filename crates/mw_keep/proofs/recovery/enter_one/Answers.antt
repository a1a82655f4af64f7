use Rattle.std.proofs.Common.{◌∙◌, refl, sym, ap, drop}
use Rattle.std.specs.Prelude.{Err}
use Rattle.mw_protocol.specs.Named.{is_named}
use Rattle.mw_records.specs.Records.{record_view}
use Rattle.mw_records.proofs.Taken.{one_spelling}
use Rattle.mw_keep.proofs.recovery.enter_one.Goals as goal

pub returns-in-Ok-false-clause-refused : goal.returns-in-Ok-false-clause-refused
returns-in-Ok-false-clause-refused c r stands = (
  refl,
  λ s begins.
      let spells = c.in-Ok.ensures.found in
      let same = (one_spelling (record_view c.in-Ok.record) s (drop c.in-Ok.next c.args.text.now) begins.rest spells.is_record begins.is_record
      (sym spells.here ∙ begins.here)).0 in
      ap (is_named r.seed) (sym same) ∙ sym (c.in-Ok-false.ensures.named r stands) ∙ c.in-Ok-false.field-0-test,
)

pub returns-in-Err-BadRecord-clause-refused : goal.returns-in-Err-BadRecord-clause-refused
returns-in-Err-BadRecord-clause-refused c r stands =
    let bad = c.decode.ensures.bad c.in-Err-BadRecord.at (c.in-Err-BadRecord.is ∙ ap (λ e. Err e) c.in-Err-BadRecord.field-0-is) in
    (bad.0, λ s begins. absurd (bad.1 s begins))
