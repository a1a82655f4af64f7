use Rattle.std.proofs.Common.{arith}
use Rattle.mw_records.specs.Records.{record_view}
use Rattle.mw_records.proofs.Begun.{no_longer, spells, none_begins}
use Rattle.mw_records.proofs.decoding.decode.Goals as goal

pub overflow_sub-result : goal.overflow_sub-result
overflow_sub-result c =
    let read = rw c.split_at.ensures.back at c.in-Ok.ensures in
    no_longer c.args.bytes.now c.args.at (record_view c.in-Ok.record) c.record_of.new.bytes.now (λ i. omega (arith, c.type_inv.bytes i)) c.if-start-bytes.false read

pub returns-in-Ok-clause-found : goal.returns-in-Ok-clause-found
returns-in-Ok-clause-found c =
    let read = rw c.split_at.ensures.back at c.in-Ok.ensures in
    spells c.args.bytes.now c.args.at (record_view c.in-Ok.record) c.record_of.new.bytes.now (λ i. omega (arith, c.type_inv.bytes i)) c.if-start-bytes.false read

pub returns-in-Err-Bad-clause-bad : goal.returns-in-Err-Bad-clause-bad
returns-in-Err-Bad-clause-bad c =
    let none = rw (c.in-Err-Bad.field-0-is, c.split_at.ensures.back) at c.in-Err-Bad.ensures in
    λ p e. (cc, none_begins c.args.bytes.now c.args.at none)
