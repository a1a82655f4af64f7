use Rattle.std.proofs.Common.{◌≡◌, ◌≢◌, ◌∙◌, ◌≤◌, [], length, sym, subst, ap, arith}
use Rattle.mw_protocol.specs.Spelled.{records_bytes}
use Rattle.mw_journal.proofs.Told.{on_ok_one}
use Rattle.mw_keep.proofs.Appending.{appends_none, appends_list, bytes_none, no_records, some_length}
use Rattle.mw_keep.proofs.append.append.Goals as goal

pub returns-then-is_empty-clause-appends : goal.returns-then-is_empty-clause-appends
returns-then-is_empty-clause-appends g c digest kept records place is holds =
    let none : c.args.pending.now ≡ [] = sym c.as_slice.ensures ∙ no_records c.as_slice.result.now c.if-is_empty.ensures in
    appends_none g.D.Disk.may_leave g.D.Disk.moment g.D.Disk.left_since g.D.Disk.faults g.met.D.Disk.only_now g.met.D.Disk.counts_now digest kept place records c.args.journal.now
    (bytes_none records (sym is ∙ none)) holds

pub append_batch-requires : goal.append_batch-requires
append_batch-requires g c = subst (λ l. 1 ≤ length l) c.as_slice.ensures (some_length c.as_slice.result.now c.if-is_empty.ensures)

pub returns-clause-appends : goal.returns-clause-appends
returns-clause-appends g c digest kept records place is holds =
    let e = c.append_batch.ensures in
    let some : 1 ≤ length c.args.pending.now = subst (λ l. 1 ≤ length l) c.as_slice.ensures (some_length c.as_slice.result.now c.if-is_empty.ensures) in
    let there : records ≢ [] = λ none. let empty : length c.args.pending.now ≡ 0 = ap length (is ∙ ap records_bytes none) in absurd (omega (arith, some, empty)) in
    appends_list g.D.Disk.may_leave g.D.Disk.moment g.D.Disk.left_since g.D.Disk.faults g.met.D.Disk.only_now g.met.D.Disk.counts_now
    digest kept place records there c.args.journal.now c.append_batch.new.self
    c.args.pending.now c.append_batch.result is
    record {
      any_moment = λ stands. e.any_moment digest (records_bytes kept) stands;
      ok = on_ok_one c.append_batch.result e.ok (λ stays stands. stays digest (records_bytes kept) stands);
      gate = e.gate;
      full = e.full;
      room = e.room;
      fault = e.fault;
      state = e.state;
    }
    holds
