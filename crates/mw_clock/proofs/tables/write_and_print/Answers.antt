use Rattle.std.proofs.Common.{inl, inr}
use Rattle.std.proofs.KnownBytes.{Keeps-refl}
use Rattle.std.proofs.lemmas.Result.{on_ok_weaker}
use Rattle.mw_causes.specs.Ends.{HasLeft, told_by}
use Rattle.mw_causes.specs.Wrote.{wrote_by, Untouched, HasFailed}
use Rattle.mw_causes.proofs.Endings.{passed_exit, left_late, left_some}
use Rattle.mw_clock.specs.Words.{TableWords}
use Rattle.mw_clock.specs.Tabled.{IsUntabled, WritesSomeTables}
use Rattle.mw_clock.proofs.tables.write_and_print.Goals as goal

pub returns-in_err-write_both-clause-left : goal.returns-in_err-write_both-clause-left
returns-in_err-write_both-clause-left g c =
    let a = c.args in
    let asked : TableWords = record { gears = a.gears; world_name = a.world_name.now; players_name = a.players_name.now } in
    let wrote = wrote_by g.F.Folder.holds g.F.Folder.may_fail g.F.Folder.refusals a.folder.now c.write_both.new.folder in
    let held = g.O.Sink.held a.out.now in
    let failed = HasFailed wrote (told_by g.O.Sink.held g.O.Sink.faults a.out.now a.out.now) in
    let texts = c.in_ok-texts.texts in
    let r = c.from_residual-in_err-write_both in
    let refused = c.in_err-write_both.ensures.refused in
    let some : WritesSomeTables wrote asked held held =
    record {
      world = texts.world;
      played = texts.players;
      are = c.in_ok-texts.ensures a.players_name.now;
      others = c.in_err-write_both.ensures.others a.gears;
      left = inr (refused, Keeps-refl held);
    } in
    passed_exit (HasLeft IsUntabled (Untouched wrote held held) (WritesSomeTables wrote asked held held) failed) r.result _
    (left_some IsUntabled (Untouched wrote held held) (WritesSomeTables wrote asked held held) failed _ c.in_err-write_both.ensures.late some (λ _. inr refused)) r.ensures.1

pub returns-clause-done : goal.returns-clause-done
returns-clause-done g c =
    let texts = c.in_ok-texts.texts in
    on_ok_weaker c.put_text.result
    (λ put. record {
      world = texts.world;
      played = texts.players;
      are = c.in_ok-texts.ensures c.args.players_name.now;
      others = c.in_ok-write_both.ensures.others c.args.gears;
      written = c.in_ok-write_both.ensures.done c.args.gears;
      put = put;
    }) c.put_text.ensures.done

pub returns-clause-left : goal.returns-clause-left
returns-clause-left g c =
    let a = c.args in
    let asked : TableWords = record { gears = a.gears; world_name = a.world_name.now; players_name = a.players_name.now } in
    let wrote = wrote_by g.F.Folder.holds g.F.Folder.may_fail g.F.Folder.refusals a.folder.now c.write_both.new.folder in
    let old = g.O.Sink.held a.out.now in
    let new = g.O.Sink.held c.put_text.new.out in
    let texts = c.in_ok-texts.texts in
    left_late IsUntabled (Untouched wrote old new) (WritesSomeTables wrote asked old new) (HasFailed wrote (told_by g.O.Sink.held g.O.Sink.faults a.out.now c.put_text.new.out)) c.put_text.result c.put_text.ensures.late c.put_text.ensures.front
    (λ e. inl (c.put_text.ensures.fault e))
    (λ front. record {
      world = texts.world;
      played = texts.players;
      are = c.in_ok-texts.ensures a.players_name.now;
      others = c.in_ok-write_both.ensures.others a.gears;
      left = inl (c.in_ok-write_both.ensures.done a.gears, front);
    })
