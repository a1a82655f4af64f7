use Rattle.std.proofs.Common.{◌≡◌, ◌<◌, ◌≤◌, Ok, List, true, length, map, take, get_or, ap, ◌∙◌, subst}
use Rattle.std.proofs.lemmas.List.{take_all}
use Rattle.mw_protocol.specs.Rooms.{replayed}
use Rattle.mw_records.specs.Records.{record_view}
use Rattle.mw_records.specs.declared.record.Record.{Record}
use Rattle.mw_room.specs.Represents.{Represents}
use Rattle.mw_room.proofs.Replayed.{named_next, stands_next}
use Rattle.mw_room.proofs.room.Room.replay.Goals as goal

pub loop-entry-init : goal.loop-entry-init
loop-entry-init c = record { stands = c.in_ok-room.ensures; named = c.requires }

pub loop-entry-preserved : goal.loop-entry-preserved
loop-entry-preserved c =
    let seed = c.args.tables in
    let rs : List Record = c.args.records.now in
    let i = c.loop-entry.entry-index in
    let x = c.entry-item.result in
    let within : i < length rs = subst (λ (xs : List Record). i < length xs) c.as_slice-entry-items.ensures c.loop-entry-test.true in
    let here : x ≡ get_or rs i x = c.entry-item.is ∙ ap (λ (xs : List Record). get_or xs i x) c.as_slice-entry-items.ensures in
    let entered = replayed seed (map record_view (take i rs)) in
    let named = named_next seed rs i x within here c.loop-entry.invariant.named in
    let yes : c.in_ok-enter.field-0 ≡ true = c.in_ok-enter.ensures.named entered c.loop-entry.invariant.stands ∙ named.0 in
    record {
      stands = stands_next seed _ rs i x within here (c.in_ok-enter.ensures.entered (ap Ok yes) entered c.loop-entry.invariant.stands);
      named = named.1;
    }

pub returns : goal.returns
returns c =
    let rs : List Record = c.args.records.now in
    let past : length rs ≤ c.loop-entry.entry-index = subst (λ (xs : List Record). length xs ≤ c.loop-entry.entry-index) c.as_slice-entry-items.ensures c.loop-entry-test.false in
    subst (λ (xs : List Record). Represents c.loop-entry.room (replayed c.args.tables (map record_view xs))) (take_all c.loop-entry.entry-index rs past) c.loop-entry.invariant.stands
