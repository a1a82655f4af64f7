-- A record as plain data.
use Rattle.mw_base.specs.declared.hint.HintRecord.{HintRecord}
use Rattle.mw_base.specs.declared.hint.HintRecord.TheVariants.{Made, Marked}
use Rattle.mw_protocol.specs.Records as plain
use Rattle.mw_records.specs.declared.record.Record.{Record}
use Rattle.mw_records.specs.declared.record.Record.TheVariants.{Checks, Release, Collect, Status, Hint, Store}

abbrev pub hint_view : HintRecord → plain.Record
hint_view (Made team finder loc bought buyer status) =
    plain.hint record {
      team = team;
      finder = finder;
      location = loc;
      bought = bought;
      buyer = buyer;
      status = status;
    }
hint_view (Marked team finder loc status) = plain.hint_status team finder loc status

abbrev pub record_view : Record → plain.Record
record_view (Checks c) = plain.checks c.team c.slot c.locations
record_view (Release team slot) = plain.release team slot
record_view (Collect team slot) = plain.collect team slot
record_view (Status team slot status) = plain.status team slot status
record_view (Hint h) = hint_view h
record_view (Store s) = plain.store s.key s.value
