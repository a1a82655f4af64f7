-- What is kept of a room once a record more is entered.
use Rattle.std.specs.Prelude.{◌+◌}
use Rattle.mw_protocol.specs.Records.{Record}
use Rattle.mw_protocol.specs.Standing.{step}
use Rattle.mw_room.specs.Known.{Known}

-- a record more stands in the journal
abbrev pub known_more : Known → Record → Known
known_more k r =
    record {
      seed = k.seed;
      now = step k.seed k.now r;
      length = k.length + 1;
      opened = k.opened;
      sessions = k.sessions;
    }
