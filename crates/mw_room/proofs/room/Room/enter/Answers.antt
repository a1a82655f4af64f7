use Rattle.mw_records.specs.Records.{record_view}
use Rattle.mw_room.proofs.Replayed.{recorded}
use Rattle.mw_room.proofs.room.Room.enter.Goals as goal

pub returns-clause-entered : goal.returns-clause-entered
returns-clause-entered c = λ yes r st. recorded c.args.self.now c.enter_known.new.self (record_view c.args.entry.now) r (c.in_ok-named.ensures.entered yes) st
