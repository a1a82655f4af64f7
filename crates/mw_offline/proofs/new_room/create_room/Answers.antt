use Rattle.mw_causes.proofs.Endings.{ends}
use Rattle.mw_offline.proofs.new_room.create_room.Goals as goal

pub returns-clause-ends : goal.returns-clause-ends
returns-clause-ends g c =
    let run = c.new_room-outcome.ensures in
    let ended = c.end.ensures in
    record {
      ends = ends _ _ _ _ _ _ _ _ _ c.new_room-outcome.result ended.done ended.kept ended.ended run.done run.left;
      others = run.others;
      bytes = run.bytes;
    }
