-- A kept room may cross threads where its disk may: so may all that it is made of.
use denote.RattleType.{RattleType}
use denote.Param.Send.{IsSend, recorded_send, sendable, struct_send, view_send}
use denote.Struct.Declared.{shape}
use Rattle.std.proofs.Crossing.{crosses}
use Rattle.std.proofs.MapsCrossing.{String-send}
use Rattle.mw_multidata.specs.contracts.multidata.Multidata as multidata
use Rattle.mw_multidata.specs.contracts.tables.RoomTables as tables
use Rattle.mw_multidata.specs.contracts.tables.RoomTables.TheInside as tables_inside
use Rattle.mw_storage.specs.contracts.store.Store as store
use Rattle.mw_storage.specs.contracts.store.Store.TheInside as store_inside
use Rattle.mw_checks.specs.contracts.log.CheckLog as log
use Rattle.mw_checks.specs.contracts.log.CheckLog.TheInside as log_inside
use Rattle.mw_checks.specs.contracts.places.Places as places
use Rattle.mw_checks.specs.contracts.places.Places.TheInside as places_inside
use Rattle.mw_checks.specs.contracts.rows.Rows as rows
use Rattle.mw_hints.specs.contracts.book.HintBook as book
use Rattle.mw_hints.specs.contracts.book.HintBook.TheInside as book_inside
use Rattle.mw_base.specs.contracts.ids.TeamId as team
use Rattle.mw_base.specs.contracts.ids.SlotId as slot
use Rattle.mw_base.specs.contracts.ids.LocId as loc
use Rattle.mw_hints.specs.contracts.kept.Kept as hint
use Rattle.mw_packets_out.specs.contracts.room.GameSum as game
use Rattle.mw_packets_out.specs.contracts.room.GameSum.TheInside as game_inside
use Rattle.mw_effects.specs.contracts.member.Member as member
use Rattle.mw_effects.specs.contracts.member.Member.TheInside as member_inside
use Rattle.mw_effects.specs.contracts.standing.Standing as standing
use Rattle.mw_effects.specs.contracts.status.SlotStatus as status
use Rattle.mw_journal.specs.contracts.journal.Journal as journal
use Rattle.mw_room.specs.contracts.session.Session as session
use Rattle.mw_room.specs.contracts.room.Room as room
use Rattle.mw_keep.specs.contracts.reply.StopCause as cause
use Rattle.mw_keep.specs.contracts.kept.Origin as origin
use Rattle.mw_keep.specs.contracts.kept.KeptRoom as kept
use Rattle.mw_keep.proofs.CrossingMaps.{map_send}
use Rattle.mw_keep.proofs.CrossingValues.{list_send, text_send, tree_send}

multidata_send : IsSend multidata.the_row
multidata_send = search (text_send, list_send, crosses, sendable) depth 60 fits 40000

tables_send : IsSend tables.the_row
tables_send = view_send tables_inside.the_row _ _ _ _
    (recorded_send (tables_inside.the_field).row _ _ (tables_inside.the_type).to_one (struct_send (shape tables_inside.the_type) (multidata_send, tt)))

store_send : IsSend store.the_row
store_send = view_send store_inside.the_row _ _ _ _
    (recorded_send (store_inside.the_field).row _ _ (store_inside.the_type).to_one
    (struct_send (shape store_inside.the_type)
    (search sendable depth 20, (search (map_send, String-send, tree_send, sendable) depth 30, (search sendable depth 20, tt)))))

places_send : IsSend places.the_row
places_send = view_send places_inside.the_row _ _ _ _
    (recorded_send (places_inside.the_field).row _ _ (places_inside.the_type).to_one
    (struct_send (shape places_inside.the_type) (tables_send, (search (map_send, sendable) depth 30, (search (crosses, sendable) depth 30, tt)))))

rows_send : IsSend (rows.the_field).row
rows_send = search (crosses, sendable) depth 40

log_send : IsSend log.the_row
log_send = view_send log_inside.the_row _ _ _ _
    (recorded_send (log_inside.the_field).row _ _ (log_inside.the_type).to_one
    (struct_send (shape log_inside.the_type) (search sendable depth 20, (search (places_send, sendable) depth 20, (search (rows_send, sendable) depth 20, (search (crosses, sendable) depth 40, tt))))))

team_send : IsSend team.the_row
team_send = search sendable depth 40

slot_send : IsSend slot.the_row
slot_send = search sendable depth 40

loc_send : IsSend loc.the_row
loc_send = search sendable depth 40

hint_send : IsSend hint.the_row
hint_send = search sendable depth 40

book_send : IsSend book.the_row
book_send = view_send book_inside.the_row _ _ _ _
    (recorded_send (book_inside.the_field).row _ _ (book_inside.the_type).to_one
    (struct_send (shape book_inside.the_type) (search sendable depth 20, (search (map_send, team_send, slot_send, loc_send, hint_send, sendable) depth 60, (search (map_send, team_send, slot_send, sendable) depth 60, tt)))))

member_send : IsSend member.the_row
member_send = view_send member_inside.the_row _ _ _ _
    (recorded_send (member_inside.the_field).row _ _ (member_inside.the_type).to_one
    (struct_send (shape member_inside.the_type) (search (team_send, sendable) depth 40, (search (slot_send, sendable) depth 40, (search sendable depth 20, (search (text_send, list_send, sendable) depth 40, (search (text_send, list_send, sendable) depth 40, tt)))))))

status_send : IsSend status.the_row
status_send = search (team_send, slot_send, sendable) depth 60

standing_send : IsSend (standing.the_field).row
standing_send =
    struct_send (shape standing.the_type) (search (log_send, sendable) depth 40, (search (book_send, sendable) depth 40, (search (status_send, crosses, sendable) depth 40, (search (store_send, sendable) depth 40, tt))))

session_send : IsSend session.the_row
session_send = recorded_send (session.the_field).row _ _ (session.the_type).to_one
    (struct_send (shape session.the_type) (search sendable depth 20, (search (member_send, sendable) depth 40, (search (text_send, crosses, sendable) depth 40, (search sendable depth 20, (search sendable depth 20, (search sendable depth 20, tt)))))))

game_send : IsSend game.the_row
game_send = view_send game_inside.the_row _ _ _ _
    (recorded_send (game_inside.the_field).row _ _ (game_inside.the_type).to_one
    (struct_send (shape game_inside.the_type) (search (text_send, sendable) depth 40, (search (text_send, sendable) depth 40, tt))))

room_send : IsSend (room.the_field).row
room_send =
    struct_send (shape room.the_type) (search sendable depth 20, (standing_send, (search (game_send, list_send, sendable) depth 40, (search sendable depth 20, (search sendable depth 20, (search (session_send, crosses, sendable) depth 40, tt))))))

cause_send : IsSend cause.the_row
cause_send = search sendable depth 40

module _ (D : RattleType) where
  journal_send : IsSend D → IsSend (journal.the_field D).row
  journal_send s = search sendable depth 40

  origin_send : IsSend (origin.the_row D)
  origin_send = search sendable depth 40

  pub kept_send : IsSend D → IsSend (kept.the_row D)
  kept_send s = let j = journal_send s in let o = origin_send in recorded_send (kept.the_field D).row _ _ (kept.the_type D).to_one
      (struct_send (shape (kept.the_type D)) (search sendable depth 20, (room_send, (j, (search (list_send, crosses, sendable) depth 40, (search sendable depth 20, (search (cause_send, sendable) depth 40, (search sendable depth 20, (search sendable depth 40, tt)))))))))
