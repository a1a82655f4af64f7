use Rattle.std.proofs.Common.{◌≡◌, map, take}
use Rattle.mw_model.specs.Json.{ItemsAreWritable}
use Rattle.mw_model.specs.Trees.{text_json}
use Rattle.mw_protocol.specs.Messages.{game_name}
use Rattle.mw_json.specs.View.{view, items_view}
use Rattle.mw_packets_out.proofs.room_info.games_tree.Given as goal

abbrev pub invariant-loop-game : goal.invariant-loop-game
invariant-loop-game l = (map view l.trees ≡ map text_json (map game_name (take l.game-index l.games))) × ItemsAreWritable (items_view l.trees)
