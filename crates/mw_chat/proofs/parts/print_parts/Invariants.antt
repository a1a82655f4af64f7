use Rattle.std.proofs.Common.{◌≡◌, map, take}
use Rattle.mw_model.specs.Json.{ItemsAreWritable}
use Rattle.mw_protocol.specs.Prints.{part_json}
use Rattle.mw_json.specs.View.{view, items_view}
use Rattle.mw_chat.specs.View.{piece_view}
use Rattle.mw_chat.proofs.parts.print_parts.Given as goal

-- the pieces so far are parts, which can be written
abbrev pub invariant-loop-piece : goal.invariant-loop-piece
invariant-loop-piece l = record {
  value : map view l.parts ≡ map part_json (map piece_view (take l.piece-index l.pieces));
  writable : ItemsAreWritable (items_view l.parts);
}
