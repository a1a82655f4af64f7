use Rattle.mw_json.specs.View.{view}
use Rattle.mw_json.proofs.Valid.{reading_valid}
use Rattle.mw_tables.proofs.players_reading.read_players.Goals as goal

pub players_of_tree-requires : goal.players_of_tree-requires
players_of_tree-requires c = reading_valid c.args.bytes.now (view c.in_ok-tree.tree) c.in_ok-tree.ensures.ok.read
