use Rattle.mw_json.specs.View.{view}
use Rattle.mw_tables.proofs.PlayersAccepted.{is_players}
use Rattle.mw_tables.proofs.players_reading.players_of_tree.Goals as goal

pub players_of-requires : goal.players_of-requires
players_of-requires c = is_players (view c.args.tree.now) c.in_ok-raw.raw _ c.requires c.in_ok-raw.ensures c.in_ok-judge_names.ensures
