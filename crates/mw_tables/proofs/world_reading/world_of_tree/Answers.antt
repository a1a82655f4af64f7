use Rattle.mw_json.specs.View.{view}
use Rattle.mw_tables.proofs.Accepted.{is_world, is_small}
use Rattle.mw_tables.proofs.world_reading.world_of_tree.Goals as goal

pub named_world-requires : goal.named_world-requires
named_world-requires c = is_small (view c.args.tree.now) c.in_ok-raw.raw c.in_ok-raw.ensures

pub world_of-requires : goal.world_of-requires
world_of-requires c = is_world (view c.args.tree.now) c.in_ok-raw.raw c.in_ok-named.named c.in_ok-raw.ensures c.in_ok-named.ensures
