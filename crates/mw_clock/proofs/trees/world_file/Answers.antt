use Rattle.mw_json.specs.View.{view}
use Rattle.mw_clock.proofs.Readable.{world_stands}
use Rattle.mw_clock.proofs.trees.world_file.Goals as goal

pub returns-clause-stands : goal.returns-clause-stands
returns-clause-stands c =
    let tree = c.in_ok-world_tree in
    world_stands c.args.gears (view tree.field-0) c.compact.result c.requires tree.ensures.value tree.ensures.writable c.compact.ensures.text c.compact.ensures.utf8
