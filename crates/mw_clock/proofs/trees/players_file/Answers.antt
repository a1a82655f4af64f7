use Rattle.mw_json.specs.View.{view}
use Rattle.mw_clock.proofs.Readable.{players_stand}
use Rattle.mw_clock.proofs.trees.players_file.Goals as goal

pub returns-clause-stands : goal.returns-clause-stands
returns-clause-stands c =
    let tree = c.in_ok-players_tree in
    players_stand c.args.file.now (view tree.field-0) c.compact.result c.requires tree.ensures.value tree.ensures.writable c.compact.ensures.text c.compact.ensures.utf8
