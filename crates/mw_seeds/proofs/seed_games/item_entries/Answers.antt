use Rattle.mw_seeds.specs.SeedFile.{item_entry}
use Rattle.mw_seeds.proofs.Pushed.{gathered}
use Rattle.mw_seeds.proofs.seed_games.item_entries.Goals as goal

pub loop-item-preserved : goal.loop-item-preserved
loop-item-preserved c =
    let l = c.loop-item in
    gathered item_entry c.args.items.now l.entries.items c.push_item.new.entries.items l.item-index c.item-item.result c.loop-item-test.true c.item-item.is c.in_ok-push_item.ensures l.invariant
