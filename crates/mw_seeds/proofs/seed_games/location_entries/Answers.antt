use Rattle.mw_seeds.specs.SeedFile.{location_entry}
use Rattle.mw_seeds.proofs.Pushed.{gathered}
use Rattle.mw_seeds.proofs.seed_games.location_entries.Goals as goal

pub loop-location-preserved : goal.loop-location-preserved
loop-location-preserved c =
    let l = c.loop-location in
    gathered location_entry c.args.locations.now l.entries.items c.push_location.new.entries.items l.location-index c.location-item.result c.loop-location-test.true c.location-item.is c.in_ok-push_location.ensures l.invariant
