use Rattle.std.proofs.Common.{List, ◌++◌}
use Rattle.mw_protocol.specs.Asked.{held_for}
use Rattle.mw_protocol.specs.Checks.{Check}
use Rattle.mw_checks.specs.Log.{checks_of}
use Rattle.mw_checks.proofs.Releasing.{collected_known, given_within, results_after, results_after_fresh}
use Rattle.mw_checks.proofs.log.CheckLog.collected.Goals as goal

pub listed-requires : goal.listed-requires
listed-requires c =
    let seed = c.args.self.now.seed in
    let team = c.args.team in
    let slot = c.args.slot in
    let asked : List Check = held_for seed team slot seed.locations in
    given_within seed c.args.self.now.checked team c.args.given.now c.new-found.result.keys c.note_pairs.new.found.keys c.note_collected.new.found.keys asked c.new-found.ensures.empty c.requires
    (collected_known seed team slot) c.in_ok-note_pairs.ensures c.in_ok-note_collected.ensures

pub returns-clause-checks : goal.returns-clause-checks
returns-clause-checks c =
    let seed = c.args.self.now.seed in
    let team = c.args.team in
    let slot = c.args.slot in
    let asked : List Check = held_for seed team slot seed.locations in
    results_after seed c.args.self.now.checked team c.args.given.now c.new-found.result.keys c.note_pairs.new.found.keys c.note_collected.new.found.keys asked c.listed.result c.new-found.ensures.empty c.requires
    (collected_known seed team slot) c.in_ok-note_pairs.ensures c.in_ok-note_collected.ensures c.listed.ensures

pub returns-clause-fresh : goal.returns-clause-fresh
returns-clause-fresh c =
    let seed = c.args.self.now.seed in
    let team = c.args.team in
    let slot = c.args.slot in
    let asked : List Check = held_for seed team slot seed.locations in
    results_after_fresh seed (c.args.self.now.checked ++ checks_of team c.args.given.now) team asked c.listed.result (collected_known seed team slot) (returns-clause-checks c)
