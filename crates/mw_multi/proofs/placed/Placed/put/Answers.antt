use Rattle.std.proofs.Common.{◌≡◌, ◌<◌, ◌++◌, ap, length, set, arith}
use Rattle.std.proofs.lemmas.Grind.{common_steps}
use Rattle.mw_multi.specs.Placement.{numbers_at, put_numbers}
use Rattle.mw_multi.proofs.Standing.{site_within, placed_put}
use Rattle.mw_multi.proofs.placed.Placed.put.Goals as goal

pub at-requires : goal.at-requires
at-requires c =
    let within = site_within 1 c.args.joint.now.slots c.args.put.place c.requires.kept.place in
    let place = ap (λ p. p.place) c.put.view_is in
    let size = ap length c.self.view_is in
    omega (arith, c.requires.size)

pub swap-requires : goal.swap-requires
swap-requires c =
    let within = site_within 1 c.args.joint.now.slots c.args.put.place c.requires.kept.place in
    let place = ap (λ p. p.place) c.put.view_is in
    let size = ap length c.self.view_is in
    omega (arith, c.requires.size)

pub returns-clause-ok : goal.returns-clause-ok
returns-clause-ok c = λ puts placed.
    let within : c.args.put.place < length c.args.self.now = (let inside = site_within 1 c.args.joint.now.slots c.args.put.place c.requires.kept.place in omega (arith, c.requires.size)) in
    let new : c.swap.new.self ≡ set c.args.self.now c.args.put.place (numbers_at c.args.self.now c.args.put.place ++ put_numbers c.args.joint.now c.args.put) = grind (arith, common_steps) in
    placed_put c.args.joint.now puts c.args.put c.args.self.now c.swap.new.self within new placed
