use Rattle.std.proofs.Common.{ap, ◌∙◌, subst, arith}
use Rattle.mw_multi.specs.Joint.{IsJoint}
use Rattle.mw_multi.specs.Players.{Players}
use Rattle.mw_multi.specs.PlayersKept.{IsPlayers}
use Rattle.mw_seeds.proofs.SeedMade.{made, made_kept}
use Rattle.mw_seeds.proofs.making.seed_file.Goals as goal

pub invariant_of-result : goal.invariant_of-result
invariant_of-result c =
    let a = c.args in
    let players = a.players.now in
    let p = subst IsPlayers c.players.view_is c.players.invariant in
    let kept = subst IsJoint c.joint.view_is c.joint.invariant in
    let file =
    made c.requires.joined.0 players a.joint.now c.requires.joined.1 a.seed a.placement.now a.spheres.now c.in_ok-seed_name.seed_name c.players.inside.teams c.in_ok-server.server c.in_ok-games.games c.in_ok-slots.slots
    c.in_ok-groups.groups c.in_ok-locations.locations c.in_ok-spheres.spheres c.in_ok-seed_name.ensures (ap (λ (q : Players). q.teams) c.players.view_is) c.in_ok-server.ensures.same
    c.in_ok-games.ensures c.in_ok-slots.ensures c.in_ok-groups.ensures c.in_ok-locations.ensures (c.in_ok-spheres.ensures ∙ c.as_slice.ensures) in
    made_kept c.requires.joined.0 players a.joint.now c.requires.joined.1 p kept a.seed (omega (arith, c.ranges.seed.fits)) a.placement.now a.spheres.now c.requires.spheres _ file
    c.in_ok-server.ensures.kept

pub returns : goal.returns
returns c =
    let a = c.args in
    made c.requires.joined.0 a.players.now a.joint.now c.requires.joined.1 a.seed a.placement.now a.spheres.now c.in_ok-seed_name.seed_name c.players.inside.teams c.in_ok-server.server c.in_ok-games.games
    c.in_ok-slots.slots c.in_ok-groups.groups c.in_ok-locations.locations c.in_ok-spheres.spheres c.in_ok-seed_name.ensures (ap (λ (q : Players). q.teams) c.players.view_is)
    c.in_ok-server.ensures.same c.in_ok-games.ensures c.in_ok-slots.ensures c.in_ok-groups.ensures c.in_ok-locations.ensures (c.in_ok-spheres.ensures ∙ c.as_slice.ensures)
