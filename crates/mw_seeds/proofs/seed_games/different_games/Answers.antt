use Rattle.std.proofs.Common.{ap, ◌∙◌, sym, subst}
use Rattle.mw_multi.specs.Joint.{Joint}
use Rattle.mw_seeds.specs.SeedFile.{AreDifferent}
use Rattle.mw_seeds.proofs.SeedGames.{AreMet, none_met, game_met, all_met}
use Rattle.mw_seeds.proofs.seed_games.different_games.Goals as goal

pub loop-slot-init : goal.loop-slot-init
loop-slot-init c = subst (AreMet c.as_slice-slot-items.result.now 0) (sym c.new-games.ensures.items) (none_met c.as_slice-slot-items.result.now)

pub loop-slot-preserved : goal.loop-slot-preserved
loop-slot-preserved c =
    let l = c.loop-slot in
    game_met c.as_slice-slot-items.result.now l.slot-index c.slot-item.result c.loop-slot-test.true c.slot-item.is l.games.items c.push_game.new.games.items c.in_ok-push_game.ensures l.invariant

pub returns : goal.returns
returns c =
    let l = c.loop-slot in
    subst (λ ss. AreDifferent ss l.games.items) (c.as_slice-slot-items.ensures ∙ ap (λ (j : Joint). j.slots) c.joint.view_is)
    (all_met c.as_slice-slot-items.result.now l.slot-index l.games.items c.loop-slot-test.false l.invariant)
