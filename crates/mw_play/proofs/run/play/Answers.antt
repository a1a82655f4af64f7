use Rattle.std.proofs.Common.{inr}
use Rattle.mw_play.proofs.run.play.Goals as goal

pub returns-in-Ok-clause-ends : goal.returns-in-Ok-clause-ends
returns-in-Ok-clause-ends g c =
    c.play_as.ensures.ends c.args.words.now (g.S.Source.left c.args.input.now) (g.S.Source.left c.player_of.new.input) c.in-Ok.ensures.ok.0 c.in-Ok.ensures.ok.1

pub returns-in-Ok-clause-leaves : goal.returns-in-Ok-clause-leaves
returns-in-Ok-clause-leaves g c =
    inr (c.in-Ok.player.words, c.in-Ok.ensures.ok.0, c.play_as.ensures.leaves c.args.words.now (g.S.Source.left c.args.input.now) (g.S.Source.left c.player_of.new.input))
