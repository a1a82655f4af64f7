use Rattle.std.proofs.Common.{rules, ◌≡◌, subst}
use Rattle.mw_client.specs.Bodies.{Leads}
use Rattle.mw_client.specs.Hearing.{news_in}
use Rattle.mw_client.specs.Playing.{Play, next_all}
use Rattle.mw_play.specs.Saves.{KeepsList}
use Rattle.mw_play.proofs.Kept.{on_ok}
use Rattle.mw_play.proofs.turns.hear_text.Goals as goal

pub returns-in_err-save-clause-moments : goal.returns-in_err-save-clause-moments
returns-in_err-save-clause-moments g c = λ digest keeps.
    let knows : c.hear.new.self ≡ next_all c.args.play.now (news_in c.args.text.now) = search rules in
    c.save.ensures.moments digest c.args.play.now.list (next_all c.args.play.now (news_in c.args.text.now)).list keeps
    (subst (λ (p : Play). Leads c.args.play.now.list c.in_ok-turn.turn.bodies p.list) knows c.in_ok-turn.ensures.bodies)

pub returns-clause-keeps : goal.returns-clause-keeps
returns-clause-keeps g c = λ digest keeps.
    on_ok c.answer_all.result (KeepsList g.D.Disk.may_leave digest c.save.new.journal c.hear.new.self.list)
    (c.in_ok-save.ensures.keeps digest c.args.play.now.list c.hear.new.self.list keeps c.in_ok-turn.ensures.bodies)

pub returns-clause-moments : goal.returns-clause-moments
returns-clause-moments g c = λ digest keeps.
    let knows : c.hear.new.self ≡ next_all c.args.play.now (news_in c.args.text.now) = search rules in
    c.save.ensures.moments digest c.args.play.now.list (next_all c.args.play.now (news_in c.args.text.now)).list keeps
    (subst (λ (p : Play). Leads c.args.play.now.list c.in_ok-turn.turn.bodies p.list) knows c.in_ok-turn.ensures.bodies)
