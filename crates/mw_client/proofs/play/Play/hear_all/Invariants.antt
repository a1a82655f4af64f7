use Rattle.std.proofs.Common.{◌≡◌, ◌++◌, drop, map}
use Rattle.mw_client.specs.Bodies.{Leads}
use Rattle.mw_client.specs.Playing.{answers_all, next_all}
use Rattle.mw_client.specs.Views.{news_view}
use Rattle.mw_client.proofs.play.Play.hear_all.Given as goal

-- what was heard so far, and what is still to be heard
abbrev pub invariant-loop-one : goal.invariant-loop-one
invariant-loop-one l = record {
  play : next_all l.self (map news_view (drop l.one-index l.news)) ≡ next_all l.fn.self (map news_view l.news);
  answers : l.turn.answers ++ answers_all l.self (map news_view (drop l.one-index l.news)) ≡ answers_all l.fn.self (map news_view l.news);
  bodies : Leads l.fn.self.list l.turn.bodies l.self.list;
}
