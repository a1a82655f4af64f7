use Rattle.std.proofs.Common.{◌≡◌, ◌++◌, drop, map}
use Rattle.mw_json.specs.View.{items_view}
use Rattle.mw_client.specs.Hearing.{each_news}
use Rattle.mw_client.specs.Views.{news_view}
use Rattle.mw_client.proofs.hearing.all_news.Given as goal

-- the news so far, and those of the rest
abbrev pub invariant-loop-item : goal.invariant-loop-item
invariant-loop-item l = map news_view l.found ++ each_news (items_view (drop l.item-index l.items)) ≡ each_news (items_view l.items)
