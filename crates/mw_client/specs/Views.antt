-- What the news of the code are.
use Rattle.mw_client.specs.News as plain
use Rattle.mw_client.specs.declared.news.News.{News}
use Rattle.mw_client.specs.declared.news.News.TheVariants.{Greeted, Joined, TurnedAway, Received, Nothing}

abbrev pub news_view : News → plain.News
news_view Greeted = plain.greeted
news_view Joined = plain.joined
news_view (TurnedAway errors) = plain.turned_away errors
news_view (Received r) = plain.received r.index r.items
news_view Nothing = plain.nothing
