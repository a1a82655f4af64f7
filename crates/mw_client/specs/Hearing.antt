-- What a client hears: what the packets of a text tell, and what it makes of a list.
use Rattle.std.specs.Prelude.{ℕ, List, [], ◌∷◌, Option, Some, None, codes, nat_le, if◌then◌else◌}
use Rattle.mw_model.specs.Items.{NetItem}
use Rattle.mw_model.specs.Json.{Json, null, flag, whole, not_whole, numeral, words, many, members, Items, no_items, item, Members, depth, find_member}
use Rattle.mw_json.specs.KeptReading.{kept_reading}
use Rattle.mw_json.specs.Reading.{max_depth}
use Rattle.mw_client.specs.Lists.{client_after}
use Rattle.mw_client.specs.News.{News, greeted, joined, turned_away, received, nothing, news_named}

-- ---- the packets of a text

-- the command is a text
abbrev pub news_by : Option Json → Members → News
news_by (Some (words cmd)) ms = news_named cmd ms
news_by (Some null) ms = nothing
news_by (Some (flag b)) ms = nothing
news_by (Some (whole z)) ms = nothing
news_by (Some not_whole) ms = nothing
news_by (Some (numeral s)) ms = nothing
news_by (Some (many js)) ms = nothing
news_by (Some (members inner)) ms = nothing
news_by None ms = nothing

-- an element is an object with a command
abbrev pub news_of : Json → News
news_of (members ms) = news_by (find_member (codes "cmd") ms) ms
news_of null = nothing
news_of (flag b) = nothing
news_of (whole z) = nothing
news_of not_whole = nothing
news_of (numeral s) = nothing
news_of (words s) = nothing
news_of (many js) = nothing

abbrev pub each_news : Items → List News
each_news no_items = []
each_news (item j js) = news_of j ∷ each_news js

-- a message is a list of packets
abbrev pub message_news : Json → List News
message_news (many js) = each_news js
message_news null = []
message_news (flag b) = []
message_news (whole z) = []
message_news not_whole = []
message_news (numeral s) = []
message_news (words s) = []
message_news (members ms) = []

-- of a text's kept reading, where there is one and it isn't too deep
abbrev pub read_news : Option Json → List News
read_news None = []
read_news (Some j) = if nat_le (depth j) max_depth then message_news j else []

abbrev pub news_in : List ℕ → List News
news_in text = read_news (kept_reading text)

-- ---- a client's list

-- each ReceivedItems, by the rule of clients; nothing else changes the list
abbrev pub played_by : List NetItem → News → List NetItem
played_by list (received index items) = (client_after list index items).list
played_by list greeted = list
played_by list joined = list
played_by list (turned_away errors) = list
played_by list nothing = list

abbrev pub played_news : List NetItem → List News → List NetItem
played_news list [] = list
played_news list (n ∷ ns) = played_news (played_by list n) ns

-- the list once some texts were heard
abbrev pub played : List NetItem → List (List ℕ) → List NetItem
played list [] = list
played list (t ∷ ts) = played (played_news list (news_in t)) ts
