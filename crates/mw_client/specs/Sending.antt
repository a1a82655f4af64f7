-- What a client sends, after Archipelago's network protocol.
use Rattle.std.specs.Prelude.{ℕ, ℤ, pos, List, [], ◌∷◌, codes, map}
use Rattle.mw_model.specs.Json.{Json, whole, words, many, members, no_items, item, no_members, member}
use Rattle.mw_model.specs.Spelling.{spelling}
use Rattle.mw_model.specs.Trees.{id_json, items_of}
use Rattle.mw_protocol.specs.Messages.{text_or_null, version_json}
use Rattle.mw_client.specs.declared.sending.Who.{Who}
use Rattle.mw_client.specs.declared.answer.Answer.{Answer}
use Rattle.mw_client.specs.declared.answer.Answer.TheVariants.{Connect, Checks, Sync}

-- it wants to hear of all items, and of no prints
abbrev pub connect_json : Who → Json
connect_json who =
    members (member (codes "cmd") (words (codes "Connect"))
    (member (codes "game") (words who.game)
    (member (codes "items_handling") (whole (pos 7))
    (member (codes "name") (words who.name)
    (member (codes "password") (text_or_null who.password)
    (member (codes "tags") (many (item (words (codes "NoText")) no_items))
    (member (codes "version") version_json no_members)))))))

abbrev pub checks_json : List ℤ → Json
checks_json ids =
    members (member (codes "cmd") (words (codes "LocationChecks"))
    (member (codes "locations") (many (items_of (map id_json ids))) no_members))

abbrev pub sync_json : Json
sync_json = members (member (codes "cmd") (words (codes "Sync")) no_members)

-- a message of one packet
unfoldable pub text_of_one : Json → List ℕ
text_of_one packet = spelling (many (item packet no_items))

-- no message is sent where there is nothing to check
abbrev pub checks_texts : List ℤ → List (List ℕ)
checks_texts [] = []
checks_texts (id ∷ ids) = text_of_one (checks_json (id ∷ ids)) ∷ []

-- the messages of an answer
abbrev pub answer_texts : Who → List ℤ → Answer → List (List ℕ)
answer_texts who ids Connect = text_of_one (connect_json who) ∷ []
answer_texts who ids Checks = checks_texts ids
answer_texts who ids Sync = text_of_one sync_json ∷ []
