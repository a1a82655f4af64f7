-- Prints and sayings of Room A beside their definitions: Ann has slot 1, Bob slot 2.
use Rattle.std.specs.Prelude.{◌≡◌, pos, [], codes, refl}
use Rattle.std.specs.Fmt.{digits}
use Rattle.json.specs.Print.{print_from, escape_byte}
use Rattle.mw_model.specs.Items.{NetItem}
use Rattle.mw_model.specs.Spelling.{spelling}
use Rattle.mw_protocol.specs.Messages.{packet_json}
use Rattle.mw_protocol.specs.Prints.{printed, item_send}
use Rattle.mw_protocol.specs.Sayings.{said_of, chat, help, hint, unknown_command}

-- Bob's Sword at Ann's 101
abbrev pub sword : NetItem
sword = record { item = pos 7; location = pos 101; player = 1; flags = 1 }

pub sword_sent : spelling (packet_json (printed (item_send sword 2)))
    ≡ codes "{\"cmd\":\"PrintJSON\",\"data\":[{\"text\":\"1\",\"type\":\"player_id\"},{\"text\":\" sent \"},{\"flags\":1,\"player\":2,\"text\":\"7\",\"type\":\"item_id\"},{\"text\":\" to \"},{\"text\":\"2\",\"type\":\"player_id\"},{\"text\":\" (\"},{\"player\":1,\"text\":\"101\",\"type\":\"location_id\"},{\"text\":\")\"}],\"item\":{\"class\":\"NetworkItem\",\"flags\":1,\"item\":7,\"location\":101,\"player\":1},\"receiving\":2,\"type\":\"ItemSend\"}"
unfolding print_from escape_byte digits
sword_sent = refl

-- a rest that no command wants is ignored
pub help_with_a_rest : said_of (codes "!help x") ≡ help
help_with_a_rest = refl

pub hint_without_a_name : said_of (codes "!hint ") ≡ hint []
hint_without_a_name = refl

pub hint_of_an_item : said_of (codes "!hint Big Map") ≡ hint (codes "Big Map")
hint_of_an_item = refl

-- a command is its whole word
pub helping : said_of (codes "!helping") ≡ unknown_command
helping = refl

pub not_at_the_front : said_of (codes " !help") ≡ chat (codes " !help")
not_at_the_front = refl
