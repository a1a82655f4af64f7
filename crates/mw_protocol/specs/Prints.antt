-- What a room prints to its players: PrintJSON, after Archipelago's network protocol.
use Rattle.std.specs.Prelude.{ℕ, ℤ, pos, ◌==◌, ◌++◌, ◌∷◌, [], List, Bool, codes, decimal, map, if◌then◌else◌}
use Rattle.mw_model.specs.Items.{NetItem}
use Rattle.mw_model.specs.Json.{Json, flag, whole, words, many, members, Members, no_members, member}
use Rattle.mw_model.specs.Spelling.{number_text}
use Rattle.mw_model.specs.Trees.{items_of, text_json}
use Rattle.mw_protocol.specs.Messages.{ServerPacket, print, item_json}

-- ---- parts

pub data Part : Type 0 where
  -- a text as it stands
  text : List ℕ → Part
  -- a player, by the slot
  player : ℕ → Part
  -- an item, its receiver, and its class
  item : ℤ → ℕ → ℕ → Part
  -- a location, and the slot whose world has it
  location : ℤ → ℕ → Part

-- numbers stand as text, in decimal
abbrev pub part_json : Part → Json
part_json (text t) = members (member (codes "text") (words t) no_members)
part_json (player slot) =
    members (member (codes "text") (words (decimal slot))
    (member (codes "type") (words (codes "player_id")) no_members))
part_json (item id receiver flags) =
    members (member (codes "flags") (whole (pos flags))
    (member (codes "player") (whole (pos receiver))
    (member (codes "text") (words (number_text id))
    (member (codes "type") (words (codes "item_id")) no_members))))
part_json (location id finder) =
    members (member (codes "player") (whole (pos finder))
    (member (codes "text") (words (number_text id))
    (member (codes "type") (words (codes "location_id")) no_members)))

-- ---- prints

-- its kind, the members that a print of this kind has further, in byte order, and its parts
pub record Print : Type 0 where
  pub kind : List ℕ
  pub further : Members
  pub content : List Part

abbrev pub printed : Print → ServerPacket
printed p = print record { kind = p.kind; further = p.further; content = map part_json p.content }

-- ---- what a print tells beside its parts

-- a player
abbrev pub of_player : ℕ → ℕ → Members
of_player team slot =
    member (codes "slot") (whole (pos slot))
    (member (codes "team") (whole (pos team)) no_members)

-- a player and its tags
abbrev pub of_tagged : ℕ → ℕ → List (List ℕ) → Members
of_tagged team slot tags =
    member (codes "slot") (whole (pos slot))
    (member (codes "tags") (many (items_of (map text_json tags)))
    (member (codes "team") (whole (pos team)) no_members))

-- an item, with the finder as its player, and who receives it
abbrev pub of_item : NetItem → ℕ → Members
of_item i receiver =
    member (codes "item") (item_json i)
    (member (codes "receiving") (whole (pos receiver)) no_members)

abbrev pub one_text : List ℕ → List Part
one_text t = text t ∷ []

-- ---- the prints, each by its row; `name` is the slot's name in its team

abbrev pub joined : ℕ → ℕ → List (List ℕ) → List ℕ → Print
joined team slot tags name =
    record {
      kind = codes "Join";
      further = of_tagged team slot tags;
      content = one_text (name ++ codes " joined");
    }

abbrev pub left : ℕ → ℕ → List ℕ → Print
left team slot name =
    record {
      kind = codes "Part";
      further = of_player team slot;
      content = one_text (name ++ codes " left");
    }

abbrev pub changed_tags : ℕ → ℕ → List (List ℕ) → List ℕ → Print
changed_tags team slot tags name =
    record {
      kind = codes "TagsChanged";
      further = of_tagged team slot tags;
      content = one_text (name ++ codes " changed tags");
    }

abbrev pub chatted : ℕ → ℕ → List ℕ → List ℕ → Print
chatted team slot name message = record {
  kind = codes "Chat";
  further = member (codes "message") (words message) (of_player team slot);
  content = one_text (name ++ codes ": " ++ message);
}

-- an item at a location of the world of its player, on the way to another player or found by its own
abbrev pub sent_parts : NetItem → ℕ → List Part
sent_parts i receiver =
    player i.player ∷ text (codes " sent ") ∷ item i.item receiver i.flags ∷ text (codes " to ")
    ∷ player receiver
    ∷ text (codes " (") ∷ location i.location i.player ∷ text (codes ")") ∷ []

abbrev pub found_parts : NetItem → List Part
found_parts i =
    player i.player ∷ text (codes " found their ") ∷ item i.item i.player i.flags
    ∷ text (codes " (") ∷ location i.location i.player ∷ text (codes ")") ∷ []

abbrev pub item_send : NetItem → ℕ → Print
item_send i receiver = record {
  kind = codes "ItemSend";
  further = of_item i receiver;
  content = if i.player == receiver then found_parts i else sent_parts i receiver;
}

abbrev pub reached_goal : ℕ → ℕ → List ℕ → Print
reached_goal team slot name =
    record {
      kind = codes "Goal";
      further = of_player team slot;
      content = one_text (name ++ codes " reached the goal");
    }

abbrev pub released : ℕ → ℕ → List ℕ → Print
released team slot name =
    record {
      kind = codes "Release";
      further = of_player team slot;
      content = one_text (name ++ codes " released");
    }

abbrev pub collected : ℕ → ℕ → List ℕ → Print
collected team slot name =
    record {
      kind = codes "Collect";
      further = of_player team slot;
      content = one_text (name ++ codes " collected");
    }

-- what stands at a location, for whom, and whether it is found
abbrev pub hint_print : NetItem → ℕ → Bool → Print
hint_print i receiver found = record {
  kind = codes "Hint";
  further = member (codes "found") (flag found) (of_item i receiver);
  content = text (codes "[Hint]: ") ∷ player receiver ∷ text (codes "'s ")
      ∷ item i.item receiver i.flags ∷ text (codes " is at ")
      ∷ location i.location i.player ∷ text (codes " in ") ∷ player i.player
      ∷ text (codes "'s world") ∷ [];
}

-- the answer to a command
abbrev pub command_result : List ℕ → Print
command_result answer =
    record { kind = codes "CommandResult"; further = no_members; content = one_text answer }
