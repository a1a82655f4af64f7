-- Packets for several sessions, and the text of a message as it grows.
use Rattle.std.specs.Prelude.{◌≡◌, ℕ, ◌++◌, ◌∷◌, [], List, Option, Some, None}
use Rattle.mw_protocol.specs.Messages.{ServerPacket, message_text, packet_text}
use Rattle.mw_effects.specs.Views.{told_view}
use Rattle.mw_effects.specs.declared.effect.Announced.{Announced}

abbrev pub text_of : Announced → List ℕ
text_of a = packet_text (told_view a.told)

-- where a packet's text is there, it is that of the packet
abbrev pub IsWritten : Option (List ℕ) → Announced → Type 0
IsWritten None a = Unit {0}
IsWritten (Some text) a = text ≡ text_of a

-- what stands before a text: a comma, or where nothing does the bracket that opens the message
abbrev pub mark_after : List ℕ → List ℕ
mark_after [] = 91 ∷ []
mark_after (c ∷ cs) = 44 ∷ []

abbrev pub behind : List ℕ → List ℕ → List ℕ
behind out text = out ++ mark_after out ++ text

-- texts behind what stands there, one after the other
abbrev pub all_behind : List ℕ → List (List ℕ) → List ℕ
all_behind out [] = out
all_behind out (text ∷ texts) = all_behind (behind out text) texts

-- a message that has begun is closed
abbrev pub closed : List ℕ → Option (List ℕ)
closed [] = None
closed (c ∷ cs) = Some ((c ∷ cs) ++ 93 ∷ [])

-- a message's text, where there are packets
abbrev pub message_of : List ServerPacket → Option (List ℕ)
message_of [] = None
message_of (p ∷ ps) = Some (message_text (p ∷ ps))
