-- What a session hears that wants no text.
use Rattle.std.specs.Prelude.{◌≡◌, ℕ, ◌∷◌, [], List, Bool, true, false, not, Some, IsTrue, filter}
use Rattle.mw_model.specs.Seed.{Seed}
use Rattle.mw_protocol.specs.Bouncing.{named_by}
use Rattle.mw_protocol.specs.Connecting.{Member}
use Rattle.mw_protocol.specs.Effect.{Effect}
use Rattle.mw_protocol.specs.Heard.{Audience, team_hears, slots_hear, sender_hears, watchers_hear, named_hear, Announced, wants_no_text, is_named}
use Rattle.mw_protocol.specs.Messages.{ServerPacket, room_info, connected, received_items, room_update, connection_refused, location_info, data_package, invalid_packet, print, retrieved, set_reply, bounced}
use Rattle.mw_protocol.specs.Owed.{owed}
use Rattle.mw_protocol.specs.Packets.{Packet, bounce}
use Rattle.mw_protocol.specs.Rooms.{Room, Event, opened, sent, failed, lost, effect_in, next}
use Rattle.mw_protocol.specs.Standing.{Standing}
use Rattle.mw_laws.specs.Turns.{now}

abbrev pub is_print : ServerPacket → Bool
is_print (print p) = true
is_print (room_info info) = false
is_print (connected c) = false
is_print (received_items index items) = false
is_print (room_update locations points) = false
is_print (connection_refused errors) = false
is_print (location_info items) = false
is_print (data_package content) = false
is_print (invalid_packet bad) = false
is_print (retrieved r) = false
is_print (set_reply r) = false
is_print (bounced b) = false

-- the same member with these tags
abbrev pub with_tags : List (List ℕ) → Member → Member
with_tags tags m =
    record { team = m.team; slot = m.slot; mask = m.mask; tags = tags; keys = m.keys }

-- ---- any effect

abbrev pub is_of_print : Audience → Bool
is_of_print (team_hears team) = true
is_of_print (slots_hear team a b) = true
is_of_print sender_hears = true
is_of_print (watchers_hear key replies) = false
is_of_print (named_hear team n) = false

-- what is announced to audiences of prints is left out
abbrev pub without_prints : Effect → Effect
without_prints effect = record {
  records = effect.records;
  answers = effect.answers;
  whole = effect.whole;
  member = effect.member;
  announced = filter (λ a. not (is_of_print a.audience)) effect.announced;
}

-- a message that is for those whom it names is for both members or for neither
abbrev pub NamesBoth : Seed → Audience → Member → Member → Type 0
NamesBoth seed (named_hear team n) m k = is_named seed n m ≡ is_named seed n k
NamesBoth seed (team_hears team) m k = Unit {0}
NamesBoth seed (slots_hear team a b) m k = Unit {0}
NamesBoth seed sender_hears m k = Unit {0}
NamesBoth seed (watchers_hear key replies) m k = Unit {0}

abbrev pub AllNameBoth : Seed → List Announced → Member → Member → Type 0
AllNameBoth seed [] m k = Unit {0}
AllNameBoth seed (a ∷ others) m k = NamesBoth seed a.audience m k × AllNameBoth seed others m k

-- whatever the effect, a member with the tag is owed what it would be owed with any other tags, were the effect's prints left out; and beside that tag none matters
pub record HearsLess (seed : Seed) (before later : Standing) (effect : Effect) (sends : Bool)
    (m : Member) (tags : List (List ℕ)) : Type 0 where
  pub less : IsTrue (wants_no_text m)
      → owed seed before later effect sends (Some m)
      ≡ owed seed before later (without_prints effect) sends (Some (with_tags tags m))
  pub alike : wants_no_text m ≡ wants_no_text (with_tags tags m)
      → owed seed before later effect sends (Some m)
      ≡ owed seed before later effect sends (Some (with_tags tags m))

-- ---- any event

-- what an event owes to a member
abbrev pub owed_as : Room → Event → Bool → Member → List ServerPacket
owed_as room event sends m =
    owed room.seed (now room) (now (next room event)) (effect_in room event) sends (Some m)

-- a Bounce is for both members or for neither
abbrev pub BouncesToBoth : Seed → Packet → Member → Member → Type 0
BouncesToBoth seed (bounce b) m k = is_named seed (named_by b) m ≡ is_named seed (named_by b) k
BouncesToBoth seed packet m k = Unit {0}

abbrev pub ReachesBoth : Seed → Event → Member → Member → Type 0
ReachesBoth seed (sent number packet) m k = BouncesToBoth seed packet m k
ReachesBoth seed (opened time) m k = Unit {0}
ReachesBoth seed (failed number bad) m k = Unit {0}
ReachesBoth seed (lost number) m k = Unit {0}

-- a member with the tag is owed no print, and all else that it would be owed with any other tags, where a Bounce is for both or for neither
pub record HearsNoText (room : Room) (event : Event) (sends : Bool) (m : Member) : Type 0 where
  pub no_print : filter is_print (owed_as room event sends m) ≡ []
  pub all_else : (tags : List (List ℕ)) → ReachesBoth room.seed event m (with_tags tags m)
      → owed_as room event sends m
      ≡ filter (λ p. not (is_print p)) (owed_as room event sends (with_tags tags m))

-- where what is announced names both tags or neither, by any effect; and by any event
pub record NoTextIsTold : Type 0 where
  pub effects : (seed : Seed) (before later : Standing) (effect : Effect) (sends : Bool)
      (m : Member) (tags : List (List ℕ)) → AllNameBoth seed effect.announced m (with_tags tags m)
      → HearsLess seed before later effect sends m tags
  pub events : (room : Room) (event : Event) (sends : Bool) (m : Member) → IsTrue (wants_no_text m)
      → HearsNoText room event sends m
