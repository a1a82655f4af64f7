-- A session that plays a slot plays that one as long as it is open.
use Rattle.std.proofs.Common.{◌≡◌, ℕ, ◌==◌, List, true, false, cond, ◌∷◌, [], Option, Some, None, Result, Ok, Err, refl, sym, ap, subst, ◌∙◌, codes, eqb-true}
use Rattle.std.proofs.lemmas.Bool.{cond_both}
use Rattle.mw_model.specs.Seed.{Seed}
use Rattle.mw_model.specs.Sets.{SetPacket}
use Rattle.mw_protocol.specs.Commands.{is_allowed, where_new}
use Rattle.mw_protocol.specs.Connecting.{Member}
use Rattle.mw_protocol.specs.Effect.{Effect, telling}
use Rattle.mw_protocol.specs.Effects.{member_effect, effect_of}
use Rattle.mw_protocol.specs.Entering.{parting}
use Rattle.mw_protocol.specs.Hints.{Answer, bought, no_such_name, nothing_to_hint, too_dear, bought_for, item_wanted, location_wanted}
use Rattle.mw_protocol.specs.Packets.{Packet, connect, connect_update, sync, location_checks, location_scouts, update_hint, status_update, say, get_data_package, bounce, get, change, set_notify}
use Rattle.mw_protocol.specs.Records.{Record, release, collect}
use Rattle.mw_protocol.specs.Rooms.{Session, Room, Event, opened, sent, failed, lost, or_else, effect_in, member_in, members_in}
use Rattle.mw_protocol.specs.Sayings as said
use Rattle.mw_protocol.specs.Sayings.{said_of}
use Rattle.mw_protocol.specs.Speaking.{giving, where_allowed, buying, saying}
use Rattle.mw_protocol.specs.Standing.{Standing, standing, is_checked, status_in, points}
use Rattle.mw_protocol.specs.Storage.{Refused, Changed, set_case}
use Rattle.mw_protocol.specs.Storing.{storing}
use Rattle.mw_laws.specs.Turns.{member_then}

-- ---- what makes no member

giving_none : (seed : Seed) (records : List Record) → (giving seed records).member ≡ None
giving_none seed [] = refl
giving_none seed (r ∷ rs) = refl

allowed_none : (permission s : ℕ) (effect : Effect) → effect.member ≡ None → (where_allowed permission s effect).member ≡ None
allowed_none permission s effect h = cond_both (is_allowed permission s) effect (telling (codes "not allowed")) (λ e. e.member ≡ None) (λ _. h) (λ _. refl)

buying_none : (seed : Seed) (now : Standing) (answer : Answer) → (buying seed now answer).member ≡ None
buying_none seed now (bought h) = refl
buying_none seed now no_such_name = refl
buying_none seed now nothing_to_hint = refl
buying_none seed now (too_dear price left) = refl

saying_none : (seed : Seed) (now : Standing) (members : List Member) (m : Member) (what : said.Said) → (saying seed now members m what).member ≡ None
saying_none seed now members m (said.chat text) = refl
saying_none seed now members m said.help = refl
saying_none seed now members m said.players = refl
saying_none seed now members m said.missing = refl
saying_none seed now members m said.checked = refl
saying_none seed now members m said.remaining = allowed_none seed.server.remaining (status_in now m.team m.slot) _ refl
saying_none seed now members m said.release =
    allowed_none seed.server.release (status_in now m.team m.slot) (giving seed (where_new seed now (release m.team m.slot))) (giving_none seed (where_new seed now (release m.team m.slot)))
saying_none seed now members m said.collect =
    allowed_none seed.server.collect (status_in now m.team m.slot) (giving seed (where_new seed now (collect m.team m.slot))) (giving_none seed (where_new seed now (collect m.team m.slot)))
saying_none seed now members m (said.hint []) = refl
saying_none seed now members m (said.hint (c ∷ cs)) =
    buying_none seed now (bought_for seed (is_checked now) (points seed now m.team m.slot) now.hints m.team m.slot (item_wanted (c ∷ cs)))
saying_none seed now members m (said.hint_location name) =
    buying_none seed now (bought_for seed (is_checked now) (points seed now m.team m.slot) now.hints m.team m.slot (location_wanted name))
saying_none seed now members m said.unknown_command = refl

storing_none : (now : Standing) (m : Member) (set : SetPacket) (done : Result Changed Refused) → (storing now m set done).member ≡ None
storing_none now m set (Ok c) = refl
storing_none now m set (Err r) = refl

parting_none : (seed : Seed) (member : Option Member) → (parting seed member).member ≡ None
parting_none seed None = refl
parting_none seed (Some m) = refl

-- ---- who plays a slot after an event

module _ (team slot : ℕ) where
  -- it plays this slot of this team, if it plays one
  abbrev pub Plays : Option Member → Type 0
  Plays None = Unit {0}
  Plays (Some m) = (m.team ≡ team) × (m.slot ≡ slot)

  unmade : (made member : Option Member) → made ≡ None → Plays (or_else made member) → Plays member
  unmade made member none h = subst (λ new. Plays (or_else new member)) none h

  by_packet : (seed : Seed) (now : Standing) (members : List Member) (k : Member) (packet : Packet) → Plays (or_else (member_effect seed now members k packet).member (Some k)) → Plays (Some k)
  by_packet seed now members k (connect fields) h = h
  by_packet seed now members k (connect_update u) h = h
  by_packet seed now members k sync h = h
  by_packet seed now members k (location_checks numbers) h = h
  by_packet seed now members k (location_scouts numbers as_hint) h = h
  by_packet seed now members k (update_hint u) h = h
  by_packet seed now members k (status_update s) h = h
  by_packet seed now members k (say text) h = unmade (saying seed now members k (said_of text)).member (Some k) (saying_none seed now members k (said_of text)) h
  by_packet seed now members k (get_data_package games) h = h
  by_packet seed now members k (bounce b) h = h
  by_packet seed now members k (get keys further) h = h
  by_packet seed now members k (change set) h = unmade (storing now k set (set_case now.storage set)).member (Some k) (storing_none now k set (set_case now.storage set)) h
  by_packet seed now members k (set_notify keys) h = h

  by_effect : (seed : Seed) (now : Standing) (members : List Member) (member : Option Member) (packet : Packet) → Plays (or_else (effect_of seed now members member packet).member member) → Plays member
  by_effect seed now members None packet h = tt
  by_effect seed now members (Some k) packet h = by_packet seed now members k packet h

  -- who plays it after an event plays no other before
  pub plays_before : (room : Room) (event : Event) (s : Session) → member_in room.sessions s.number ≡ s.member → Plays (member_then room event s) → Plays s.member
  plays_before room (opened time) s has h = h
  plays_before room (failed sender bad) s has h =
      elim (s.number == sender) as (λ b. Plays (cond b (or_else None s.member) s.member) → Plays s.member) [ true ↦ λ now. now | false ↦ λ now. now ] h
  plays_before room (lost sender) s has h =
      let made = (effect_in room (lost sender)).member in
      elim (s.number == sender) as (λ b. Plays (cond b (or_else made s.member) s.member) → Plays s.member) [
        | true ↦ unmade made s.member (parting_none room.seed (member_in room.sessions sender))
        | false ↦ λ now. now
      ] h
  plays_before room (sent sender packet) s has h =
      let made = (effect_in room (sent sender packet)).member in
      let now = standing room.seed room.journal in
      let members = members_in room.sessions in
      elim (s.number == sender) as (λ b. (s.number == sender) ≡ b → Plays (cond b (or_else made s.member) s.member) → Plays s.member) [
        | true ↦ λ sends then.
            let own : member_in room.sessions sender ≡ s.member = ap (member_in room.sessions) (sym (eqb-true s.number sender sends)) ∙ has in
            by_effect room.seed now members s.member packet (subst (λ member. Plays (or_else (effect_of room.seed now members member packet).member s.member)) own then)
        | false ↦ λ _ then. then
      ] refl h
