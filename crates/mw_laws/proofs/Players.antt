-- Who plays a slot plays one of a team of the seed.
use Rattle.std.proofs.Common.{◌≡◌, ℕ, zero, suc, ◌+◌, ◌<◌, ◌≤◌, ◌==◌, List, Bool, true, false, cond, ◌∷◌, [], Option, Some, None, is_some, map, length, nat_lt, slice_get, bytes_eq, refl, sym, subst, arith}
use Rattle.std.proofs.lemmas.Bool.{and_from, cond_both, lt-ltb}
use Rattle.mw_model.specs.Seed.{Seed, Slot, slot_of}
use Rattle.mw_protocol.specs.Connecting.{Player, Member, team_named, player_or, player_among, player_named, connect_errors, member_at, member_unless, member_by}
use Rattle.mw_protocol.specs.Effects.{stranger_effect, effect_of}
use Rattle.mw_protocol.specs.Entering.{joining}
use Rattle.mw_protocol.specs.Messages.{room_info}
use Rattle.mw_protocol.specs.Named.{has_player}
use Rattle.mw_protocol.specs.Packets.{Packet, Connect, connect}
use Rattle.mw_protocol.specs.Players.{room_info_of}
use Rattle.mw_protocol.specs.Rooms.{Session, Room, Event, opened, sent, failed, lost, with_member, or_else, member_in, members_in, effect_in, next}
use Rattle.mw_protocol.specs.Standing.{Standing, standing}
use Rattle.mw_laws.specs.Naming.{NamesFit}
use Rattle.mw_laws.specs.Told.{staying, newcomers, session_then}
use Rattle.mw_laws.specs.Turns.{is_of, member_then, owed_by}
use Rattle.mw_laws.proofs.Each.{Each, each_weaker, each_map, none_some, some_same}
use Rattle.mw_laws.proofs.Effects.{MayBecome, packet_facts, parting_plain}
use Rattle.mw_laws.proofs.Following.{staying_each}
use Rattle.mw_laws.proofs.Pairs.{each_of, each_append}
use Rattle.mw_laws.proofs.Sessions.{told_member}
use Rattle.mw_laws.proofs.Telling.{events_tell}

-- ---- who is named

-- the team of a name is among so many
team_within : (name : List ℕ) (team : ℕ) (names : List (List ℕ)) (t : ℕ) → team_named name team names ≡ Some t → t < team + length names
team_within name team [] t e = absurd (none_some t e)
team_within name team (first ∷ others) t e =
    cond_both (bytes_eq first name) (Some team) (team_named name (team + 1) others) (λ o. o ≡ Some t → t < team + length (first ∷ others))
    (λ _ is. let same = some_same team t is in omega (arith, same))
    (λ _ later. let low = team_within name (team + 1) others t later in omega (arith, low))
    e

-- its slot is one of those from a number on
abbrev IsWithin : ℕ → ℕ → ℕ → Player → Type 0
IsWithin teams number count p = (p.team < teams) × (number ≤ p.slot) × (p.slot < number + count)

player_within : (teams : ℕ) (name : List ℕ) (number : ℕ) (slots : List Slot) (p : Player) → Each (λ slot. length slot.names ≤ teams) slots
    → player_among name number slots ≡ Some p → IsWithin teams number (length slots) p
player_within teams name number [] p h e = absurd (none_some p e)
player_within teams name number (slot ∷ slots) p h e = by (λ later. player_within teams name (number + 1) slots p h.1 later) (team_named name 0 slot.names) refl e
  where
    by : (player_among name (number + 1) slots ≡ Some p → IsWithin teams (number + 1) (length slots) p) → (o : Option ℕ)
        → team_named name 0 slot.names ≡ o → player_or o number (player_among name (number + 1) slots) ≡ Some p → IsWithin teams number (length (slot ∷ slots)) p
    by rest None none later = let within = rest later in (within.0, omega (arith, within.1), omega (arith, within.2))
    by rest (Some team) is same =
        let low = team_within name 0 slot.names team is in
        subst (IsWithin teams number (length (slot ∷ slots))) (some_same record { team = team; slot = number } p same) (omega (arith, low, h.0), omega arith, omega arith)

slot_at : (slots : List Slot) (k : ℕ) → k < length slots → is_some (slice_get slots k) ≡ true
slot_at [] k lt = absurd (omega (arith, lt))
slot_at (s ∷ ss) zero lt = refl
slot_at (s ∷ ss) (suc k) lt = slot_at ss k (omega (arith, lt))

-- each number from 1 up to how many slots there are is one's
slot_there : (seed : Seed) (number : ℕ) → 1 ≤ number → number < 1 + length seed.slots → is_some (slot_of seed number) ≡ true
slot_there seed zero low high = absurd (omega (arith, low))
slot_there seed (suc before) low high = slot_at seed.slots before (omega (arith, high))

module _ (seed : Seed) where
  -- it plays a slot of a team, if it plays one
  abbrev pub Plays : Option Member → Type 0
  Plays None = Unit {0}
  Plays (Some m) = has_player seed m.team m.slot ≡ true

  abbrev pub IsPlayer : Session → Type 0
  IsPlayer s = Plays s.member

  pub found_plays : (ss : List Session) (number : ℕ) → Each IsPlayer ss → Plays (member_in ss number)
  found_plays [] number h = tt
  found_plays (s ∷ ss) number h = cond_both (s.number == number) s.member (member_in ss number) Plays (λ _. h.0) (λ _. found_plays ss number h.1)

  unless_plays : (errors : List (List ℕ)) (made : Option Member) → Plays made → Plays (member_unless errors made)
  unless_plays [] made h = h
  unless_plays (error ∷ errors) made h = tt

  joining_plays : (s : Standing) (fields : Connect) (made : Option Member) → Plays made → Plays (joining seed s fields made).member
  joining_plays s fields None h = tt
  joining_plays s fields (Some m) h = h

  -- what a member becomes plays its slot
  still_plays : (k : Member) (made : Option Member) → Plays (Some k) → MayBecome (Some k) (or_else made (Some k)) → Plays made
  still_plays k None plays h = tt
  still_plays k (Some n) plays h = subst (λ team. has_player seed team n.slot ≡ true) (sym h.0) (subst (λ slot. has_player seed k.team slot ≡ true) (sym h.1) plays)

  after_plays : (made : Option Member) (sends : Bool) (member : Option Member) → Plays made → Plays member → Plays (cond sends (or_else made member) member)
  after_plays made false member new old = old
  after_plays None true member new old = old
  after_plays (Some m) true member new old = new

  module _ (fit : NamesFit seed) where
    at_plays : (fields : Connect) (o : Option Player) → player_named seed fields.name ≡ o → Plays (member_at fields o)
    at_plays fields None e = tt
    at_plays fields (Some p) e =
        let within = player_within seed.teams fields.name 1 seed.slots p (each_of (λ slot. length slot.names ≤ seed.teams) seed.slots fit.names) e in
        and_from (nat_lt p.team seed.teams) (is_some (slot_of seed p.slot)) (lt-ltb p.team seed.teams within.0) (slot_there seed p.slot within.1 within.2)

    stranger_plays : (s : Standing) (packet : Packet) → Plays (stranger_effect seed s packet).member
    stranger_plays s (connect fields) =
        joining_plays s fields (member_by seed fields) (unless_plays (connect_errors seed fields) (member_at fields (player_named seed fields.name)) (at_plays fields (player_named seed fields.name) refl))
    stranger_plays s packet = tt

    packet_plays : (s : Standing) (members : List Member) (member : Option Member) (packet : Packet) → Plays member → Plays (effect_of seed s members member packet).member
    packet_plays s members None packet plays = stranger_plays s packet
    packet_plays s members (Some k) packet plays = still_plays k (effect_of seed s members (Some k) packet).member plays (packet_facts seed s members (Some k) packet).2

    -- ---- rooms

    module _ (room : Room) (same : room.seed ≡ seed) (h : Each IsPlayer room.sessions) where
      made_plays : (event : Event) → Plays (effect_in room event).member
      made_plays (opened time) = tt
      made_plays (sent number packet) =
          subst (λ e. Plays (effect_of e (standing e room.journal) (members_in room.sessions) (member_in room.sessions number) packet).member) (sym same)
          (packet_plays (standing seed room.journal) (members_in room.sessions) (member_in room.sessions number) packet (found_plays room.sessions number h))
      made_plays (failed number bad) = tt
      made_plays (lost number) = subst Plays (sym (parting_plain room.seed (member_in room.sessions number)).2) tt

      then_plays : (event : Event) (s : Session) → IsPlayer s → IsPlayer (session_then room event s)
      then_plays event s plays =
          subst Plays (sym (told_member (owed_by room event s) (length (next room event).journal) (with_member (member_then room event s) s)))
          (after_plays (effect_in room event).member (is_of event s.number) s.member (made_plays event) plays)

      new_plays : (event : Event) → Each IsPlayer (newcomers room event)
      new_plays (opened time) =
          (subst Plays (sym (told_member (room_info (room_info_of room.seed time) ∷ []) (length room.journal) record { number = room.opened + 1; member = None; owed = []; taken = 0; overrun = false })) tt, tt)
      new_plays (sent number packet) = tt
      new_plays (failed number bad) = tt
      new_plays (lost number) = tt

      pub next_plays : (event : Event) → Each IsPlayer (next room event).sessions
      next_plays event =
          subst (Each IsPlayer) (sym (events_tell room event))
          (each_append IsPlayer (map (session_then room event) (staying room event)) (newcomers room event)
          (each_map IsPlayer (session_then room event) (staying room event)
          (each_weaker IsPlayer (λ s. IsPlayer (session_then room event s)) (then_plays event) (staying room event) (staying_each IsPlayer room event h)))
          (new_plays event))
