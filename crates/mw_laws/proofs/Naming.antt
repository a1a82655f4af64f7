-- The records of a room's lives name only what its seed has.
use Rattle.std.proofs.Common.{◌≡◌, ℕ, ℤ, ◌+◌, ◌==◌, ◌&&◌, ◌||◌, List, Bool, true, not, cond, ◌∷◌, [], Option, Some, None, Result, Ok, Err, is_some, map, codes, nat_lt, refl, sym, ap, subst, ◌∙◌, true≢false, eqb-true, eq-eqb}
use Rattle.std.specs.List.{list_all}
use Rattle.std.specs.Ordering.{int_eq}
use Rattle.std.proofs.lemmas.Bool.{and_from, and_parts, cond_both, cond-true}
use Rattle.std.proofs.lemmas.Bool.Decides.{Decides-int_eq}
use Rattle.mw_model.specs.Seed.{Seed, Held, slot_of, held_among, held_at, is_owner}
use Rattle.mw_model.specs.Sets.{SetPacket}
use Rattle.mw_protocol.specs.Asked.{asked_by}
use Rattle.mw_protocol.specs.Checks.{Check, checks_at, unseen}
use Rattle.mw_protocol.specs.Commands.{is_allowed, is_automatic, if_some, where_new, at_goal_released, at_goal, status_after}
use Rattle.mw_protocol.specs.Connecting.{Member, member_by}
use Rattle.mw_protocol.specs.Effect.{Effect, telling}
use Rattle.mw_protocol.specs.Effects.{stranger_effect, member_effect, effect_of}
use Rattle.mw_protocol.specs.Entering.{joining, parting}
use Rattle.mw_protocol.specs.HintList.{hint_at}
use Rattle.mw_protocol.specs.Hints.{paid, bought_hint, item_bought, location_bought, first_where, first_if, is_open, item_named, location_named, held_named, scouted_hint, scouted_among, scouted_for, receives, differs, marks}
use Rattle.mw_protocol.specs.Lives.{Life, Call, happens, commits, takes, Step, acts, crashes, new_life, records_of, room_then, left_by, after, after_all, life_after_all}
use Rattle.mw_protocol.specs.Locating.{checks_record, hints_scouted, mark_record, slot_number}
use Rattle.mw_protocol.specs.Locations.{location_of, known, known_checks, new_checks}
use Rattle.mw_protocol.specs.Named.{has_player, has_location, has_locations, is_named, are_named}
use Rattle.mw_protocol.specs.Packets.{Packet, Connect, connect, location_checks, location_scouts, update_hint, status_update, say, change}
use Rattle.mw_protocol.specs.Records.{Record, checks, release, collect, status, hint, hint_status, store}
use Rattle.mw_protocol.specs.Rooms.{Room, Event, opened, sent, failed, lost, member_in, members_in, effect_in}
use Rattle.mw_protocol.specs.Sayings as said
use Rattle.mw_protocol.specs.Sayings.{said_of}
use Rattle.mw_protocol.specs.Speaking.{giving, where_allowed, buying, saying}
use Rattle.mw_protocol.specs.Standing.{Standing, standing, steps, is_checked, status_in, cost, points}
use Rattle.mw_protocol.specs.Storage.{Refused, Changed, value_of, set_case}
use Rattle.mw_protocol.specs.Storing.{is_kept, storing}
use Rattle.mw_laws.specs.Kept.{journal_after}
use Rattle.mw_laws.specs.Naming.{NamesFit, JournalsAreNamed}
use Rattle.mw_laws.proofs.Among.{unseen_each}
use Rattle.mw_laws.proofs.Each.{Each, each_weaker, each_map, each_taken}
use Rattle.mw_laws.proofs.Keeping.{call_journal, call_seed}
use Rattle.mw_laws.proofs.Lists.{passed-append, passed-take}
use Rattle.mw_laws.proofs.Pairs.{each_of}
use Rattle.mw_laws.proofs.Players.{Plays, IsPlayer, found_plays, next_plays}
use Rattle.mw_laws.proofs.Runs.{room_after_call}

-- ---- locations

-- one more before them hides nothing
held_more : (g : Held) (hs : List Held) (slot : ℕ) (location : ℤ) → is_some (held_among hs slot location) ≡ true → is_some (held_among (g ∷ hs) slot location) ≡ true
held_more g hs slot location h =
    cond_both ((g.slot == slot) && int_eq g.location location) (Some g) (held_among hs slot location) (λ o. is_some o ≡ true) (λ _. refl) (λ _. h)

held_self : (g : Held) (hs : List Held) → is_some (held_among (g ∷ hs) g.slot g.location) ≡ true
held_self g hs =
    ap is_some (cond-true ((g.slot == g.slot) && int_eq g.location g.location) (Some g) (held_among hs g.slot g.location)
    (and_from (g.slot == g.slot) (int_eq g.location g.location) (eq-eqb g.slot g.slot refl) ((Decides-int_eq g.location g.location).1 refl)))

-- something stands at the location of its slot
abbrev IsHeld : List Held → Held → Type 0
IsHeld hs h = is_some (held_among hs h.slot h.location) ≡ true

each_held : (hs : List Held) → Each (IsHeld hs) hs
each_held [] = tt
each_held (g ∷ hs) = (held_self g hs, each_weaker (IsHeld hs) (IsHeld (g ∷ hs)) (λ h was. held_more g hs h.slot h.location was) hs (each_held hs))

-- it holds of what is there, if anything is
abbrev OnSome : (Held → Type 0) → Option Held → Type 0
OnSome P None = Unit {0}
OnSome P (Some h) = P h

module _ (P : Held → Type 0) where
  among_each : (hs : List Held) (slot : ℕ) (location : ℤ) → Each P hs → OnSome P (held_among hs slot location)
  among_each [] slot location h = tt
  among_each (g ∷ gs) slot location h =
      cond_both ((g.slot == slot) && int_eq g.location location) (Some g) (held_among gs slot location) (OnSome P) (λ _. h.0) (λ _. among_each gs slot location h.1)

  first_each : (p : Held → Bool) (hs : List Held) → Each P hs → OnSome P (first_where p hs)
  first_each p [] h = tt
  first_each p (g ∷ gs) h = cond_both (p g) (Some g) (first_where p gs) (OnSome P) (λ _. h.0) (λ _. first_each p gs h.1)

  if_each : (p : Held → Bool) (o : Option Held) → OnSome P o → OnSome P (first_if p o)
  if_each p None h = tt
  if_each p (Some g) h = cond_both (p g) (Some g) None (OnSome P) (λ _. h) (λ _. tt)

-- ---- records

named_all : (seed : Seed) (rs : List Record) → are_named seed rs ≡ list_all (is_named seed) rs
named_all seed [] = refl
named_all seed (r ∷ rs) = ap (λ b. is_named seed r && b) (named_all seed rs)

module _ (seed : Seed) (fit : NamesFit seed) where
  abbrev Named : List Record → Type 0
  Named rs = list_all (is_named seed) rs ≡ true

  abbrev IsThere : ℕ → Type 0
  IsThere slot = is_some (slot_of seed slot) ≡ true

  abbrev IsKnown : ℕ → ℤ → Type 0
  IsKnown slot location = is_some (held_at seed slot location) ≡ true

  -- of one record
  one : (r : Record) → is_named seed r ≡ true → Named (r ∷ [])
  one r h = and_from (is_named seed r) true h refl

  -- where something is held a slot is
  finder_there : (hs : List Held) (slot : ℕ) (location : ℤ) → Each (λ h. IsThere h.slot) hs → is_some (held_among hs slot location) ≡ true → IsThere slot
  finder_there [] slot location h is = absurd (true≢false (sym is))
  finder_there (g ∷ gs) slot location h is =
      cond_both ((g.slot == slot) && int_eq g.location location) (Some g) (held_among gs slot location) (λ o. is_some o ≡ true → IsThere slot)
      (λ at _. subst IsThere (eqb-true g.slot slot (and_parts (g.slot == slot) (int_eq g.location location) at).0) h.0)
      (λ _ later. finder_there gs slot location h.1 later)
      is

  -- so a location at which something is held is one of each team
  location_there : (team finder : ℕ) (location : ℤ) → nat_lt team seed.teams ≡ true → IsKnown finder location → has_location seed team finder location ≡ true
  location_there team finder location low is =
      and_from (has_player seed team finder) (is_some (held_at seed finder location))
      (and_from (nat_lt team seed.teams) (is_some (slot_of seed finder)) low
      (finder_there seed.locations finder location (each_of (λ h. IsThere h.slot) seed.locations fit.locations) is))
      is

  -- ---- known locations

  known_each : (slot : ℕ) (numbers : List ℤ) → Each (IsKnown slot) (known seed slot numbers)
  known_each slot [] = tt
  known_each slot (l ∷ ls) =
      cond_both (is_some (held_at seed slot l)) (l ∷ known seed slot ls) (known seed slot ls) (Each (IsKnown slot)) (λ is. (is, known_each slot ls)) (λ _. known_each slot ls)

  checks_each : (team slot : ℕ) (ls : List ℤ) → Each (IsKnown slot) ls → Each (λ c. IsKnown slot c.location) (checks_at team slot ls)
  checks_each team slot [] h = tt
  checks_each team slot (l ∷ ls) h = (h.0, checks_each team slot ls h.1)

  -- those that are new among the numbers
  new_each : (seen : List Check) (team slot : ℕ) (numbers : List ℤ) → Each (λ c. IsKnown slot c.location) (new_checks seed seen team slot numbers)
  new_each seen team slot numbers =
      unseen_each (λ c. IsKnown slot c.location) seen (checks_at team slot (known seed slot numbers)) (checks_each team slot (known seed slot numbers) (known_each slot numbers))

  known_all : (slot : ℕ) (ls : List ℤ) → Each (IsKnown slot) ls → has_locations seed slot ls ≡ true
  known_all slot [] h = refl
  known_all slot (l ∷ ls) h = and_from (is_some (held_at seed slot l)) (has_locations seed slot ls) h.0 (known_all slot ls h.1)

  -- ---- what a member records

  module _ (m : Member) (plays : has_player seed m.team m.slot ≡ true) where
    low : nat_lt m.team seed.teams ≡ true
    low = (and_parts (nat_lt m.team seed.teams) (is_some (slot_of seed m.slot)) plays).0

    there : IsThere m.slot
    there = (and_parts (nat_lt m.team seed.teams) (is_some (slot_of seed m.slot)) plays).1

    checks_named : (ls : List ℤ) → Each (IsKnown m.slot) ls → Named (checks_record m.team m.slot ls)
    checks_named [] h = refl
    checks_named (l ∷ ls) h = one (checks m.team m.slot (l ∷ ls)) (and_from (has_player seed m.team m.slot) (has_locations seed m.slot (l ∷ ls)) plays (known_all m.slot (l ∷ ls) h))

    scouted_named : (s : Standing) (cs : List Check) → Each (λ c. IsKnown m.slot c.location) cs → Named (map hint (scouted_among (is_checked s) s.hints m.team m.slot cs))
    scouted_named s [] h = refl
    scouted_named s (c ∷ cs) h =
        let rest = scouted_among (is_checked s) s.hints m.team m.slot cs in
        let own = hint (scouted_hint m.team m.slot c) in
        cond_both (is_checked s m.team m.slot c.location || is_some (hint_at s.hints m.team m.slot c.location)) rest (scouted_hint m.team m.slot c ∷ rest) (λ hs. Named (map hint hs))
        (λ _. scouted_named s cs h.1)
        (λ _. and_from (is_named seed own) (list_all (is_named seed) (map hint rest))
        (and_from (has_location seed m.team m.slot c.location) (is_some (slot_of seed m.slot)) (location_there m.team m.slot c.location low h.0) there) (scouted_named s cs h.1))

    hints_named : (s : Standing) (numbers : List ℤ) (as_hint : ℕ) → Named (map hint (hints_scouted seed s m numbers as_hint))
    hints_named s numbers as_hint =
        cond_both (as_hint == 0) [] (scouted_for seed (is_checked s) s.hints m.team m.slot numbers) (λ hs. Named (map hint hs)) (λ _. refl)
        (λ _. scouted_named s (known_checks seed m.team m.slot numbers) (new_each [] m.team m.slot numbers))

    received_known : (finder : ℕ) (location : ℤ) (o : Option Held) → receives seed m.slot o ≡ true → is_some o ≡ true
    received_known finder location None h = h
    received_known finder location (Some at) h = refl

    mark_named : (s : Standing) (finder : ℕ) (location : ℤ) (number : Option ℕ) → Named (mark_record seed s m finder location number)
    mark_named s finder location None = refl
    mark_named s finder location (Some n) =
        let gets = receives seed m.slot (held_at seed finder location) in
        let new = not (is_checked s m.team finder location) in
        let other = differs (hint_at s.hints m.team finder location) n in
        cond_both (marks seed (is_checked s) s.hints m.team m.slot finder location n) (hint_status m.team finder location n ∷ []) [] Named
        (λ is. one (hint_status m.team finder location n)
        (location_there m.team finder location low (received_known finder location (held_at seed finder location) (and_parts gets new (and_parts (gets && new) other is).0).0)))
        (λ _. refl)

    -- a record of its own, where there is one
    some_named : (cs : List Check) (r : Record) → is_named seed r ≡ true → Named (if_some cs r)
    some_named [] r h = refl
    some_named (c ∷ cs) r h = one r h

    where_named : (s : Standing) (r : Record) → is_named seed r ≡ true → Named (where_new seed s r)
    where_named s r h = some_named (unseen s.checked (asked_by seed r)) r h

    goal_named : (s : Standing) → Named (at_goal seed s m.team m.slot)
    goal_named s =
        let first = cond (is_automatic seed.server.collect) (where_new seed s (collect m.team m.slot)) [] in
        let then = steps seed s first in
        passed-append (is_named seed) first (at_goal_released seed then m.team m.slot)
        (cond_both (is_automatic seed.server.collect) (where_new seed s (collect m.team m.slot)) [] Named (λ _. where_named s (collect m.team m.slot) plays) (λ _. refl))
        (cond_both (is_automatic seed.server.release) (where_new seed then (release m.team m.slot)) [] Named (λ _. where_named then (release m.team m.slot) plays) (λ _. refl))

    status_named : (s : Standing) (before number : ℕ) → Named (status_after seed s m before number)
    status_named s before number =
        let goal = cond (number == 30) (at_goal seed s m.team m.slot) [] in
        cond_both ((before == 30) || (before == number)) [] (status m.team m.slot number ∷ goal) Named (λ _. refl)
        (λ _. and_from (has_player seed m.team m.slot) (list_all (is_named seed) goal) plays (cond_both (number == 30) (at_goal seed s m.team m.slot) [] Named (λ _. goal_named s) (λ _. refl)))

    -- ---- texts

    giving_named : (rs : List Record) → Named rs → Named (giving seed rs).records
    giving_named [] h = refl
    giving_named (r ∷ rs) h = h

    allowed_named : (permission number : ℕ) (effect : Effect) → Named effect.records → Named (where_allowed permission number effect).records
    allowed_named permission number effect h =
        cond_both (is_allowed permission number) effect (telling (codes "not allowed")) (λ e. Named e.records) (λ _. h) (λ _. refl)

    paid_named : (s : Standing) (price left : ℕ) (o : Option Held) → OnSome (IsHeld seed.locations) o → Named (buying seed s (paid m.team m.slot price left o)).records
    paid_named s price left None h = refl
    paid_named s price left (Some at) h =
        let own = bought_hint m.team m.slot at in
        cond_both (nat_lt left price) _ _ (λ answer. Named (buying seed s answer).records) (λ _. refl)
        (λ _. one (hint own) (and_from (has_location seed m.team at.slot at.location) (is_some (slot_of seed m.slot)) (location_there m.team at.slot at.location low h) there))

    item_hint_named : (s : Standing) (id : Option ℤ) → Named (buying seed s (item_bought seed (is_checked s) (points seed s m.team m.slot) s.hints m.team m.slot id)).records
    item_hint_named s None = refl
    item_hint_named s (Some id) =
        paid_named s (cost seed m.slot) (points seed s m.team m.slot) _
        (first_each (IsHeld seed.locations) (λ h. is_owner seed h.receiver m.slot && int_eq h.item id && is_open (is_checked s) s.hints m.team h) seed.locations (each_held seed.locations))

    location_hint_named : (s : Standing) (o : Option Held) → OnSome (IsHeld seed.locations) o → Named (buying seed s (location_bought seed (is_checked s) (points seed s m.team m.slot) s.hints m.team m.slot o)).records
    location_hint_named s None h = refl
    location_hint_named s (Some at) h =
        paid_named s (cost seed m.slot) (points seed s m.team m.slot) (first_if (is_open (is_checked s) s.hints m.team) (Some at))
        (if_each (IsHeld seed.locations) (is_open (is_checked s) s.hints m.team) (Some at) h)

    held_there : (id : Option ℤ) → OnSome (IsHeld seed.locations) (held_named seed m.slot id)
    held_there None = tt
    held_there (Some id) = among_each (IsHeld seed.locations) seed.locations m.slot id (each_held seed.locations)

    saying_named : (s : Standing) (members : List Member) (what : said.Said) → Named (saying seed s members m what).records
    saying_named s members said.remaining = allowed_named seed.server.remaining (status_in s m.team m.slot) _ refl
    saying_named s members said.release =
        allowed_named seed.server.release (status_in s m.team m.slot) (giving seed (where_new seed s (release m.team m.slot)))
        (giving_named (where_new seed s (release m.team m.slot)) (where_named s (release m.team m.slot) plays))
    saying_named s members said.collect =
        allowed_named seed.server.collect (status_in s m.team m.slot) (giving seed (where_new seed s (collect m.team m.slot)))
        (giving_named (where_new seed s (collect m.team m.slot)) (where_named s (collect m.team m.slot) plays))
    saying_named s members (said.hint (c ∷ cs)) = item_hint_named s (item_named seed m.slot (c ∷ cs))
    saying_named s members (said.hint_location name) = location_hint_named s (held_named seed m.slot (location_named seed m.slot name)) (held_there (location_named seed m.slot name))
    saying_named s members what = refl

    storing_named : (s : Standing) (set : SetPacket) (done : Result Changed Refused) → Named (storing s m set done).records
    storing_named s set (Err r) = refl
    storing_named s set (Ok c) = cond_both (is_kept c.new (value_of set.key s.storage)) [] (store set.key c.new ∷ []) Named (λ _. refl) (λ _. refl)

    member_named : (s : Standing) (members : List Member) (packet : Packet) → Named (member_effect seed s members m packet).records
    member_named s members (location_checks numbers) =
        let new = new_checks seed s.checked m.team m.slot numbers in
        checks_named (map location_of new) (each_map (IsKnown m.slot) location_of new (new_each s.checked m.team m.slot numbers))
    member_named s members (location_scouts numbers as_hint) = hints_named s numbers as_hint
    member_named s members (update_hint u) = mark_named s (slot_number u.player) u.location u.status
    member_named s members (status_update number) = status_named s (status_in s m.team m.slot) number
    member_named s members (say text) = saying_named s members (said_of text)
    member_named s members (change set) = storing_named s set (set_case s.storage set)
    member_named s members packet = refl

  -- ---- events

  joining_named : (s : Standing) (fields : Connect) (made : Option Member) → Named (joining seed s fields made).records
  joining_named s fields None = refl
  joining_named s fields (Some m) = refl

  stranger_named : (s : Standing) (packet : Packet) → Named (stranger_effect seed s packet).records
  stranger_named s (connect fields) = joining_named s fields (member_by seed fields)
  stranger_named s packet = refl

  packet_named : (s : Standing) (members : List Member) (member : Option Member) (packet : Packet) → Plays seed member → Named (effect_of seed s members member packet).records
  packet_named s members None packet plays = stranger_named s packet
  packet_named s members (Some m) packet plays = member_named m plays s members packet

  parting_named : (e : Seed) (member : Option Member) → Named (parting e member).records
  parting_named e None = refl
  parting_named e (Some m) = refl

  event_named : (room : Room) → room.seed ≡ seed → Each (IsPlayer seed) room.sessions → (event : Event) → Named (effect_in room event).records
  event_named room same h (opened time) = refl
  event_named room same h (sent number packet) =
      subst (λ e. Named (effect_of e (standing e room.journal) (members_in room.sessions) (member_in room.sessions number) packet).records) (sym same)
      (packet_named (standing seed room.journal) (members_in room.sessions) (member_in room.sessions number) packet (found_plays seed room.sessions number h))
  event_named room same h (failed number bad) = refl
  event_named room same h (lost number) = parting_named room.seed (member_in room.sessions number)

  -- ---- lives

  -- whoever plays is of the seed, and the journal is named
  abbrev IsFit : Room → Type 0
  IsFit room = (room.seed ≡ seed) × Each (IsPlayer seed) room.sessions × Named room.journal

  call_named : (room : Room) → room.seed ≡ seed → Each (IsPlayer seed) room.sessions → (call : Call) → Named (records_of room call)
  call_named room same h (happens event) = event_named room same h event
  call_named room same h commits = refl
  call_named room same h (takes number) = refl

  call_plays : (room : Room) → room.seed ≡ seed → Each (IsPlayer seed) room.sessions → (call : Call) → Each (IsPlayer seed) (room_then room call).sessions
  call_plays room same h (happens event) = next_plays seed fit room same h event
  call_plays room same h commits = h
  call_plays room same h (takes number) = each_taken (IsPlayer seed) number (λ s plays. plays) room.sessions h

  call_fit : (room : Room) (call : Call) → IsFit room → IsFit (room_then room call)
  call_fit room call h = (
    call_seed room call ∙ h.0,
    call_plays room h.0 h.1 call,
    subst Named (sym (call_journal room call)) (passed-append (is_named seed) room.journal (records_of room call) h.2 (call_named room h.0 h.1 call)),
  )

  left_named : (life : Life) (more : ℕ) → IsFit life.room → Named (left_by life more)
  left_named life more h = passed-take (is_named seed) (life.committed + more) life.room.journal h.2

  step_fit : (life : Life) (s : Step) → IsFit life.room → IsFit (after life s).room
  step_fit life (acts call luck) h = room_after_call life call luck IsFit h (λ _. call_fit life.room call h)
  step_fit life (crashes more place) h = (h.0, tt, left_named life more h)

  all_fit : (life : Life) (run : List Step) → IsFit life.room → IsFit (after_all life run).room
  all_fit life [] h = h
  all_fit life (s ∷ ss) h = all_fit (after life s) ss (step_fit life s h)

  pub run_fit : (run : List Step) → IsFit (life_after_all seed run).room
  run_fit run = all_fit (new_life seed [] 40) run (refl, tt, refl)

pub journals_are_named : JournalsAreNamed
journals_are_named = record {
  journal = λ seed run fit. named_all seed (journal_after seed run) ∙ (run_fit seed fit run).2;
  left = λ seed run more fit.
      let life = life_after_all seed run in
      named_all seed (left_by life more) ∙ left_named seed fit life more (run_fit seed fit run);
  anywhere = λ seed journal place run fit named.
      let first = new_life seed journal place in
      named_all seed (after_all first run).room.journal ∙ (all_fit seed fit first run (refl, tt, sym (named_all seed journal) ∙ named)).2;
}
