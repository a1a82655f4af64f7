-- What the effect of every packet records.
use Rattle.std.proofs.Common.{◌≡◌, ℕ, ℤ, ◌≤◌, ◌==◌, ◌&&◌, ◌||◌, List, Bool, true, false, not, cond, ◌∷◌, [], Option, Some, None, is_some, map, codes, nat_lt, refl, ap}
use Rattle.std.proofs.lemmas.Bool.{cond_both, ltb-false as below_test}
use Rattle.std.specs.List.{list_all}
use Rattle.mw_model.specs.Seed.{Seed, Held}
use Rattle.mw_model.specs.Sets.{SetPacket}
use Rattle.mw_protocol.specs.Asked.{asked_by}
use Rattle.mw_protocol.specs.Checks.{Check, unseen}
use Rattle.mw_protocol.specs.Commands.{is_allowed, is_automatic, if_some, where_new, at_goal_released, at_goal, status_after}
use Rattle.mw_protocol.specs.Connecting.{Member, member_by}
use Rattle.mw_protocol.specs.Effect.{Effect, telling}
use Rattle.mw_protocol.specs.Effects.{stranger_effect, member_effect, effect_of}
use Rattle.mw_protocol.specs.Entering.{joining, parting}
use Rattle.mw_protocol.specs.HintList.{hint_at}
use Rattle.mw_protocol.specs.Hints.{paid, bought_hint, item_bought, location_bought, first_if, is_open, item_named, location_named, held_named, scouted_hint, scouted_among, scouted_for, marks}
use Rattle.mw_protocol.specs.Locating.{checks_record, hints_scouted, mark_record, slot_number}
use Rattle.mw_protocol.specs.Locations.{known_checks, new_checks, location_of}
use Rattle.mw_protocol.specs.Packets.{Packet, Connect, connect, connect_update, sync, location_checks, location_scouts, update_hint, status_update, say, get_data_package, bounce, get, change, set_notify}
use Rattle.mw_protocol.specs.Records.{Record, Hint, checks, release, collect, status, hint, hint_status, store}
use Rattle.mw_protocol.specs.Sayings as said
use Rattle.mw_protocol.specs.Sayings.{said_of}
use Rattle.mw_protocol.specs.Speaking.{giving, where_allowed, buying, saying}
use Rattle.mw_protocol.specs.Standing.{Standing, steps, is_checked, status_in, cost, points}
use Rattle.mw_protocol.specs.Storing.{changing}
use Rattle.mw_laws.proofs.Lists.{passed-append}

-- what neither pays for a hint nor stores a value
abbrev pub is_free : Record → Bool
is_free (checks team slot locations) = true
is_free (release team slot) = true
is_free (collect team slot) = true
is_free (status team slot s) = true
is_free (hint h) = not h.bought
is_free (hint_status team finder location s) = true
is_free (store key value) = false

checks_free : (team slot : ℕ) (ls : List ℤ) → list_all is_free (checks_record team slot ls) ≡ true
checks_free team slot [] = refl
checks_free team slot (l ∷ ls) = refl

among_free : (found : _) (hs : List Hint) (team slot : ℕ) (cs : List Check) → list_all is_free (map hint (scouted_among found hs team slot cs)) ≡ true
among_free found hs team slot [] = refl
among_free found hs team slot (c ∷ cs) =
    elim (found team slot c.location || is_some (hint_at hs team slot c.location))
    as (λ b. list_all is_free (map hint (cond b (scouted_among found hs team slot cs) (scouted_hint team slot c ∷ scouted_among found hs team slot cs))) ≡ true) [
      | true ↦ among_free found hs team slot cs
      | false ↦ among_free found hs team slot cs
    ]

scouted_free : (seed : Seed) (s : Standing) (m : Member) (numbers : List ℤ) (as_hint : ℕ) → list_all is_free (map hint (hints_scouted seed s m numbers as_hint)) ≡ true
scouted_free seed s m numbers as_hint =
    elim (as_hint == 0) as (λ b. list_all is_free (map hint (cond b [] (scouted_for seed (is_checked s) s.hints m.team m.slot numbers))) ≡ true) [
      | true ↦ refl
      | false ↦ among_free (is_checked s) s.hints m.team m.slot (known_checks seed m.team m.slot numbers)
    ]

mark_free : (seed : Seed) (s : Standing) (m : Member) (finder : ℕ) (location : ℤ) (number : Option ℕ) → list_all is_free (mark_record seed s m finder location number) ≡ true
mark_free seed s m finder location None = refl
mark_free seed s m finder location (Some n) =
    elim (marks seed (is_checked s) s.hints m.team m.slot finder location n) as (λ b. list_all is_free (cond b (hint_status m.team finder location n ∷ []) []) ≡ true) [ true ↦ refl | false ↦ refl ]

if_some_free : {A : Type 0} (cs : List A) (r : Record) → is_free r ≡ true → list_all is_free (if_some cs r) ≡ true
if_some_free [] r free = refl
if_some_free (c ∷ cs) r free = ap (λ b. b && true) free

-- under either outcome
either_free : (b : Bool) (xs ys : List Record) → list_all is_free xs ≡ true → list_all is_free ys ≡ true → list_all is_free (cond b xs ys) ≡ true
either_free true xs ys h k = h
either_free false xs ys h k = k

released_free : (seed : Seed) (s : Standing) (team slot : ℕ) → list_all is_free (at_goal_released seed s team slot) ≡ true
released_free seed s team slot =
    either_free (is_automatic seed.server.release) (where_new seed s (release team slot)) [] (if_some_free (unseen s.checked (asked_by seed (release team slot))) (release team slot) refl) refl

goal_free : (seed : Seed) (s : Standing) (team slot : ℕ) → list_all is_free (at_goal seed s team slot) ≡ true
goal_free seed s team slot =
    let collected = cond (is_automatic seed.server.collect) (where_new seed s (collect team slot)) [] in
    passed-append is_free collected (at_goal_released seed (steps seed s collected) team slot)
    (either_free (is_automatic seed.server.collect) (where_new seed s (collect team slot)) [] (if_some_free (unseen s.checked (asked_by seed (collect team slot))) (collect team slot) refl) refl)
    (released_free seed (steps seed s collected) team slot)

status_free : (seed : Seed) (s : Standing) (m : Member) (before number : ℕ) → list_all is_free (status_after seed s m before number) ≡ true
status_free seed s m before number =
    let goal = cond (number == 30) (at_goal seed s m.team m.slot) [] in
    either_free ((before == 30) || (before == number)) [] (status m.team m.slot number ∷ goal) refl
    (either_free (number == 30) (at_goal seed s m.team m.slot) [] (goal_free seed s m.team m.slot) refl)

-- ---- effects

-- what holds of records that neither pay nor store, of a hint that is bought where the points reach, and of a change, holds of an effect's
module _ (seed : Seed) (s : Standing) (K : List Record → Type 0) (free : (rs : List Record) → list_all is_free rs ≡ true → K rs)
    (buys : (m : Member) (at : Held) → cost seed m.slot ≤ points seed s m.team m.slot → K (hint (bought_hint m.team m.slot at) ∷ [])) where
  none : K []
  none = free [] refl

  giving_records : (rs : List Record) → list_all is_free rs ≡ true → K (giving seed rs).records
  giving_records [] h = none
  giving_records (r ∷ rs) h = free (r ∷ rs) h

  allowed_records : (permission number : ℕ) (effect : Effect) → K effect.records → K (where_allowed permission number effect).records
  allowed_records permission number effect h =
      cond_both (is_allowed permission number) effect (telling (codes "not allowed")) (λ e. K e.records) (λ _. h) (λ _. none)

  new_records : (r : Record) → is_free r ≡ true → K (giving seed (where_new seed s r)).records
  new_records r h = giving_records (where_new seed s r) (if_some_free (unseen s.checked (asked_by seed r)) r h)

  paid_records : (m : Member) (o : Option Held) → K (buying seed s (paid m.team m.slot (cost seed m.slot) (points seed s m.team m.slot) o)).records
  paid_records m None = none
  paid_records m (Some at) =
      let price = cost seed m.slot in
      let left = points seed s m.team m.slot in
      cond_both (nat_lt left price) _ _ (λ answer. K (buying seed s answer).records) (λ _. none) (λ enough. buys m at (below_test left price enough))

  item_records : (m : Member) (id : Option ℤ) → K (buying seed s (item_bought seed (is_checked s) (points seed s m.team m.slot) s.hints m.team m.slot id)).records
  item_records m None = none
  item_records m (Some id) = paid_records m _

  location_records : (m : Member) (o : Option Held) → K (buying seed s (location_bought seed (is_checked s) (points seed s m.team m.slot) s.hints m.team m.slot o)).records
  location_records m None = none
  location_records m (Some at) = paid_records m (first_if (is_open (is_checked s) s.hints m.team) (Some at))

  saying_records : (members : List Member) (m : Member) (what : said.Said) → K (saying seed s members m what).records
  saying_records members m (said.chat text) = none
  saying_records members m said.help = none
  saying_records members m said.players = none
  saying_records members m said.missing = none
  saying_records members m said.checked = none
  saying_records members m said.remaining = allowed_records seed.server.remaining (status_in s m.team m.slot) _ none
  saying_records members m said.release =
      allowed_records seed.server.release (status_in s m.team m.slot) (giving seed (where_new seed s (release m.team m.slot))) (new_records (release m.team m.slot) refl)
  saying_records members m said.collect =
      allowed_records seed.server.collect (status_in s m.team m.slot) (giving seed (where_new seed s (collect m.team m.slot))) (new_records (collect m.team m.slot) refl)
  saying_records members m (said.hint []) = none
  saying_records members m (said.hint (c ∷ cs)) = item_records m (item_named seed m.slot (c ∷ cs))
  saying_records members m (said.hint_location name) = location_records m (held_named seed m.slot (location_named seed m.slot name))
  saying_records members m said.unknown_command = none

  joining_records : (fields : Connect) (made : Option Member) → K (joining seed s fields made).records
  joining_records fields None = none
  joining_records fields (Some m) = none

  -- it holds of the records of each change that the packet asks for
  abbrev Changes : Packet → Type 0
  Changes packet = (m : Member) (set : SetPacket) → packet ≡ change set → K (changing s m set).records

  member_records : (members : List Member) (m : Member) (packet : Packet) → Changes packet → K (member_effect seed s members m packet).records
  member_records members m (connect fields) changes = none
  member_records members m (connect_update u) changes = none
  member_records members m sync changes = none
  member_records members m (location_checks numbers) changes =
      free (member_effect seed s members m (location_checks numbers)).records (checks_free m.team m.slot (map location_of (new_checks seed s.checked m.team m.slot numbers)))
  member_records members m (location_scouts numbers as_hint) changes =
      free (member_effect seed s members m (location_scouts numbers as_hint)).records (scouted_free seed s m numbers as_hint)
  member_records members m (update_hint u) changes =
      free (member_effect seed s members m (update_hint u)).records (mark_free seed s m (slot_number u.player) u.location u.status)
  member_records members m (status_update number) changes =
      free (member_effect seed s members m (status_update number)).records (status_free seed s m (status_in s m.team m.slot) number)
  member_records members m (say text) changes = saying_records members m (said_of text)
  member_records members m (get_data_package games) changes = none
  member_records members m (bounce b) changes = none
  member_records members m (get keys further) changes = none
  member_records members m (change set) changes = changes m set refl
  member_records members m (set_notify keys) changes = none

  stranger_records : (packet : Packet) → K (stranger_effect seed s packet).records
  stranger_records (connect fields) = joining_records fields (member_by seed fields)
  stranger_records (connect_update u) = none
  stranger_records sync = none
  stranger_records (location_checks numbers) = none
  stranger_records (location_scouts numbers as_hint) = none
  stranger_records (update_hint u) = none
  stranger_records (status_update number) = none
  stranger_records (say text) = none
  stranger_records (get_data_package games) = none
  stranger_records (bounce b) = none
  stranger_records (get keys further) = none
  stranger_records (change set) = none
  stranger_records (set_notify keys) = none

  pub packet_records : (members : List Member) (member : Option Member) (packet : Packet) → Changes packet → K (effect_of seed s members member packet).records
  packet_records members None packet changes = stranger_records packet
  packet_records members (Some m) packet changes = member_records members m packet changes

  pub parting_records : (member : Option Member) → K (parting seed member).records
  parting_records None = none
  parting_records (Some m) = none
