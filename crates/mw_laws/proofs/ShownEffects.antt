-- What the effect of every packet shows.
use Rattle.std.proofs.Common.{◌≡◌, ℕ, ℤ, ◌==◌, List, ◌∷◌, [], Option, Some, None, Result, Ok, Err, map, filter, refl, sym, subst, ◌∙◌, append-nil, codes}
use Rattle.std.proofs.lemmas.Bool.{cond_both}
use Rattle.mw_model.specs.Seed.{Seed}
use Rattle.mw_model.specs.Sets.{SetPacket}
use Rattle.mw_protocol.specs.Asked.{asked, locations_of}
use Rattle.mw_protocol.specs.Checks.{Check, checks_at}
use Rattle.mw_protocol.specs.Commands.{is_allowed, where_new, status_records}
use Rattle.mw_protocol.specs.Connecting.{Member, member_by, updated}
use Rattle.mw_protocol.specs.Effect.{Effect, nothing, telling}
use Rattle.mw_protocol.specs.Effects.{stranger_effect, member_effect, effect_of, bad_effect}
use Rattle.mw_protocol.specs.Entering.{to_team, name_of, joining, tags_told, same_texts, parting}
use Rattle.mw_protocol.specs.Heard.{Announced}
use Rattle.mw_protocol.specs.Hints.{Answer, bought, no_such_name, nothing_to_hint, too_dear, bought_for, item_wanted, location_wanted}
use Rattle.mw_protocol.specs.Locating.{checks_record, checking, scouting, scouts_told, hints_scouted}
use Rattle.mw_protocol.specs.Locations.{location_of, known, new_checks}
use Rattle.mw_protocol.specs.Messages.{ServerPacket, connected}
use Rattle.mw_protocol.specs.Players.{connected_of}
use Rattle.mw_protocol.specs.Packets.{Packet, Connect, connect, connect_update, sync, location_checks, location_scouts, update_hint, status_update, say, get_data_package, bounce, get, change, set_notify}
use Rattle.mw_protocol.specs.Prints.{reached_goal, changed_tags}
use Rattle.mw_protocol.specs.Records.{Record, checks, release, collect, status, hint, hint_status, store}
use Rattle.mw_protocol.specs.Rooms.{Room, Event, opened, sent, failed, lost, or_else, member_in, members_in, effect_in}
use Rattle.mw_protocol.specs.Sayings as said
use Rattle.mw_protocol.specs.Sayings.{said_of}
use Rattle.mw_protocol.specs.Shown.{shown_by}
use Rattle.mw_protocol.specs.Speaking.{record_told, records_told, giving, where_allowed, buying, saying}
use Rattle.mw_protocol.specs.Standing.{Standing, standing, steps, is_checked, status_in, points}
use Rattle.mw_protocol.specs.Storage.{Refused, Changed, set_case}
use Rattle.mw_protocol.specs.Storing.{storing}
use Rattle.mw_laws.proofs.Among.{Among, among_self, still_among, asked_among, unseen_again, at_among, LocationAmong}
use Rattle.mw_laws.proofs.Each.{Each, each_weaker, some_same}
use Rattle.mw_laws.proofs.Pairs.{each_append}
use Rattle.mw_laws.proofs.Showing.{ShowsAmong, AnnouncesAmong, sends_among, hint_at_among, hints_among, reading_among}

-- its answers show what was checked, to the member that its sender then is; and what is announced shows what is checked with its records
pub record ShowsOnly (seed : Seed) (now : Standing) (member : Option Member) (e : Effect) : Type 0 where
  pub answers : (k : Member) → or_else e.member member ≡ Some k → Each (ShowsAmong now.checked k.team k.slot) e.answers
  pub announced : Each (AnnouncesAmong seed (steps seed now e.records).checked) e.announced

-- the member that an event is of
abbrev pub member_of : Room → Event → Option Member
member_of room (opened time) = None
member_of room (sent number packet) = member_in room.sessions number
member_of room (failed number bad) = member_in room.sessions number
member_of room (lost number) = member_in room.sessions number

-- ---- effects that show nothing

abbrev IsQuiet : ServerPacket → Type 0
IsQuiet p = (team slot : ℕ) → shown_by team slot p ≡ []

abbrev IsQuietly : Announced → Type 0
IsQuietly a = IsQuiet a.packet

quiet_among : (cs : List Check) (team slot : ℕ) (p : ServerPacket) → IsQuiet p → ShowsAmong cs team slot p
quiet_among cs team slot p h = subst (Each (Among cs)) (sym (h team slot)) tt

quiet_shows : (seed : Seed) (now : Standing) (member : Option Member) (e : Effect) → Each IsQuiet e.answers → Each IsQuietly e.announced → ShowsOnly seed now member e
quiet_shows seed now member e answers announced = record {
  answers = λ k is. each_weaker IsQuiet (ShowsAmong now.checked k.team k.slot) (quiet_among now.checked k.team k.slot) e.answers answers;
  announced = each_weaker IsQuietly (AnnouncesAmong seed (steps seed now e.records).checked) (λ a h sends m heard. quiet_among (steps seed now e.records).checked m.team m.slot a.packet h) e.announced announced;
}

record_quiet : (seed : Seed) (r : Record) → Each IsQuietly (record_told seed r)
record_quiet seed (checks team slot locations) = tt
record_quiet seed (release team slot) = (λ _ _. refl, tt)
record_quiet seed (collect team slot) = (λ _ _. refl, tt)
record_quiet seed (status team slot s) = cond_both (s == 30) (to_team team (reached_goal team slot (name_of seed team slot)) ∷ []) [] (Each IsQuietly) (λ _. (λ _ _. refl, tt)) (λ _. tt)
record_quiet seed (hint h) = tt
record_quiet seed (hint_status team finder location s) = tt
record_quiet seed (store key value) = tt

records_quiet : (seed : Seed) (rs : List Record) → Each IsQuietly (records_told seed rs)
records_quiet seed [] = tt
records_quiet seed (r ∷ rs) = each_append IsQuietly (record_told seed r) (records_told seed rs) (record_quiet seed r) (records_quiet seed rs)

tags_quiet : (seed : Seed) (before : List (List ℕ)) (m : Member) → Each IsQuietly (tags_told seed before m)
tags_quiet seed before m =
    cond_both (same_texts before m.tags) [] (to_team m.team (changed_tags m.team m.slot m.tags (name_of seed m.team m.slot)) ∷ []) (Each IsQuietly) (λ _. tt) (λ _. (λ _ _. refl, tt))

-- ---- effects that show something

-- Connected shows the checked locations of the slot
checked_among : (now : Standing) (team slot : ℕ) (ls : List ℤ) → Each (LocationAmong now.checked team slot) (filter (λ l. is_checked now team slot l) ls)
checked_among now team slot [] = tt
checked_among now team slot (l ∷ ls) =
    let rest = filter (λ l. is_checked now team slot l) ls in
    cond_both (is_checked now team slot l) (l ∷ rest) rest (Each (LocationAmong now.checked team slot)) (λ is. (is, checked_among now team slot ls)) (λ _. checked_among now team slot ls)

connected_among : (seed : Seed) (now : Standing) (m : Member) → ShowsAmong now.checked m.team m.slot (connected (connected_of seed now m))
connected_among seed now m =
    at_among now.checked m.team m.slot (filter (λ l. is_checked now m.team m.slot l) (locations_of seed m.slot)) (checked_among now m.team m.slot (locations_of seed m.slot))

joining_shows : (seed : Seed) (now : Standing) (fields : Connect) (made : Option Member) → ShowsOnly seed now None (joining seed now fields made)
joining_shows seed now fields None = quiet_shows seed now None (joining seed now fields None) (λ _ _. refl, tt) tt
joining_shows seed now fields (Some m) = record {
  answers = λ k is. subst (λ k. Each (ShowsAmong now.checked k.team k.slot) (joining seed now fields (Some m)).answers) (some_same m k is) (connected_among seed now m, tt);
  announced = (λ sends k heard. tt, tt);
}

-- a finding shows what it records
asked_record : (seed : Seed) (team slot : ℕ) (ls : List ℤ) → asked seed (checks_record team slot ls) ≡ checks_at team slot ls
asked_record seed team slot [] = refl
asked_record seed team slot (l ∷ ls) = append-nil (checks_at team slot (l ∷ ls))

checking_shows : (seed : Seed) (now : Standing) (m : Member) (numbers : List ℤ) → ShowsOnly seed now (Some m) (checking seed now m numbers)
checking_shows seed now m numbers =
    let new = new_checks seed now.checked m.team m.slot numbers in
    let records = checks_record m.team m.slot (map location_of new) in
    let cs = (steps seed now records).checked in
    let asked_is : asked seed records ≡ new = asked_record seed m.team m.slot (map location_of new) ∙ unseen_again now.checked m.team m.slot (known seed m.slot numbers) in
    record {
      answers = λ k is. tt;
      announced = sends_among seed cs new
          (each_weaker (Among new) (Among cs) (λ c h. asked_among seed now records c (subst (λ all. Among all c) (sym asked_is) h)) new (among_self new));
    }

scouting_shows : (seed : Seed) (now : Standing) (m : Member) (numbers : List ℤ) (as_hint : ℕ) → ShowsOnly seed now (Some m) (scouting seed now m numbers as_hint)
scouting_shows seed now m numbers as_hint =
    let new = hints_scouted seed now m numbers as_hint in
    let records = map hint new in
    record {
      answers = λ k is. (tt, tt);
      announced = hints_among seed now (steps seed now records).checked (still_among seed now records) (scouts_told seed now m numbers as_hint new);
    }

buying_shows : (seed : Seed) (now : Standing) (member : Option Member) (answer : Answer) → ShowsOnly seed now member (buying seed now answer)
buying_shows seed now member (bought h) =
    let records = hint h ∷ [] in
    record { answers = λ k is. tt; announced = hint_at_among seed now (steps seed now records).checked (still_among seed now records) h }
buying_shows seed now member no_such_name = quiet_shows seed now member (buying seed now no_such_name) tt (λ _ _. refl, tt)
buying_shows seed now member nothing_to_hint = quiet_shows seed now member (buying seed now nothing_to_hint) tt (λ _ _. refl, tt)
buying_shows seed now member (too_dear price left) = quiet_shows seed now member (buying seed now (too_dear price left)) tt (λ _ _. refl, tt)

telling_shows : (seed : Seed) (now : Standing) (member : Option Member) (text : List ℕ) → ShowsOnly seed now member (telling text)
telling_shows seed now member text = quiet_shows seed now member (telling text) tt (λ _ _. refl, tt)

giving_shows : (seed : Seed) (now : Standing) (member : Option Member) (records : List Record) → ShowsOnly seed now member (giving seed records)
giving_shows seed now member [] = telling_shows seed now member (codes "nothing left")
giving_shows seed now member (r ∷ rs) = quiet_shows seed now member (giving seed (r ∷ rs)) tt (records_quiet seed (r ∷ rs))

allowed_shows : (seed : Seed) (now : Standing) (member : Option Member) (permission s : ℕ) (effect : Effect) → ShowsOnly seed now member effect → ShowsOnly seed now member (where_allowed permission s effect)
allowed_shows seed now member permission s effect h =
    cond_both (is_allowed permission s) effect (telling (codes "not allowed")) (ShowsOnly seed now member) (λ _. h) (λ _. telling_shows seed now member (codes "not allowed"))

saying_shows : (seed : Seed) (now : Standing) (members : List Member) (m : Member) (what : said.Said) → ShowsOnly seed now (Some m) (saying seed now members m what)
saying_shows seed now members m (said.chat text) = quiet_shows seed now (Some m) (saying seed now members m (said.chat text)) tt (λ _ _. refl, tt)
saying_shows seed now members m said.help = telling_shows seed now (Some m) _
saying_shows seed now members m said.players = telling_shows seed now (Some m) _
saying_shows seed now members m said.missing = telling_shows seed now (Some m) _
saying_shows seed now members m said.checked = telling_shows seed now (Some m) _
saying_shows seed now members m said.remaining = allowed_shows seed now (Some m) seed.server.remaining (status_in now m.team m.slot) _ (telling_shows seed now (Some m) _)
saying_shows seed now members m said.release =
    allowed_shows seed now (Some m) seed.server.release (status_in now m.team m.slot) (giving seed (where_new seed now (release m.team m.slot))) (giving_shows seed now (Some m) (where_new seed now (release m.team m.slot)))
saying_shows seed now members m said.collect =
    allowed_shows seed now (Some m) seed.server.collect (status_in now m.team m.slot) (giving seed (where_new seed now (collect m.team m.slot))) (giving_shows seed now (Some m) (where_new seed now (collect m.team m.slot)))
saying_shows seed now members m (said.hint []) = telling_shows seed now (Some m) _
saying_shows seed now members m (said.hint (c ∷ cs)) =
    buying_shows seed now (Some m) (bought_for seed (is_checked now) (points seed now m.team m.slot) now.hints m.team m.slot (item_wanted (c ∷ cs)))
saying_shows seed now members m (said.hint_location name) =
    buying_shows seed now (Some m) (bought_for seed (is_checked now) (points seed now m.team m.slot) now.hints m.team m.slot (location_wanted name))
saying_shows seed now members m said.unknown_command = telling_shows seed now (Some m) (codes "unknown command")

storing_shows : (seed : Seed) (now : Standing) (m : Member) (set : SetPacket) (done : Result Changed Refused) → ShowsOnly seed now (Some m) (storing now m set done)
storing_shows seed now m set (Ok c) = quiet_shows seed now (Some m) (storing now m set (Ok c)) tt (λ _ _. refl, tt)
storing_shows seed now m set (Err r) = quiet_shows seed now (Some m) (storing now m set (Err r)) (λ _ _. refl, tt) tt

-- ---- every effect

stranger_shows : (seed : Seed) (now : Standing) (packet : Packet) → ShowsOnly seed now None (stranger_effect seed now packet)
stranger_shows seed now (connect fields) = joining_shows seed now fields (member_by seed fields)
stranger_shows seed now (get_data_package games) = quiet_shows seed now None (stranger_effect seed now (get_data_package games)) (λ _ _. refl, tt) tt
stranger_shows seed now (connect_update u) = quiet_shows seed now None nothing tt tt
stranger_shows seed now sync = quiet_shows seed now None nothing tt tt
stranger_shows seed now (location_checks numbers) = quiet_shows seed now None nothing tt tt
stranger_shows seed now (location_scouts numbers as_hint) = quiet_shows seed now None nothing tt tt
stranger_shows seed now (update_hint u) = quiet_shows seed now None nothing tt tt
stranger_shows seed now (status_update s) = quiet_shows seed now None nothing tt tt
stranger_shows seed now (say text) = quiet_shows seed now None nothing tt tt
stranger_shows seed now (bounce b) = quiet_shows seed now None nothing tt tt
stranger_shows seed now (get keys further) = quiet_shows seed now None nothing tt tt
stranger_shows seed now (change set) = quiet_shows seed now None nothing tt tt
stranger_shows seed now (set_notify keys) = quiet_shows seed now None nothing tt tt

member_shows : (seed : Seed) (now : Standing) (members : List Member) (m : Member) (packet : Packet) → ShowsOnly seed now (Some m) (member_effect seed now members m packet)
member_shows seed now members m (connect fields) = quiet_shows seed now (Some m) (member_effect seed now members m (connect fields)) (λ _ _. refl, tt) tt
member_shows seed now members m (connect_update u) = quiet_shows seed now (Some m) (member_effect seed now members m (connect_update u)) tt (tags_quiet seed m.tags (updated m u))
member_shows seed now members m sync = quiet_shows seed now (Some m) (member_effect seed now members m sync) tt tt
member_shows seed now members m (location_checks numbers) = checking_shows seed now m numbers
member_shows seed now members m (location_scouts numbers as_hint) = scouting_shows seed now m numbers as_hint
member_shows seed now members m (update_hint u) = quiet_shows seed now (Some m) (member_effect seed now members m (update_hint u)) tt tt
member_shows seed now members m (status_update s) = quiet_shows seed now (Some m) (member_effect seed now members m (status_update s)) tt (records_quiet seed (status_records seed now m s))
member_shows seed now members m (say text) = saying_shows seed now members m (said_of text)
member_shows seed now members m (get_data_package games) = quiet_shows seed now (Some m) (member_effect seed now members m (get_data_package games)) (λ _ _. refl, tt) tt
member_shows seed now members m (bounce b) = quiet_shows seed now (Some m) (member_effect seed now members m (bounce b)) tt (λ _ _. refl, tt)
member_shows seed now members m (get keys further) = record { answers = λ k is. (reading_among seed now keys further k.team k.slot, tt); announced = tt }
member_shows seed now members m (change set) = storing_shows seed now m set (set_case now.storage set)
member_shows seed now members m (set_notify keys) = quiet_shows seed now (Some m) (member_effect seed now members m (set_notify keys)) tt tt

packet_shows : (seed : Seed) (now : Standing) (members : List Member) (member : Option Member) (packet : Packet) → ShowsOnly seed now member (effect_of seed now members member packet)
packet_shows seed now members None packet = stranger_shows seed now packet
packet_shows seed now members (Some m) packet = member_shows seed now members m packet

parting_shows : (seed : Seed) (now : Standing) (member parted : Option Member) → ShowsOnly seed now member (parting seed parted)
parting_shows seed now member None = quiet_shows seed now member nothing tt tt
parting_shows seed now member (Some m) = quiet_shows seed now member (parting seed (Some m)) tt (λ _ _. refl, tt)

-- what the session that an event is of sent shows only what is checked
pub event_shows : (room : Room) (event : Event) → ShowsOnly room.seed (standing room.seed room.journal) (member_of room event) (effect_in room event)
event_shows room (opened time) = quiet_shows room.seed (standing room.seed room.journal) None nothing tt tt
event_shows room (sent number packet) = packet_shows room.seed (standing room.seed room.journal) (members_in room.sessions) (member_in room.sessions number) packet
event_shows room (failed number bad) = quiet_shows room.seed (standing room.seed room.journal) (member_in room.sessions number) (bad_effect bad) (λ _ _. refl, tt) tt
event_shows room (lost number) = parting_shows room.seed (standing room.seed room.journal) (member_in room.sessions number) (member_in room.sessions number)
