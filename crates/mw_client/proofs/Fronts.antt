-- A client's list stays a front of what its slot received, over sessions and lives.
use Rattle.std.proofs.Common.{◌≡◌, inr, ◌+◌, ℕ, Bool, true, false, List, [], ◌∷◌, ◌++◌, Option, Some, None, length, take, drop, refl, sym, ap, subst, ◌∙◌, arith, append_assoc, true≢false, cond, ◌||◌, ◌==◌}
use Rattle.std.specs.Prelude.{IsFalse, IsTrue}
use Rattle.std.specs.List.{list_all, list_any}
use Rattle.mw_model.specs.Items.{NetItem}
use Rattle.mw_model.specs.Seed.{Seed}
use Rattle.mw_protocol.specs.Asked.{view}
use Rattle.mw_protocol.specs.Connecting.{Member}
use Rattle.mw_protocol.specs.Lives.{Step, life_after_all}
use Rattle.mw_protocol.specs.Messages.{ServerPacket, room_info, connected, received_items, room_update, connection_refused, location_info, data_package, invalid_packet, print, retrieved, set_reply, bounced}
use Rattle.mw_protocol.specs.Rooms.{Message, Session, member_in, session_in}
use Rattle.mw_laws.specs.Applied.{Client, ClientsApply, IsFrontOf, IsHeard, MaskSince, applied_messages, applied_packets, has_items, having, owed_before, owed_of, owed_since}
use Rattle.mw_laws.specs.Kept.{is_call, journal_after}
use Rattle.mw_laws.specs.Views.{is_received_items}
use Rattle.mw_client.specs.Lives.{AreHearings, Hearing, IsHearing, ListsStayFronts, client_of, messages_of, run_after, run_before, run_of}
use Rattle.mw_client.proofs.Finding.{none_some}

-- ---- messages without items

quiet_packets : (c : Client) (ps : List ServerPacket) → list_any is_received_items ps ≡ false → applied_packets c ps ≡ c
quiet_packets c [] none = refl
quiet_packets c (received_items index items ∷ ps) none = absurd (true≢false none)
quiet_packets c (room_info info ∷ ps) none = quiet_packets c ps none
quiet_packets c (connected fields ∷ ps) none = quiet_packets c ps none
quiet_packets c (room_update locations points ∷ ps) none = quiet_packets c ps none
quiet_packets c (connection_refused errors ∷ ps) none = quiet_packets c ps none
quiet_packets c (location_info items ∷ ps) none = quiet_packets c ps none
quiet_packets c (data_package content ∷ ps) none = quiet_packets c ps none
quiet_packets c (invalid_packet bad ∷ ps) none = quiet_packets c ps none
quiet_packets c (print p ∷ ps) none = quiet_packets c ps none
quiet_packets c (retrieved r ∷ ps) none = quiet_packets c ps none
quiet_packets c (set_reply r ∷ ps) none = quiet_packets c ps none
quiet_packets c (bounced b ∷ ps) none = quiet_packets c ps none

neither : (a b : Bool) → (a || b) ≡ false → (a ≡ false) × (b ≡ false)
neither true b h = absurd (true≢false h)
neither false b h = (refl, h)

quiet_messages : (c : Client) (ms : List Message) → has_items ms ≡ false → applied_messages c ms ≡ c
quiet_messages c [] none = refl
quiet_messages c (m ∷ ms) none =
    let both = neither (list_any is_received_items m.packets) (has_items ms) none in
    ap (λ (d : Client). applied_messages d ms) (quiet_packets c m.packets both.0) ∙ quiet_messages c ms both.1

-- ---- one session

by_number : (b : Bool) (s : Session) (other : Option Session) (member : Option Member) → cond b (Some s) other ≡ None → (other ≡ None → member ≡ None) → cond b s.member member ≡ None
by_number true s other member none then = absurd cc
by_number false s other member none then = then none

-- no session of a number is no member of it
no_member : (ss : List Session) (number : ℕ) → session_in ss number ≡ None → member_in ss number ≡ None
no_member [] number none = refl
no_member (s ∷ ss) number none = by_number (s.number == number) s (session_in ss number) (member_in ss number) none (no_member ss number)

-- the session of a number isn't open at a point, and then calls come, after each of which it has mask 7 if it plays a slot
pub record Since (seed : Seed) (start back : List Step) (number : ℕ) : Type 0 where
  pub unopened : session_in (life_after_all seed start).room.sessions number ≡ None
  pub calls : IsTrue (list_all is_call back)
  pub masks : (first : List Step) (s : Step) (rest : List Step) (m : Member) → back ≡ first ++ s ∷ rest → member_in (life_after_all seed (start ++ first ++ s ∷ [])).room.sessions number ≡ Some m → m.mask ≡ 7

-- it was found then, and plays this slot with mask 7
pub record IsOf (seed : Seed) (steps : List Step) (team slot number : ℕ) (s : Session) : Type 0 where
  pub found : session_in (life_after_all seed steps).room.sessions number ≡ Some s
  pub member : Member
  pub plays : s.member ≡ Some member
  pub own_team : member.team ≡ team
  pub own_slot : member.slot ≡ slot
  pub mask : member.mask ≡ 7

module _ (laws : ClientsApply) (seed : Seed) (team slot : ℕ) where
  abbrev ViewAt : List Step → Client → Type 0
  ViewAt steps c = IsFrontOf (view seed 7 team slot (journal_after seed steps)) c

  -- a client never asked, and its list is a front of the view by the journal of each later point
  abbrev pub Stays : List Step → Client → Type 0
  Stays steps c = (more : List Step) → ViewAt (steps ++ more) c

  pub stay_on : (steps then : List Step) (c : Client) → Stays steps c → Stays (steps ++ then) c
  stay_on steps then c stays = λ more. subst (λ run. ViewAt run c) (sym (append_assoc steps then more)) (stays (then ++ more))

  pub never : (c : Client) → IsFalse c.asks → c ≡ having c.list
  never c none = ap (λ (b : Bool). record { list = c.list; asks = b }) none

  -- who hears so many of the messages that it was owed since it was opened
  module _ (start back : List Step) (number : ℕ) (since : Since seed start back number) (s : Session) (is : IsOf seed (start ++ back) team slot number s) (count : ℕ) (more : List Step) (heard : IsHeard s count more) where
    -- the first ReceivedItems replaces any list
    told : (list : List NetItem) → has_items (take count s.owed) ≡ true → ViewAt (start ++ back ++ more) (applied_messages (having list) (take count s.owed))
    told list has =
        let before : owed_before seed start number ≡ 0 = ap (λ (o : Option Session). length (owed_of o)) since.unopened in
        let ms : take count (owed_since seed start number s) ≡ take count s.owed = ap (λ (n : ℕ). take count (drop n s.owed)) before in
        let masked : MaskSince seed start back number is.member.mask = record {
          calls = since.calls;
          other = λ m found same. absurd (none_some m (sym (no_member (life_after_all seed start).room.sessions number since.unopened) ∙ found));
          since = λ first t rest m split found. since.masks first t rest m split found ∙ sym is.mask;
        } in
        let all : owed_before seed start number + count ≡ count = omega (arith, before) in
        let later : IsHeard s (owed_before seed start number + count) more = subst (λ (n : ℕ). IsHeard s n more) (sym all) heard in
        let fronts = laws.changed seed start back number s is.member is.found is.plays masked list count more later (ap has_items ms ∙ has) in
        let journal = journal_after seed (start ++ back ++ more) in
        subst (λ (l : List Message). ViewAt (start ++ back ++ more) (applied_messages (having list) l)) ms
        (subst (λ (n : ℕ). IsFrontOf (view seed 7 team n journal) (applied_messages (having list) (take count (owed_since seed start number s)))) is.own_slot
        (subst (λ (n : ℕ). IsFrontOf (view seed 7 n is.member.slot journal) (applied_messages (having list) (take count (owed_since seed start number s)))) is.own_team
        (subst (λ (n : ℕ). IsFrontOf (view seed n is.member.team is.member.slot journal) (applied_messages (having list) (take count (owed_since seed start number s)))) is.mask fronts)))

    by_items : (list : List NetItem) → Stays start (having list) → (b : Bool) → has_items (take count s.owed) ≡ b → ViewAt (start ++ back ++ more) (applied_messages (having list) (take count s.owed))
    by_items list stays true has = told list has
    by_items list stays false none =
        subst (ViewAt (start ++ back ++ more)) (sym (quiet_messages (having list) (take count s.owed) none)) (stay_on start back (having list) stays more)

    -- has a front of the view, as it had before
    pub front_heard : (list : List NetItem) → Stays start (having list) → ViewAt (start ++ back ++ more) (applied_messages (having list) (take count s.owed))
    front_heard list stays = by_items list stays (has_items (take count s.owed)) refl

  -- ---- over sessions

  pub since_opened : (steps : List Step) (h : Hearing) → IsHearing seed team slot steps h → Since seed (run_before steps h) h.life h.number
  since_opened steps h is = record { unopened = is.unopened; calls = is.calls; masks = is.since }

  pub heard_of : (steps : List Step) (h : Hearing) (is : IsHearing seed team slot steps h) → messages_of seed steps h ≡ take h.count is.session.owed
  heard_of steps h is = ap (λ (o : Option Session). take h.count (owed_of o)) is.found

  pub hears : (steps : List Step) (h : Hearing) (c : Client) → Stays steps c → IsHearing seed team slot steps h → Stays (run_after steps h) (applied_messages c (messages_of seed steps h))
  hears steps h c stays is =
      let same : c ≡ having c.list = never c (stays []).asks in
      let own : IsOf seed (run_after steps h) team slot h.number is.session = record { found = is.found; member = is.member; plays = is.plays; own_team = is.own_team; own_slot = is.own_slot; mask = is.mask } in
      let before : Stays (run_before steps h) (having c.list) = stay_on steps h.waits (having c.list) (subst (Stays steps) same stays) in
      subst (λ (d : Client). Stays (run_after steps h) (applied_messages d (messages_of seed steps h))) (sym same)
      (subst (λ (ms : List Message). Stays (run_after steps h) (applied_messages (having c.list) ms)) (sym (heard_of steps h is))
      (λ more. front_heard (run_before steps h) h.life h.number (since_opened steps h is) is.session own h.count more (inr is.taken) c.list before))

  hear_all : (steps : List Step) (c : Client) (hs : List Hearing) → Stays steps c → AreHearings seed team slot steps hs → Stays (run_of steps hs) (client_of seed steps c hs)
  hear_all steps c [] stays are = stays
  hear_all steps c (h ∷ hs) stays are = hear_all (run_after steps h) (applied_messages c (messages_of seed steps h)) hs (hears steps h c stays are.0) are.1

  -- who has no list has a front
  pub first_stays : Stays [] (having [])
  first_stays more = record { asks = refl; front = (view seed 7 team slot (journal_after seed more), refl) }

pub lists_stay_fronts : ClientsApply → ListsStayFronts
lists_stay_fronts laws seed team slot hearings are = hear_all laws seed team slot [] (having []) hearings (first_stays laws seed team slot) are
