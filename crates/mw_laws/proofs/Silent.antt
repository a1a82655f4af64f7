-- What a session hears that wants no text.
use Rattle.std.proofs.Common.{◌≡◌, ℕ, ◌==◌, ◌&&◌, ◌||◌, List, ℤ, Bool, true, false, not, cond, ◌∷◌, [], ◌++◌, Option, Some, None, length, drop, filter, refl, sym, ap, ap₂, ◌∙◌, true≢false, IsTrue}
use Rattle.std.proofs.lemmas.Bool.{and_parts, cond-true, cond-false, false≢true, not-true}
use Rattle.std.proofs.lemmas.List.Elements.{filter-append}
use Rattle.std.specs.List.{list_all}
use Rattle.mw_model.specs.Items.{NetItem}
use Rattle.mw_model.specs.Seed.{Seed, is_owner}
use Rattle.mw_protocol.specs.Connecting.{Member}
use Rattle.mw_protocol.specs.Effect.{Effect}
use Rattle.mw_protocol.specs.Effects.{effect_of}
use Rattle.mw_protocol.specs.Heard.{Audience, team_hears, slots_hear, sender_hears, watchers_hear, named_hear, Announced, hears, heard, wants_no_text}
use Rattle.mw_protocol.specs.Messages.{ServerPacket, room_info, connected, received_items, room_update, connection_refused, location_info, data_package, invalid_packet, print, retrieved, set_reply, bounced}
use Rattle.mw_protocol.specs.Owed.{items_from, items_owed, owed, update_owed, update_with, answers_to, growth_owed, view_of}
use Rattle.mw_protocol.specs.Packets.{Bounce, bounce}
use Rattle.mw_protocol.specs.Rooms.{Room, Event, opened, sent, failed, lost, member_in, members_in, effect_in, next}
use Rattle.mw_protocol.specs.Standing.{Standing, checked_of, points}
use Rattle.mw_laws.specs.Silence.{is_print, with_tags, is_of_print, without_prints, NamesBoth, AllNameBoth, HearsLess, owed_as, BouncesToBoth, ReachesBoth, HearsNoText, NoTextIsTold}
use Rattle.mw_laws.specs.Turns.{now}
use Rattle.mw_laws.proofs.Effects.{is_answer, is_notice, fits, is_fitting, AreFitting, is_bounced, event_answers, event_fit}
use Rattle.mw_laws.proofs.Lists.{passed-append, passed-weaker, passed-filter, filter-none, filter-all}

-- ---- any effect

-- what a member is owed beside what is announced
abbrev base : Seed → Standing → Standing → Effect → Bool → Member → List ServerPacket
base seed before later effect sends m = answers_to sends effect ++ growth_owed (effect.whole && sends) seed before later (Some m)

abbrev is_other : Announced → Bool
is_other a = not (is_of_print a.audience)

-- of an audience of prints nobody is who wants no text
unheard : (seed : Seed) (a : Audience) (sends : Bool) (m : Member) → IsTrue (wants_no_text m) → is_of_print a ≡ true → hears seed a sends m ≡ false
unheard seed (team_hears team) sends m silence is = ap (λ w. not w && (m.team == team)) silence
unheard seed (slots_hear team a b) sends m silence is = ap (λ w. not w && (m.team == team) && ((m.slot == a) || is_owner seed b m.slot)) silence
unheard seed sender_hears sends m silence is = ap (λ w. not w && sends) silence
unheard seed (watchers_hear key replies) sends m silence is = absurd (false≢true is)
unheard seed (named_hear team n) sends m silence is = absurd (false≢true is)

-- to others it is named alike
other_hears : (seed : Seed) (a : Audience) (sends : Bool) (m : Member) (tags : List (List ℕ)) → is_of_print a ≡ false → NamesBoth seed a m (with_tags tags m) → hears seed a sends m ≡ hears seed a sends (with_tags tags m)
other_hears seed (team_hears team) sends m tags is both = absurd (true≢false is)
other_hears seed (slots_hear team a b) sends m tags is both = absurd (true≢false is)
other_hears seed sender_hears sends m tags is both = absurd (true≢false is)
other_hears seed (watchers_hear key replies) sends m tags is both = refl
other_hears seed (named_hear team n) sends m tags is both = ap (λ b. (m.team == team) && b) both

hears_alike : (seed : Seed) (a : Audience) (sends : Bool) (m : Member) (tags : List (List ℕ)) → wants_no_text m ≡ wants_no_text (with_tags tags m) → NamesBoth seed a m (with_tags tags m)
    → hears seed a sends m ≡ hears seed a sends (with_tags tags m)
hears_alike seed (team_hears team) sends m tags same both = ap (λ w. not w && (m.team == team)) same
hears_alike seed (slots_hear team a b) sends m tags same both = ap (λ w. not w && (m.team == team) && ((m.slot == a) || is_owner seed b m.slot)) same
hears_alike seed sender_hears sends m tags same both = ap (λ w. not w && sends) same
hears_alike seed (watchers_hear key replies) sends m tags same both = refl
hears_alike seed (named_hear team n) sends m tags same both = ap (λ b. (m.team == team) && b) both

heard_alike : (seed : Seed) (announced : List Announced) (sends : Bool) (m : Member) (tags : List (List ℕ)) → wants_no_text m ≡ wants_no_text (with_tags tags m) → AllNameBoth seed announced m (with_tags tags m)
    → heard seed announced sends m ≡ heard seed announced sends (with_tags tags m)
heard_alike seed [] sends m tags same both = refl
heard_alike seed (a ∷ others) sends m tags same both =
    ap₂ (λ (b : Bool) ps. cond b (a.packet ∷ ps) ps) (hears_alike seed a.audience sends m tags same both.0) (heard_alike seed others sends m tags same both.1)

heard_less : (seed : Seed) (announced : List Announced) (sends : Bool) (m : Member) (tags : List (List ℕ)) → IsTrue (wants_no_text m) → AllNameBoth seed announced m (with_tags tags m)
    → heard seed announced sends m ≡ heard seed (filter is_other announced) sends (with_tags tags m)
heard_less seed [] sends m tags silence both = refl
heard_less seed (a ∷ others) sends m tags silence both =
    let rest = heard seed others sends m in
    let less = heard_less seed others sends m tags silence both.1 in
    elim (is_of_print a.audience) as (λ b. is_of_print a.audience ≡ b → cond (hears seed a.audience sends m) (a.packet ∷ rest) rest ≡ heard seed (cond (not b) (a ∷ filter is_other others) (filter is_other others)) sends (with_tags tags m)) [
      | true ↦ λ is. cond-false (hears seed a.audience sends m) (a.packet ∷ rest) rest (unheard seed a.audience sends m silence is) ∙ less
      | false ↦ λ is. ap₂ (λ (b : Bool) ps. cond b (a.packet ∷ ps) ps) (other_hears seed a.audience sends m tags is both.0) less
    ] refl

hears_less : (seed : Seed) (before later : Standing) (effect : Effect) (sends : Bool) (m : Member) (tags : List (List ℕ)) → AllNameBoth seed effect.announced m (with_tags tags m) → HearsLess seed before later effect sends m tags
hears_less seed before later effect sends m tags both = record {
  less = λ silence. ap (λ ps. base seed before later effect sends m ++ ps) (heard_less seed effect.announced sends m tags silence both);
  alike = λ same. ap (λ ps. base seed before later effect sends m ++ ps) (heard_alike seed effect.announced sends m tags same both);
}

-- ---- what is no print

abbrev no_print : ServerPacket → Bool
no_print p = not (is_print p)

answer_no_print : (p : ServerPacket) → is_answer p ≡ true → no_print p ≡ true
answer_no_print (print p) e = absurd (false≢true e)
answer_no_print (room_info info) e = refl
answer_no_print (connected c) e = refl
answer_no_print (received_items index items) e = refl
answer_no_print (room_update locations points) e = refl
answer_no_print (connection_refused errors) e = refl
answer_no_print (location_info items) e = refl
answer_no_print (data_package content) e = refl
answer_no_print (invalid_packet bad) e = refl
answer_no_print (retrieved r) e = refl
answer_no_print (set_reply r) e = refl
answer_no_print (bounced b) e = refl

answers_quiet : (sends : Bool) (effect : Effect) → list_all is_answer effect.answers ≡ true → list_all no_print (answers_to sends effect) ≡ true
answers_quiet true effect h = passed-weaker no_print is_answer answer_no_print effect.answers h
answers_quiet false effect h = refl

update_quiet : (before points : ℕ) (locations : List ℤ) → list_all no_print (update_with before points locations) ≡ true
update_quiet before points [] = elim (before == points) as (λ b. list_all no_print (cond b [] (room_update [] points ∷ [])) ≡ true) [ true ↦ refl | false ↦ refl ]
update_quiet before points (l ∷ ls) = refl

from_quiet : (index : ℕ) (items : List NetItem) → list_all no_print (items_from index items) ≡ true
from_quiet index [] = refl
from_quiet index (i ∷ is) = refl

items_quiet : (whole : Bool) (seed : Seed) (before later : Standing) (m : Member) → list_all no_print (items_owed whole seed before later m) ≡ true
items_quiet true seed before later m = from_quiet 0 (view_of seed later m)
items_quiet false seed before later m = from_quiet (length (view_of seed before m)) (drop (length (view_of seed before m)) (view_of seed later m))

base_quiet : (seed : Seed) (before later : Standing) (effect : Effect) (sends : Bool) (m : Member) → list_all is_answer effect.answers ≡ true → list_all no_print (base seed before later effect sends m) ≡ true
base_quiet seed before later effect sends m h =
    passed-append no_print (answers_to sends effect) (growth_owed (effect.whole && sends) seed before later (Some m)) (answers_quiet sends effect h)
    (passed-append no_print (update_owed seed before later m) (items_owed (effect.whole && sends) seed before later m)
    (update_quiet (points seed before m.team m.slot) (points seed later m.team m.slot) (drop (length (checked_of before m.team m.slot)) (checked_of later m.team m.slot)))
    (items_quiet (effect.whole && sends) seed before later m))

notice_no_print : (p : ServerPacket) → is_notice p ≡ true → no_print p ≡ true
notice_no_print (set_reply r) e = refl
notice_no_print (bounced b) e = refl
notice_no_print (print p) e = absurd (false≢true e)
notice_no_print (room_info info) e = absurd (false≢true e)
notice_no_print (connected c) e = absurd (false≢true e)
notice_no_print (received_items index items) e = absurd (false≢true e)
notice_no_print (room_update locations points) e = absurd (false≢true e)
notice_no_print (connection_refused errors) e = absurd (false≢true e)
notice_no_print (location_info items) e = absurd (false≢true e)
notice_no_print (data_package content) e = absurd (false≢true e)
notice_no_print (invalid_packet bad) e = absurd (false≢true e)
notice_no_print (retrieved r) e = absurd (false≢true e)

quiet_no_print : (p : ServerPacket) → no_print p ≡ true → is_print p ≡ false
quiet_no_print p h = not-true (is_print p) h

-- what fits is a print just where its audience is of prints
fitting_other : (named : Bool) (a : Audience) (p : ServerPacket) → fits named a p ≡ true → no_print p ≡ not (is_of_print a)
fitting_other named (team_hears team) p h = ap not h
fitting_other named (slots_hear team a b) p h = ap not h
fitting_other named sender_hears p h = ap not h
fitting_other named (watchers_hear key replies) p h = notice_no_print p h
fitting_other named (named_hear team n) p h = notice_no_print p (and_parts named (is_notice p) h).1

heard_others : (named : Bool) (seed : Seed) (announced : List Announced) (sends : Bool) (m : Member) → AreFitting named announced
    → filter no_print (heard seed announced sends m) ≡ heard seed (filter is_other announced) sends m
heard_others named seed [] sends m h = refl
heard_others named seed (a ∷ others) sends m h =
    let parts = and_parts (is_fitting named a) (list_all (is_fitting named) others) h in
    let other = fitting_other named a.audience a.packet parts.0 in
    let rest = heard seed others sends m in
    let less = filter is_other others in
    let same : filter no_print rest ≡ heard seed less sends m = heard_others named seed others sends m parts.1 in
    let h = hears seed a.audience sends m in
    elim (is_other a) as (λ o. is_other a ≡ o → filter no_print (cond h (a.packet ∷ rest) rest) ≡ heard seed (cond o (a ∷ less) less) sends m) [
      | true ↦ λ is.
          elim h as (λ c. filter no_print (cond c (a.packet ∷ rest) rest) ≡ cond c (a.packet ∷ heard seed less sends m) (heard seed less sends m)) [
            | true ↦ cond-true (no_print a.packet) (a.packet ∷ filter no_print rest) (filter no_print rest) (other ∙ is) ∙ ap (λ ps. a.packet ∷ ps) same
            | false ↦ same
          ]
      | false ↦ λ is.
          elim h as (λ c. filter no_print (cond c (a.packet ∷ rest) rest) ≡ heard seed less sends m) [
            | true ↦ cond-false (no_print a.packet) (a.packet ∷ filter no_print rest) (filter no_print rest) (other ∙ is) ∙ same
            | false ↦ same
          ]
    ] refl

-- all but the prints are owed for what isn't for audiences of prints
others_owed : (named : Bool) (seed : Seed) (before later : Standing) (effect : Effect) (sends : Bool) (m : Member) → list_all is_answer effect.answers ≡ true → AreFitting named effect.announced
    → filter no_print (owed seed before later effect sends (Some m)) ≡ owed seed before later (without_prints effect) sends (Some m)
others_owed named seed before later effect sends m answers fit =
    let rest = base seed before later effect sends m in
    filter-append no_print rest (heard seed effect.announced sends m)
    ∙ ap₂ (λ ps qs. ps ++ qs) (filter-all no_print rest (base_quiet seed before later effect sends m answers)) (heard_others named seed effect.announced sends m fit)

-- ---- any event

names_self : (seed : Seed) (announced : List Announced) (m : Member) → AllNameBoth seed announced m m
names_self seed [] m = tt
names_self seed (a ∷ others) m = (by a.audience, names_self seed others m)
  where
    by : (x : Audience) → NamesBoth seed x m m
    by (team_hears team) = tt
    by (slots_hear team b c) = tt
    by sender_hears = tt
    by (watchers_hear key replies) = tt
    by (named_hear team n) = refl

-- where nobody is named
fitting_names : (seed : Seed) (announced : List Announced) (m k : Member) → AreFitting false announced → AllNameBoth seed announced m k
fitting_names seed [] m k h = tt
fitting_names seed (a ∷ others) m k h =
    let parts = and_parts (is_fitting false a) (list_all (is_fitting false) others) h in
    (by a.audience parts.0, fitting_names seed others m k parts.1)
  where
    by : (x : Audience) → fits false x a.packet ≡ true → NamesBoth seed x m k
    by (team_hears team) e = tt
    by (slots_hear team b c) e = tt
    by sender_hears e = tt
    by (watchers_hear key replies) e = tt
    by (named_hear team n) e = absurd (false≢true e)

bounce_names : (room : Room) (member : Option Member) (b : Bounce) (m k : Member) → BouncesToBoth room.seed (bounce b) m k
    → AllNameBoth room.seed (effect_of room.seed (now room) (members_in room.sessions) member (bounce b)).announced m k
bounce_names room None b m k both = tt
bounce_names room (Some sender) b m k both = (both, tt)

-- but by a Bounce
event_names : (room : Room) (event : Event) (m k : Member) → ReachesBoth room.seed event m k → AllNameBoth room.seed (effect_in room event).announced m k
event_names room (sent number (bounce b)) m k both = bounce_names room (member_in room.sessions number) b m k both
event_names room (sent number packet) m k both = fitting_names room.seed (effect_in room (sent number packet)).announced m k (event_fit room (sent number packet))
event_names room (opened time) m k both = tt
event_names room (failed number bad) m k both = tt
event_names room (lost number) m k both = fitting_names room.seed (effect_in room (lost number)).announced m k (event_fit room (lost number))

hears_no_text : (room : Room) (event : Event) (sends : Bool) (m : Member) → IsTrue (wants_no_text m) → HearsNoText room event sends m
hears_no_text room event sends m silence =
    let effect = effect_in room event in
    let later = now (next room event) in
    let less = λ (tags : List (List ℕ)) (both : AllNameBoth room.seed effect.announced m (with_tags tags m)). (hears_less room.seed (now room) later effect sends m tags both).less silence in
    let others = λ (k : Member). others_owed (is_bounced event) room.seed (now room) later effect sends k (event_answers room event) (event_fit room event) in
    let alone : owed_as room event sends m ≡ filter no_print (owed_as room event sends m) = less m.tags (names_self room.seed effect.announced m) ∙ sym (others m) in
    record {
      no_print = ap (filter is_print) alone ∙ filter-none is_print no_print quiet_no_print (filter no_print (owed_as room event sends m)) (passed-filter no_print (owed_as room event sends m));
      all_else = λ tags both. less tags (event_names room event m (with_tags tags m) both) ∙ sym (others (with_tags tags m));
    }

pub no_text : NoTextIsTold
no_text = record { effects = hears_less; events = hears_no_text }
