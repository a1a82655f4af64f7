-- Where locations stand over all slots, and that their events may stand there.
use Rattle.std.proofs.Common.{◌≡◌, ℕ, zero, suc, ◌+◌, ◌-◌, ◌<◌, ◌≤◌, Bool, true, false, cond, List, [], ◌∷◌, ◌++◌, length, get_or, take, Option, Some, None, refl, sym, ap, ap₂, ◌∙◌, subst, arith, append_assoc, append-nil}
use Rattle.std.specs.Prelude.{slice_get, is_some, option_map, option_and_then, All, nat_lt, ◌==◌, ◌&&◌}
use Rattle.std.proofs.lemmas.Bool.Decides.{Decides-eqb}
use Rattle.std.proofs.lemmas.List.Elements.{All-nil, All-cons}
use Rattle.mw_multi.specs.World.{World, Location, Item, place_count}
use Rattle.mw_multi.specs.WorldKept.{LocationKept, is_event, event_fits}
use Rattle.mw_multi.specs.Joint.{Slot, IsJoint, Joint, SlotKept, first_slot, AreNumbered, slot_places, slot_items}
use Rattle.mw_multi.specs.Steps.{location_place}
use Rattle.mw_multi.specs.Placement.{Site, site_of, site_in, site_from, site_at, slot_at, item_in, fits_event, fits_site, PutKept}
use Rattle.mw_multi.proofs.Standing.{numbered_slot}
use Rattle.mw_multi.proofs.Owners.{owners_of_slot}
use Rattle.mw_multi.specs.Events.{event_at, events_among, slot_events, events_from}

-- ---- elements by index

pub get_some : {A : Type 0} (xs : List A) (k : ℕ) (d : A) → k < length xs → slice_get xs k ≡ Some (get_or xs k d)
get_some [] k d h = absurd (omega arith)
get_some (x ∷ xs) zero d h = refl
get_some (x ∷ xs) (suc k) d h = get_some xs k d (omega arith)

within : {A : Type 0} (xs : List A) (k : ℕ) (x : A) → slice_get xs k ≡ Some x → k < length xs
within [] k x e = cc
within (y ∷ xs) zero x e = omega arith
within (y ∷ xs) (suc k) x e = omega (arith, within xs k x e)

at_index : {A : Type 0} (P : A → Type 0) (xs : List A) (k : ℕ) (x : A) → All P xs → slice_get xs k ≡ Some x → P x
at_index P [] k x h e = cc
at_index P (y ∷ xs) zero x h e = let same : y ≡ x = cc in subst P same (h 0 y (omega arith))
at_index P (y ∷ xs) (suc k) x h e = at_index P xs k x (λ i d l. h (suc i) d (omega arith)) e

-- ---- the site of a slot's location

here : (number place : ℕ) (w : World) (later : Option Site) (b : Bool) → nat_lt place (place_count w) ≡ b → place < place_count w → cond b (site_in number w place) later ≡ site_in number w place
here number place w later true e h = refl
here number place w later false e h = absurd (grind (arith, e, h))

later : (number place : ℕ) (w : World) (site : Option Site) (b : Bool) → nat_lt place (place_count w) ≡ b → place_count w ≤ place → cond b (site_in number w place) site ≡ site
later number place w site true e h = absurd (grind (arith, e, h))
later number place w site false e h = refl

-- a slot's numbers come after those of the slots before it
numbered_after : (place item : ℕ) (slots : List Slot) (k : ℕ) (s : Slot) → AreNumbered place item slots → slice_get slots k ≡ Some s → place ≤ s.first_place
numbered_after place item [] k s n e = cc
numbered_after place item (t ∷ slots) zero s n e =
    let same : t ≡ s = cc in
    omega (arith, ap (λ (u : Slot). u.first_place) same, n.0)
numbered_after place item (t ∷ slots) (suc k) s n e = omega (arith, numbered_after (place + slot_places t) (item + slot_items t) slots k s n.2 e)

site_of_slot : (number place item : ℕ) (slots : List Slot) (k : ℕ) (s : Slot) (q p : ℕ) → AreNumbered place item slots → slice_get slots k ≡ Some s → q < slot_places s
    → s.first_place + q ≡ place + p → site_from number slots p ≡ site_in (number + k) s.world q
site_of_slot number place item [] k s q p n e h at = cc
site_of_slot number place item (t ∷ slots) zero s q p n e h at =
    let same : t ≡ s = cc in
    let first : s.first_place ≡ place = ap (λ (u : Slot). u.first_place) (sym same) ∙ n.0 in
    let is : p ≡ q = omega (arith, first, at) in
    let number_is : number ≡ number + 0 = omega arith in
    let inside : p < place_count t.world = subst (λ (u : Slot). p < slot_places u) (sym same) (omega (arith, is, h)) in
    here number p t.world (site_from (number + 1) slots (p - slot_places t)) (nat_lt p (slot_places t)) refl inside
    ∙ ap (λ (u : Slot). site_in number u.world p) same ∙ ap₂ (λ m r. site_in m s.world r) number_is is
site_of_slot number place item (t ∷ slots) (suc k) s q p n e h at =
    let after = numbered_after (place + slot_places t) (item + slot_items t) slots k s n.2 e in
    let outside : slot_places t ≤ p = omega (arith, after, at) in
    let number_is : number + 1 + k ≡ number + suc k = omega arith in
    later number p t.world (site_from (number + 1) slots (p - slot_places t)) (nat_lt p (slot_places t)) refl outside
    ∙ site_of_slot (number + 1) (place + slot_places t) (item + slot_items t) slots k s q (p - slot_places t) n.2 e h (omega (arith, after, at, outside))
    ∙ ap (λ m. site_in m s.world q) number_is

past_regions : (number regions i : ℕ) (found : Option Site) (b : Bool) → nat_lt (regions + i) regions ≡ b → cond b None found ≡ found
past_regions number regions i found true e = absurd (grind (arith, e))
past_regions number regions i found false e = refl

site_of_location : (number : ℕ) (w : World) (i : ℕ) (l : Location) → slice_get w.locations i ≡ Some l → site_in number w (length w.regions + i) ≡ Some (site_of number l)
site_of_location number w i l e =
    let regions = length w.regions in
    let back : regions + i - regions ≡ i = omega arith in
    past_regions number regions i (option_map (site_of number) (slice_get w.locations (regions + i - regions))) (nat_lt (regions + i) regions) refl
    ∙ ap (λ k. option_map (site_of number) (slice_get w.locations k)) back ∙ ap (option_map (site_of number)) e

-- ---- events

-- what stands at the place of a slot's location
pub location_site : (j : Joint) (k : ℕ) (s : Slot) (i : ℕ) (l : Location) → IsJoint j → slice_get j.slots k ≡ Some s → slice_get s.world.locations i ≡ Some l
    → site_at j.slots (location_place s i) ≡ Some (site_of (suc k) l)
location_site j k s i l kept at there =
    let one_more : 1 + k ≡ suc k = omega arith in
    let inside : length s.world.regions + i < slot_places s = omega (arith, within s.world.locations i l there) in
    site_of_slot 1 0 0 j.slots k s (length s.world.regions + i) (location_place s i) kept.numbered at inside (omega arith)
    ∙ ap (λ m. site_in m s.world (length s.world.regions + i)) one_more ∙ site_of_location (suc k) s.world i l there

some_event : (o : Option Item) → is_event o ≡ true → is_some o ≡ true
some_event None e = cc
some_event (Some i) e = refl

event_there : (items : List Item) (id : Option _) (e : ℕ) → event_fits items id (Some e) ≡ true → is_some (slice_get items e) ≡ true
event_there items (Some id) e h = cc
event_there items None e h = some_event (slice_get items e) h

own : (number e : ℕ) → ((number == number) && (e == e)) ≡ true
own number e = ap₂ ◌&&◌ ((Decides-eqb number number).1 refl) ((Decides-eqb e e).1 refl)

-- an event at its own location is a put of the joint
pub event_kept : (j : Joint) (number : ℕ) (s : Slot) (i : ℕ) (l : Location) (e p : ℕ) → IsJoint j → slot_at j.slots number ≡ Some s → slice_get s.world.locations i ≡ Some l
    → l.event ≡ Some e → p ≡ location_place s i → PutKept j record { place = p; receiver = number; item = e }
event_kept j zero s i l e p kept at there event is = cc
event_kept j (suc k) s i l e p kept at there event is =
    let slot : SlotKept s = at_index SlotKept j.slots k s kept.each at in
    let location : LocationKept s.world l = at_index (LocationKept s.world) s.world.locations i l slot.world.locations.each there in
    let site : site_at j.slots p ≡ Some (site_of (suc k) l) = ap (site_at j.slots) is ∙ location_site j k s i l kept at there in
    let item_there : is_some (slice_get s.world.items e) ≡ true = event_there s.world.items l.id e (subst (λ (o : Option ℕ). event_fits s.world.items l.id o ≡ true) event location.event) in
    record {
      place = ap is_some site;
      item = ap (λ os. is_some (option_and_then (item_in e) (first_slot j.slots os))) (owners_of_slot j (suc k) s at) ∙ ap (λ (o : Option Slot). is_some (option_and_then (item_in e) o)) at ∙ item_there;
      event = ap (fits_site record { place = p; receiver = suc k; item = e }) site
          ∙ ap (λ (o : Option ℕ). fits_event record { place = p; receiver = suc k; item = e } (site_of (suc k) l) o) event ∙ own (suc k) e;
    }

-- ---- one more

events_after : (number place : ℕ) (ls : List Location) (i : ℕ) (l : Location) → slice_get ls i ≡ Some l
    → events_among number place (take (suc i) ls) ≡ events_among number place (take i ls) ++ event_at number (place + i) l.event
events_after number place [] i l e = cc
events_after number place (m ∷ ls) zero l e =
    let same : m ≡ l = cc in
    let at : place ≡ place + 0 = omega arith in
    append-nil (event_at number place m.event) ∙ ap₂ (λ (u : Location) q. event_at number q u.event) same at
events_after number place (m ∷ ls) (suc i) l e =
    let at : suc place + i ≡ place + suc i = omega arith in
    ap (λ rest. event_at number place m.event ++ rest) (events_after number (suc place) ls i l e)
    ∙ sym (append_assoc (event_at number place m.event) (events_among number (suc place) (take i ls)) (event_at number (suc place + i) l.event))
    ∙ ap (λ q. (event_at number place m.event ++ events_among number (suc place) (take i ls)) ++ event_at number q l.event) at

pub events_next : (number place : ℕ) (ls : List Location) (i : ℕ) (l : Location) → slice_get ls i ≡ Some l
    → events_among number place (take (i + 1) ls) ≡ events_among number place (take i ls) ++ event_at number (place + i) l.event
events_next number place ls i l e =
    let one_more : i + 1 ≡ suc i = omega arith in
    ap (λ k. events_among number place (take k ls)) one_more ∙ events_after number place ls i l e

slots_after : (number : ℕ) (slots : List Slot) (k : ℕ) (s : Slot) → slice_get slots k ≡ Some s
    → events_from number (take (suc k) slots) ≡ events_from number (take k slots) ++ slot_events (number + k) s
slots_after number [] k s e = cc
slots_after number (t ∷ slots) zero s e =
    let same : t ≡ s = cc in
    let at : number ≡ number + 0 = omega arith in
    append-nil (slot_events number t) ∙ ap₂ (λ (u : Slot) m. slot_events m u) same at
slots_after number (t ∷ slots) (suc k) s e =
    let at : suc number + k ≡ number + suc k = omega arith in
    ap (λ rest. slot_events number t ++ rest) (slots_after (suc number) slots k s e)
    ∙ sym (append_assoc (slot_events number t) (events_from (suc number) (take k slots)) (slot_events (suc number + k) s))
    ∙ ap (λ m. (slot_events number t ++ events_from (suc number) (take k slots)) ++ slot_events m s) at

pub slots_next : (slots : List Slot) (k : ℕ) (s : Slot) → slice_get slots k ≡ Some s
    → events_from 1 (take (k + 1) slots) ≡ events_from 1 (take k slots) ++ slot_events (k + 1) s
slots_next slots k s e =
    let one_more : k + 1 ≡ suc k = omega arith in
    let number : 1 + k ≡ k + 1 = omega arith in
    ap (λ n. events_from 1 (take n slots)) one_more ∙ slots_after 1 slots k s e ∙ ap (λ m. events_from 1 (take k slots) ++ slot_events m s) number

-- what an event location of a slot puts is kept
pub events_kept : (j : Joint) (number : ℕ) (s : Slot) (i : ℕ) (l : Location) (o : Option ℕ) (p : ℕ) → IsJoint j → slot_at j.slots number ≡ Some s → slice_get s.world.locations i ≡ Some l
    → l.event ≡ o → p ≡ location_place s i → All (PutKept j) (event_at number p o)
events_kept j number s i l None p kept at there event is = λ k d h. absurd (omega arith)
events_kept j number s i l (Some e) p kept at there event is =
    All-cons (PutKept j) record { place = p; receiver = number; item = e } [] (event_kept j number s i l e p kept at there event is) (All-nil (PutKept j))

-- ---- a slot of a joint, seen by its index

pub record KnownSlot (j : Joint) (before : ℕ) (s : Slot) : Type 0 where
  pub kept : IsJoint j
  pub found : slice_get j.slots before ≡ Some s
  pub few : s.first_place + slot_places s ≤ 200000

pub known_slot : (j : Joint) (before : ℕ) (s : Slot) (listed : List Slot) → IsJoint j → listed ≡ j.slots → before < length j.slots → s ≡ get_or listed before s → KnownSlot j before s
known_slot j before s listed kept same h is =
    let found : slice_get j.slots before ≡ Some s = get_some j.slots before s h ∙ ap Some (sym (is ∙ ap (λ xs. get_or xs before s) same)) in
    record {
      kept = kept;
      found = found;
      few = omega (arith, (numbered_slot j.slots (suc before) s kept.numbered found).places_fit, kept.places);
    }

pub known_element : (ls items : List Location) (i : ℕ) (l : Location) → items ≡ ls → i < length items → l ≡ get_or items i l → slice_get ls i ≡ Some l
known_element ls items i l same h is = ap (λ xs. slice_get xs i) (sym same) ∙ get_some items i l h ∙ ap Some (sym is)

pub same_slot : (slots : List Slot) (k : ℕ) (s t : Slot) → slice_get slots k ≡ Some s → slice_get slots k ≡ Some t → s ≡ t
same_slot slots k s t e f = cc

pub some_slot : (slots : List Slot) (k : ℕ) → k < length slots → (s : Slot) × (slice_get slots k ≡ Some s)
some_slot [] k h = absurd (omega arith)
some_slot (s ∷ slots) zero h = (s, refl)
some_slot (s ∷ slots) (suc k) h = some_slot slots k (omega arith)
