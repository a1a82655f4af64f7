-- What the entries of a seed file put is a placement of the joint.
use Rattle.std.proofs.Common.{◌≡◌, ◌≤◌, ◌<◌, ◌+◌, ◌==◌, ℕ, ℤ, zero, suc, List, [], ◌∷◌, ◌++◌, Bool, true, false, cond, Option, Some, None, map, option_map, option_and_then, refl, sym, ap, ap₂, subst, ◌∙◌, arith, All, slice_get}
use Rattle.std.specs.Prelude.{Contains, is_some, if◌then◌else◌}
use Rattle.std.specs.List.Sorted.{IsStrictlyIncreasing}
use Rattle.std.proofs.lemmas.Bool.Decides.{Decides-eqb}
use Rattle.std.proofs.lemmas.List.{map-append}
use Rattle.std.proofs.lemmas.List.Elements.{All-nil, All-cons}
use Rattle.mw_model.specs.Seed.{Held, held_among}
use Rattle.mw_multi.specs.World.{Item, Location}
use Rattle.mw_multi.specs.WorldKept.{LocationKept, item_id, location_id, has_id, event_fits}
use Rattle.mw_multi.specs.Joint.{Slot, Joint, IsJoint, SlotKept, place_total}
use Rattle.mw_multi.specs.Steps.{location_place}
use Rattle.mw_multi.specs.Placement.{Put, PutKept, IsPlacement, put_place, slot_at, item_at, item_in, site_of, site_at, fits_event, fits_site, what_stands}
use Rattle.mw_multi.specs.declared.item.Class.{Class}
use Rattle.mw_multi.proofs.Sites.{get_some, location_site}
use Rattle.mw_multi.specs.Indexes.{index_of_id}
use Rattle.mw_multi.specs.Numbered.{each_numbered}
use Rattle.mw_fill.specs.Openings.{opening_of, opening_at, slot_openings, openings_of}
use Rattle.mw_fill.specs.Try.{end_put, placement_of}
use Rattle.mw_multi.proofs.Numbered.{numbered_all}
use Rattle.mw_fill.proofs.Ascending.{Rises, place_of, map_same, slots_rise, end_place, placement_kept}
use Rattle.mw_seeds.specs.SeedFile.{class_flags, held_with, held_item, held_put}
use Rattle.mw_seeds.specs.Agreeing.{has_location, has_flags, where_flags, index_among, slot_items, first_owner, held_index}
use Rattle.mw_seeds.specs.FilePuts.{catalog_at, receiver_items, own_put, put_or_own, file_put, put_where, location_put, slot_puts, file_puts}
use Rattle.mw_seeds.proofs.Ids.{id_found, first_id, some_id}
use Rattle.mw_seeds.proofs.Apart.{among_is}
use Rattle.mw_seeds.proofs.Elements.{holds_at, get_mapped, unmapped, in_numbered, here}
use Rattle.mw_seeds.proofs.Receivers.{owner_holds, owner_is, catalog_is}

-- ---- locations

-- a slot and a location of it
pub record IsLocated (slots : List Slot) (number : ℕ) (id : ℤ) : Type 0 where
  pub before : ℕ
  pub is : number ≡ suc before
  pub owner : Slot
  pub there : slice_get slots before ≡ Some owner
  pub index : ℕ
  pub location : Location
  pub listed : slice_get owner.world.locations index ≡ Some location
  pub named : location.id ≡ Some id

located_at : (slots : List Slot) (before : ℕ) (id : ℤ) (s : Slot) (o : Option ℕ) → slice_get slots before ≡ Some s → index_of_id (map location_id s.world.locations) id ≡ o → is_some o ≡ true → IsLocated slots (suc before) id
located_at slots before id s None there found e = cc
located_at slots before id s (Some index) there found e =
    let at = unmapped location_id s.world.locations index (Some id) (id_found (map location_id s.world.locations) id index found) in
    record { before = before; is = refl; owner = s; there = there; index = index; location = at.0; listed = at.1; named = at.2 }

located_in : (slots : List Slot) (before : ℕ) (id : ℤ) (o : Option Slot) → slice_get slots before ≡ o → has_location id o ≡ true → IsLocated slots (suc before) id
located_in slots before id None there e = cc
located_in slots before id (Some s) there e = located_at slots before id s (index_of_id (map location_id s.world.locations) id) there refl e

pub located : (slots : List Slot) (number : ℕ) (id : ℤ) → has_location id (slot_at slots number) ≡ true → IsLocated slots number id
located slots zero id e = cc
located slots (suc before) id e = located_in slots before id (slice_get slots before) refl e

pub has_it : (slots : List Slot) (number : ℕ) (id : ℤ) → IsLocated slots number id → has_location id (slot_at slots number) ≡ true
has_it slots number id h =
    let ids = map location_id h.owner.world.locations in
    let at : slice_get ids h.index ≡ Some (Some id) = get_mapped location_id h.owner.world.locations h.index ∙ ap (option_map location_id) h.listed ∙ ap Some h.named in
    ap (λ n. has_location id (slot_at slots n)) h.is ∙ ap (has_location id) h.there ∙ some_id ids id h.index at

-- ---- items

-- the item with this index in its receiver's world is the entry's, with its flags
pub record IsItemOf (joint : Joint) (h : Held) (index : ℕ) : Type 0 where
  pub owner : Slot
  pub receiver : first_owner joint h.receiver ≡ Some owner
  pub what : Item
  pub there : slice_get owner.world.items index ≡ Some what
  pub named : what.id ≡ Some h.item
  pub flags : h.flags ≡ class_flags what.class

flags_are : (flags : ℕ) (o : Option Item) (i : Item) → o ≡ Some i → has_flags flags o ≡ true → flags ≡ class_flags i.class
flags_are flags None i e h = cc
flags_are flags (Some j) i e h =
    let same : j ≡ i = cc in
    subst (λ (v : Item). flags ≡ class_flags v.class) same ((Decides-eqb flags (class_flags j.class)).0 h)

flagged : (b : Bool) (k index : ℕ) → (if b then Some k else None) ≡ Some index → (b ≡ true) × (k ≡ index)
flagged true k index e = let same : k ≡ index = cc in (refl, same)
flagged false k index e = cc

fits_at : (joint : Joint) (h : Held) (index : ℕ) (s : Slot) (o : Option ℕ) → first_owner joint h.receiver ≡ Some s → index_of_id (map item_id s.world.items) h.item ≡ o → where_flags h.flags s.world.items o ≡ Some index → IsItemOf joint h index
fits_at joint h index s None at found e = cc
fits_at joint h index s (Some k) at found e =
    let right = flagged (has_flags h.flags (slice_get s.world.items k)) k index e in
    let i = unmapped item_id s.world.items k (Some h.item) (id_found (map item_id s.world.items) h.item k found) in
    record {
      owner = s;
      receiver = at;
      what = i.0;
      there = subst (λ n. slice_get s.world.items n ≡ Some i.0) right.1 i.1;
      named = i.2;
      flags = flags_are h.flags (slice_get s.world.items k) i.0 i.1 right.0;
    }

fits_in : (joint : Joint) (h : Held) (index : ℕ) (o : Option Slot) → first_owner joint h.receiver ≡ o → index_among h (option_map slot_items o) ≡ Some index → IsItemOf joint h index
fits_in joint h index None at e = cc
fits_in joint h index (Some s) at e = fits_at joint h index s (index_of_id (map item_id s.world.items) h.item) at refl e

pub fits : (joint : Joint) (h : Held) (index : ℕ) → held_index joint h ≡ Some index → IsItemOf joint h index
fits joint h index e = fits_in joint h index (first_owner joint h.receiver) refl e

owner_kept : (joint : Joint) (number : ℕ) (s : Slot) → IsJoint joint → first_owner joint number ≡ Some s → SlotKept s
owner_kept joint number s kept e = owner_holds SlotKept joint number s kept.each e

has_them : (flags : ℕ) (i : Item) → flags ≡ class_flags i.class → has_flags flags (Some i) ≡ true
has_them flags i e = (Decides-eqb flags (class_flags i.class)).1 e

pub is_fit : (joint : Joint) (h : Held) (index : ℕ) → IsJoint joint → IsItemOf joint h index → held_index joint h ≡ Some index
is_fit joint h index kept is =
    let items = is.owner.world.items in
    let ids = map item_id items in
    let named : slice_get ids index ≡ Some (Some h.item) = get_mapped item_id items index ∙ ap (option_map item_id) is.there ∙ ap Some is.named in
    let first = first_id ids h.item index (owner_kept joint h.receiver is.owner kept is.receiver).world.items.ids named in
    ap (λ o. index_among h (option_map slot_items o)) is.receiver ∙ ap (where_flags h.flags items) first
    ∙ ap (λ o. if has_flags h.flags o then Some index else None) is.there ∙ ap (λ b. if b then Some index else None) (has_them h.flags is.what is.flags)

-- ---- what is put at a location

abbrev pub entry_of : ℕ → ℤ → ℕ → ℤ → Class → Held
entry_of number id receiver item class = record { slot = number; location = id; item = item; receiver = receiver; flags = class_flags class }

put_entry : (joint : Joint) (number : ℕ) (id : ℤ) (place receiver index : ℕ) (owner : Slot) (what : Item) (item : ℤ) → first_owner joint receiver ≡ Some owner → slice_get owner.world.items index ≡ Some what → what.id ≡ Some item
    → held_put joint number id (Some record { place = place; receiver = receiver; item = index }) ≡ entry_of number id receiver item what.class ∷ []
put_entry joint number id place receiver index owner what item at there named =
    ap (λ o. held_item number id receiver (option_and_then (item_in index) o)) at ∙ ap (held_item number id receiver) there ∙ ap (λ o. held_with number id receiver o what.class) named

-- the entry for what is put: an item of its receiver, and just the file's where that fits
pub record IsPutFor (joint : Joint) (number : ℕ) (id : ℤ) (found : Option Held) (put : Put) : Type 0 where
  pub entry : Held
  pub is : held_put joint number id (Some put) ≡ entry ∷ []
  pub slot : entry.slot ≡ number
  pub location : entry.location ≡ id
  pub fits : is_some (held_index joint entry) ≡ true
  pub same : (h : Held) → found ≡ Some h → h.slot ≡ number → h.location ≡ id → is_some (held_index joint h) ≡ true → entry ≡ h
  pub item : is_some (item_at joint put.receiver put.item) ≡ true

there_at : (joint : Joint) (receiver index : ℕ) (owner : Slot) (what : Item) → first_owner joint receiver ≡ Some owner → slice_get owner.world.items index ≡ Some what → is_some (item_at joint receiver index) ≡ true
there_at joint receiver index owner what at there = ap (λ o. is_some (option_and_then (item_in index) o)) at ∙ ap is_some there

same_entry_of : (number : ℕ) (id : ℤ) (class : Class) (h : Held) → h.slot ≡ number → h.location ≡ id → h.flags ≡ class_flags class → entry_of number id h.receiver h.item class ≡ h
same_entry_of number id class h slot location flags =
    ap (λ s. record { slot = s; location = id; item = h.item; receiver = h.receiver; flags = class_flags class }) (sym slot)
    ∙ ap (λ l. record { slot = h.slot; location = l; item = h.item; receiver = h.receiver; flags = class_flags class }) (sym location)
    ∙ ap (λ f. record { slot = h.slot; location = h.location; item = h.item; receiver = h.receiver; flags = f }) (sym flags)

named_id : (i : Item) (o : Option ℤ) → i.id ≡ o → is_some o ≡ true → (id : ℤ) × (i.id ≡ Some id)
named_id i None is e = cc
named_id i (Some id) is e = (id, is)

filler_id : (o : Option Item) → has_id o ≡ true → (i : Item) × (id : ℤ) × (o ≡ Some i) × (i.id ≡ Some id)
filler_id None e = cc
filler_id (Some i) e = let named = named_id i i.id refl e in (i, named.0, refl, named.1)

module _ (joint : Joint) (kept : IsJoint joint) (before : ℕ) (s : Slot) (at : slice_get joint.slots before ≡ Some s) (id : ℤ) (place : ℕ) where
  own : first_owner joint (suc before) ≡ Some s
  own = owner_is joint (suc before) s at

  -- the own filler
  own_for : (found : Option Held) → ((h : Held) → found ≡ Some h → is_some (held_index joint h) ≡ true → ⊥) → IsPutFor joint (suc before) id found (own_put (suc before) s place)
  own_for found never =
      let world = (holds_at SlotKept joint.slots before s kept.each at).world in
      let filler = filler_id (slice_get s.world.items s.world.filler) world.filler.id in
      let what = filler.0 in
      let item = filler.1 in
      let entry = entry_of (suc before) id (suc before) item what.class in
      let is : IsItemOf joint entry s.world.filler = record { owner = s; receiver = own; what = what; there = filler.2; named = filler.3; flags = refl } in
      record {
        entry = entry;
        is = put_entry joint (suc before) id place (suc before) s.world.filler s what item own filler.2 filler.3;
        slot = refl;
        location = refl;
        fits = ap is_some (is_fit joint entry s.world.filler kept is);
        same = λ h e number location fit. absurd (never h e fit);
        item = there_at joint (suc before) s.world.filler s what own filler.2;
      }

  held_for : (h : Held) (index : ℕ) → held_index joint h ≡ Some index → h.slot ≡ suc before → h.location ≡ id → IsPutFor joint (suc before) id (Some h) record { place = place; receiver = h.receiver; item = index }
  held_for h index e slot location =
      let is = fits joint h index e in
      let same : entry_of (suc before) id h.receiver h.item is.what.class ≡ h = same_entry_of (suc before) id is.what.class h slot location is.flags in
      record {
        entry = h;
        is = put_entry joint (suc before) id place h.receiver index is.owner is.what h.item is.receiver is.there is.named ∙ ap (λ x. x ∷ []) same;
        slot = slot;
        location = location;
        fits = ap is_some e;
        same = λ g found number there fit. let one : h ≡ g = cc in one;
        item = there_at joint h.receiver index is.owner is.what is.receiver is.there;
      }

  by_index : (h : Held) (o : Option ℕ) → held_index joint h ≡ o → h.slot ≡ suc before → h.location ≡ id → IsPutFor joint (suc before) id (Some h) (put_or_own (suc before) s place h o)
  by_index h None e slot location = own_for (Some h) (λ g found fit. let same : h ≡ g = cc in let none : is_some (held_index joint g) ≡ false = ap (λ x. is_some (held_index joint x)) (sym same) ∙ ap is_some e in cc)
  by_index h (Some index) e slot location = held_for h index e slot location

  put_is : (found : Option Held) → ((h : Held) → found ≡ Some h → (h.slot ≡ suc before) × (h.location ≡ id)) → IsPutFor joint (suc before) id found (file_put (receiver_items joint) (suc before) s place found)
  put_is None key = own_for None (λ h e fit. cc)
  put_is (Some h) key =
      let where_it_is = key h refl in
      let index : index_among h (catalog_at (receiver_items joint) h.receiver) ≡ held_index joint h = ap (index_among h) (catalog_is joint kept h.receiver) in
      subst (λ o. IsPutFor joint (suc before) id (Some h) (put_or_own (suc before) s place h o)) (sym index) (by_index h (held_index joint h) refl where_it_is.0 where_it_is.1)

-- ---- places

each_alike : {A B C D : Type 0} (p : B → D) (q : C → D) (f : ℕ → A → List B) (g : ℕ → A → List C) (number : ℕ) (xs : List A) → ((n : ℕ) (x : A) → map p (f n x) ≡ map q (g n x)) → map p (each_numbered f number xs) ≡ map q (each_numbered g number xs)
each_alike p q f g number [] h = refl
each_alike p q f g number (x ∷ xs) h =
    map-append p (f number x) (each_numbered f (suc number) xs) ∙ ap₂ ◌++◌ (h number x) (each_alike p q f g (suc number) xs h) ∙ sym (map-append q (g number x) (each_numbered g (suc number) xs))

or_own_place : (number : ℕ) (s : Slot) (place : ℕ) (h : Held) (o : Option ℕ) → (put_or_own number s place h o).place ≡ place
or_own_place number s place h None = refl
or_own_place number s place h (Some index) = refl

put_place_is : (catalogs : List (List Item)) (number : ℕ) (s : Slot) (place : ℕ) (o : Option Held) → (file_put catalogs number s place o).place ≡ place
put_place_is catalogs number s place None = refl
put_place_is catalogs number s place (Some h) = or_own_place number s place h (index_among h (catalog_at catalogs h.receiver))

one_place : (catalogs : List (List Item)) (held : List Held) (number : ℕ) (s : Slot) (index : ℕ) (l : Location) (o : Option ℤ) → l.id ≡ o → map put_place (put_where catalogs held number s (location_place s index) o) ≡ map place_of (opening_at number s index l)
one_place catalogs held number s index l None e = sym (ap (λ o. map place_of (if is_some o then opening_of number s index l ∷ [] else [])) e)
one_place catalogs held number s index l (Some id) e = ap (λ p. p ∷ []) (put_place_is catalogs number s (location_place s index) (held_among held number id)) ∙ sym (ap (λ o. map place_of (if is_some o then opening_of number s index l ∷ [] else [])) e)

module _ (joint : Joint) (kept : IsJoint joint) (held : List Held) where
  abbrev catalogs : List (List Item)
  catalogs = receiver_items joint

  abbrev pub puts : List Put
  puts = file_puts joint held

  places_alike : map put_place puts ≡ map place_of (openings_of joint)
  places_alike = each_alike put_place place_of (slot_puts catalogs held) slot_openings 1 joint.slots (λ n s. each_alike put_place place_of (location_put catalogs held n s) (opening_at n s) 0 s.world.locations (λ i l. one_place catalogs held n s i l l.id refl))

  rise : Rises 0 (map put_place puts) (0 + place_total joint.slots)
  rise = subst (λ ps. Rises 0 ps (0 + place_total joint.slots)) (sym places_alike) (slots_rise 1 0 0 joint.slots kept.numbered)

  map_map : {A B C : Type 0} (g : B → C) (f : A → B) (xs : List A) → map g (map f xs) ≡ map (λ x. g (f x)) xs
  map_map g f [] = refl
  map_map g f (x ∷ xs) = ap (λ rest. g (f x) ∷ rest) (map_map g f xs)

  ascend : IsStrictlyIncreasing (map put_place puts)
  ascend =
      let fillers : map put_place (placement_of joint []) ≡ map place_of (openings_of joint) = map_map put_place (end_put []) (openings_of joint) ∙ map_same (λ o. put_place (end_put [] o)) place_of (openings_of joint) (end_place []) in
      subst IsStrictlyIncreasing (fillers ∙ sym places_alike) (placement_kept joint kept [] (All-nil (PutKept joint))).ascend

  -- ---- at each location with an id

  key_of : (number : ℕ) (id : ℤ) (h : Held) → held_among held number id ≡ Some h → (h.slot ≡ number) × (h.location ≡ id)
  key_of number id h e = let found = among_is (λ _. Unit {0}) number id held h (λ k d l. tt) e in (found.slot, found.location)

  -- what is put at a location of a slot, by its id
  abbrev pub put_at : ℕ → Slot → ℕ → ℤ → Put
  put_at number s index id = file_put catalogs number s (location_place s index) (held_among held number id)

  module _ (before : ℕ) (s : Slot) (at : slice_get joint.slots before ≡ Some s) (index : ℕ) (l : Location) (listed : slice_get s.world.locations index ≡ Some l) (id : ℤ) (named : l.id ≡ Some id) where
    pub what_is_put : IsPutFor joint (suc before) id (held_among held (suc before) id) (put_at (suc before) s index id)
    what_is_put = put_is joint kept before s at id (location_place s index) (held_among held (suc before) id) (key_of (suc before) id)

    pub where_it_is : (put_at (suc before) s index id).place ≡ location_place s index
    where_it_is = put_place_is catalogs (suc before) s (location_place s index) (held_among held (suc before) id)

    no_event : (o : Option ℤ) (event : Option ℕ) → o ≡ Some id → event_fits s.world.items o event ≡ true → event ≡ None
    no_event None event e h = cc
    no_event (Some i) None e h = refl
    no_event (Some i) (Some event) e h = cc

    one_kept : PutKept joint (put_at (suc before) s index id)
    one_kept =
        let put = put_at (suc before) s index id in
        let world = (holds_at SlotKept joint.slots before s kept.each at).world in
        let site : site_at joint.slots put.place ≡ Some (site_of (suc before) l) = ap (site_at joint.slots) where_it_is ∙ location_site joint before s index l kept at listed in
        let none : l.event ≡ None = no_event l.id l.event named (holds_at (LocationKept s.world) s.world.locations index l world.locations.each listed).event in
        record {
          place = ap is_some site;
          item = what_is_put.item;
          event = ap (fits_site put) site ∙ ap (fits_event put (site_of (suc before) l)) none;
        }

  where_kept : (before : ℕ) (s : Slot) (index : ℕ) (l : Location) (o : Option ℤ) → slice_get joint.slots before ≡ Some s → slice_get s.world.locations index ≡ Some l → l.id ≡ o
      → All (PutKept joint) (put_where catalogs held (suc before) s (location_place s index) o)
  where_kept before s index l None at listed e = All-nil (PutKept joint)
  where_kept before s index l (Some id) at listed e = All-cons (PutKept joint) (put_at (suc before) s index id) [] (one_kept before s at index l listed id e) (All-nil (PutKept joint))

  each_kept : All (PutKept joint) puts
  each_kept =
      numbered_all (PutKept joint) (slot_puts catalogs held) 1 joint.slots
      (λ k s inside e. let number : suc k ≡ 1 + k = omega arith in
      subst (λ n. All (PutKept joint) (slot_puts catalogs held n s)) number
      (numbered_all (PutKept joint) (location_put catalogs held (suc k) s) 0 s.world.locations
      (λ i l there is. let index : i ≡ 0 + i = omega arith in
      subst (λ n. All (PutKept joint) (location_put catalogs held (suc k) s n l)) index
      (where_kept k s i l l.id (get_some joint.slots k s inside ∙ ap Some (sym e)) (get_some s.world.locations i l there ∙ ap Some (sym is)) refl))))

  pub is_placement : IsPlacement joint puts
  is_placement = record { ascend = ascend; each = each_kept }

  -- ---- what stands there

  above : (low : ℕ) (ps : List Put) (high : ℕ) (p : Put) → Rises low (map put_place ps) high → Contains ps p → low ≤ p.place
  above low [] high p r (i, l, e) = absurd (omega (arith, l))
  above low (q ∷ ps) high p r (zero, l, e) = subst (λ x. low ≤ x.place) e r.0
  above low (q ∷ ps) high p r (suc i, l, e) = let more = above (suc q.place) ps high p r.2 (i, omega (arith, l), e) in omega (arith, r.0, more)

  cond_false : (b : Bool) (q : Put) (o : Option Put) → b ≡ false → cond b (Some q) o ≡ o
  cond_false true q o e = cc
  cond_false false q o e = refl

  cond_true : (b : Bool) (q : Put) (o : Option Put) → b ≡ true → cond b (Some q) o ≡ Some q
  cond_true true q o e = refl
  cond_true false q o e = cc

  apart : (a b : ℕ) → a < b → (a == b) ≡ false
  apart a b h = grind (arith, h)

  found_at : (low : ℕ) (ps : List Put) (high : ℕ) (p : Put) → Rises low (map put_place ps) high → Contains ps p → what_stands ps p.place ≡ Some p
  found_at low [] high p r (i, l, e) = absurd (omega (arith, l))
  found_at low (q ∷ ps) high p r (zero, l, e) =
      subst (λ x. what_stands (q ∷ ps) x.place ≡ Some x) e (cond_true (q.place == q.place) q (what_stands ps q.place) ((Decides-eqb q.place q.place).1 refl))
  found_at low (q ∷ ps) high p r (suc i, l, e) =
      let there : Contains ps p = (i, omega (arith, l), e) in
      let more = above (suc q.place) ps high p r.2 there in
      cond_false (q.place == p.place) q (what_stands ps p.place) (apart q.place p.place (omega (arith, more))) ∙ found_at (suc q.place) ps high p r.2 there

  pub stands_there : (p : Put) → Contains puts p → what_stands puts p.place ≡ Some p
  stands_there p c = found_at 0 puts (0 + place_total joint.slots) p rise c

  module _ (before : ℕ) (s : Slot) (at : slice_get joint.slots before ≡ Some s) (index : ℕ) (l : Location) (listed : slice_get s.world.locations index ≡ Some l) (id : ℤ) (named : l.id ≡ Some id) where
    put_there : Contains puts (put_at (suc before) s index id)
    put_there =
        let number : suc before ≡ 1 + before = omega arith in
        let place : index ≡ 0 + index = omega arith in
        let p = put_at (suc before) s index id in
        let one : location_put catalogs held (suc before) s index l ≡ p ∷ [] = ap (put_where catalogs held (suc before) s (location_place s index)) named in
        in_numbered (slot_puts catalogs held) 1 joint.slots before s p at (subst (λ n. Contains (slot_puts catalogs held n s) p) number
        (in_numbered (location_put catalogs held (suc before) s) 0 s.world.locations index l p listed (subst (λ n. Contains (location_put catalogs held (suc before) s n l) p) place (here p (location_put catalogs held (suc before) s index l) one))))

    -- what is put at a location stands there
    pub stands_at_location : what_stands puts (location_place s index) ≡ Some (put_at (suc before) s index id)
    stands_at_location = ap (what_stands puts) (sym (where_it_is before s at index l listed id named)) ∙ stands_there (put_at (suc before) s index id) put_there
