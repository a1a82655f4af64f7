-- The locations with an id.
use Rattle.std.proofs.Common.{◌≡◌, ℕ, suc, ◌+◌, ◌<◌, ◌≤◌, Bool, true, false, List, [], ◌∷◌, All, get_or, length, refl, sym, ap, subst, ◌∙◌, arith}
use Rattle.std.specs.Prelude.{Option, Some, None, not, is_some, slice_get, if◌then◌else◌}
use Rattle.std.proofs.lemmas.List.{length-append}
use Rattle.std.proofs.lemmas.List.Elements.{All-nil, All-cons}
use Rattle.mw_multi.specs.World.{Location, Item}
use Rattle.mw_multi.specs.WorldKept.{event_fits, LocationKept, IsWorld}
use Rattle.mw_multi.specs.Placement.{Put, Site, PutKept, fits_event, fits_site, site_at, item_at}
use Rattle.mw_multi.specs.Events.{has_no_event}
use Rattle.mw_multi.proofs.Sites.{get_some, location_site}
use Rattle.mw_reach.proofs.Slots.{slot_fits}
use Rattle.mw_multi.specs.Joint.{Slot, Joint, IsJoint, slot_places}
use Rattle.mw_fill.specs.Kept.{OpeningKept}
use Rattle.mw_multi.specs.Numbered.{each_numbered}
use Rattle.mw_fill.specs.Openings.{Opening, opening_of, opening_at, slot_openings, openings_of}
use Rattle.mw_multi.proofs.Numbered.{numbered_le, numbered_all}
use Rattle.mw_fill.proofs.Pools.{item_there, some_item}

one_le : (number : ℕ) (s : Slot) (index : ℕ) (l : Location) (b : Bool) → length (if b then opening_of number s index l ∷ [] else []) ≤ 1
one_le number s index l true = omega arith
one_le number s index l false = omega arith

among_le : (number : ℕ) (s : Slot) (index : ℕ) (ls : List Location) → length (each_numbered (opening_at number s) index ls) ≤ length ls
among_le number s index [] = omega arith
among_le number s index (l ∷ ls) = omega (arith, length-append (opening_at number s index l) (each_numbered (opening_at number s) (suc index) ls), one_le number s index l (is_some l.id), among_le number s (suc index) ls)

-- no more locations than places
pub openings_are_few : (joint : Joint) → IsJoint joint → length (openings_of joint) ≤ 200000
openings_are_few joint kept =
    omega (arith, numbered_le slot_openings slot_places 1 joint.slots (λ n i d l. let s = get_or joint.slots i d in omega (arith, among_le n s 0 s.world.locations)), kept.places)

-- ---- whose they are

no_event_here : (items : List Item) (id : Option _) (event : Option ℕ) → event_fits items id event ≡ true → is_some id ≡ true → not (is_some event) ≡ true
no_event_here items (Some i) None e h = refl
no_event_here items (Some i) (Some event) e h = cc
no_event_here items None event e h = cc

module _ (joint : Joint) (kept : IsJoint joint) (k : ℕ) (s : Slot) (within : k < length joint.slots) (is : s ≡ get_or joint.slots k s) where
  slot_there : slice_get joint.slots k ≡ Some s
  slot_there = get_some joint.slots k s within ∙ ap Some (sym is)

  world_kept : IsWorld s.world
  world_kept = subst (λ (t : Slot). IsWorld t.world) (sym is) (kept.each k s within).world

  opening_kept : (i : ℕ) (l : Location) → slice_get s.world.locations i ≡ Some l → LocationKept s.world l → i < length s.world.locations → is_some l.id ≡ true → OpeningKept joint (opening_of (suc k) s i l)
  opening_kept i l there location inside id =
      let fits = slot_fits joint kept k s within is in
      let site = location_site joint k s i l kept slot_there there in
      record {
        place = omega (arith, fits.places);
        location = ap is_some site;
        no_event = ap has_no_event site ∙ no_event_here s.world.items l.id l.event location.event id;
        filler = item_there joint k s s.world.filler slot_there (some_item (slice_get s.world.items s.world.filler) world_kept.filler.id);
      }

  one_kept : (i : ℕ) (l : Location) (b : Bool) → is_some l.id ≡ b → slice_get s.world.locations i ≡ Some l → LocationKept s.world l → i < length s.world.locations → All (OpeningKept joint) (if b then opening_of (suc k) s i l ∷ [] else [])
  one_kept i l true id there location inside = All-cons (OpeningKept joint) (opening_of (suc k) s i l) [] (opening_kept i l there location inside id) (All-nil (OpeningKept joint))
  one_kept i l false id there location inside = All-nil (OpeningKept joint)

  slot_kept : All (OpeningKept joint) (slot_openings (suc k) s)
  slot_kept =
      numbered_all (OpeningKept joint) (opening_at (suc k) s) 0 s.world.locations
      (λ i l inside e. let at : i ≡ 0 + i = omega arith in
      subst (λ n. All (OpeningKept joint) (opening_at (suc k) s n l)) at
      (one_kept i l (is_some l.id) refl (get_some s.world.locations i l inside ∙ ap Some (sym e)) (subst (LocationKept s.world) (sym e) (world_kept.locations.each i l inside)) inside))

-- they are the joint's, and have no events
pub openings_kept : (joint : Joint) → IsJoint joint → All (OpeningKept joint) (openings_of joint)
openings_kept joint kept =
    numbered_all (OpeningKept joint) slot_openings 1 joint.slots
    (λ k s l e. let at : suc k ≡ 1 + k = omega arith in subst (λ n. All (OpeningKept joint) (slot_openings n s)) at (slot_kept joint kept k s l e))

-- ---- puts at them

fits_none : (put : Put) (site : Site) (event : Option ℕ) → not (is_some event) ≡ true → fits_event put site event ≡ true
fits_none put site None e = refl
fits_none put site (Some event) e = cc

fits_here : (put : Put) (site : Option Site) → has_no_event site ≡ true → fits_site put site ≡ true
fits_here put None e = refl
fits_here put (Some site) e = fits_none put site site.location.event e

-- an item of the joint may stand at such a location
pub put_kept : (joint : Joint) (opening : Opening) (receiver item : ℕ) → OpeningKept joint opening → is_some (item_at joint receiver item) ≡ true → PutKept joint record { place = opening.place; receiver = receiver; item = item }
put_kept joint opening receiver item kept there = record {
  place = kept.location;
  item = there;
  event = fits_here record { place = opening.place; receiver = receiver; item = item } (site_at joint.slots opening.place) kept.no_event;
}
