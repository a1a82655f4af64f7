-- Where a seed file's entries first differ from those of the placement that they put, tables and file first differ.
use Rattle.std.proofs.Common.{◌≡◌, ◌+◌, ◌&&◌, ℕ, ℤ, suc, List, [], ◌∷◌, Bool, true, false, Option, Some, None, map, length, option_map, refl, sym, ap, subst, ◌∙◌, arith, All}
use Rattle.std.specs.Prelude.{Contains, is_some}
use Rattle.std.proofs.lemmas.List.Sorted.{All-permutation, Contains-permutation}
use mathlib.Core.Path.{fun_ext}
use Rattle.mw_model.specs.Seed.{Seed, Held, held_among}
use Rattle.mw_multi.specs.World.{Item}
use Rattle.mw_multi.specs.Joint.{Joint, IsJoint}
use Rattle.mw_multi.specs.Steps.{location_place}
use Rattle.mw_multi.specs.Placement.{Put, slot_at, what_stands}
use Rattle.mw_model.specs.Ascending.{Ascend}
use Rattle.mw_multidata.specs.SeedKept.{held_cmp}
use Rattle.mw_seeds.specs.SeedFile.{held_where, location_held, slot_held, all_held, AreLocations}
use Rattle.mw_seeds.specs.Agreeing.{has_location, is_in_both, fits_tables, held_index, index_among, agrees_with, agrees_at, LinksAgree, EntriesAgree, IsFirstDifference}
use Rattle.mw_seeds.specs.FilePuts.{first_apart, receiver_items, file_puts}
use Rattle.mw_seeds.specs.Judging.{IsPlacementIn}
use Rattle.mw_seeds.specs.Keys.{Key, as_held, AreKeys, first_other, key_of, fits_among, first_other_key}
use Rattle.mw_seeds.proofs.InOrder.{in_order}
use Rattle.mw_seeds.proofs.KeyOrder.{keys_tell}
use Rattle.mw_seeds.proofs.Walk.{agree, agree_all, differ_at}
use Rattle.mw_seeds.proofs.SeedHeld.{IsOfSlot, all_of, all_apart}
use Rattle.mw_seeds.proofs.Apart.{among_there, among_is, apart_is, same_lists}
use Rattle.mw_seeds.proofs.Elements.{in_numbered, here}
use Rattle.mw_seeds.proofs.Receivers.{catalog_is}
use Rattle.mw_seeds.proofs.FilePlaced.{IsLocated, located, has_it, what_is_put, stands_at_location, put_at, is_placement}

-- what the tables and the file say of a location, by what stands there and what the file has
module _ (joint : Joint) (due found : Option Held) where
  -- one entry that fits is due there, and the file's is it where that fits
  pub record IsDue (e : Held) : Type 0 where
    pub is : due ≡ Some e
    pub fits : is_some (held_index joint e) ≡ true
    pub same : (h : Held) → found ≡ Some h → is_some (held_index joint h) ≡ true → e ≡ h

second : (a b : Bool) → (a && b) ≡ true → b ≡ true
second true b e = e
second false b e = cc

agreed_same : (joint : Joint) (many : ℕ) (due found : Option Held) (e : Held) → IsDue joint due found e → agrees_with (fits_tables joint many) true found ≡ true → due ≡ found
agreed_same joint many due None e d h = cc
agreed_same joint many due (Some f) e d h = d.is ∙ ap Some (d.same f refl (second (is_in_both (length joint.slots) many f.receiver) (is_some (held_index joint f)) h))

agreed_none : (fits : Held → Bool) (due found : Option Held) → due ≡ None → agrees_with fits false found ≡ true → due ≡ found
agreed_none fits due None is h = is
agreed_none fits due (Some f) is h = cc

disagrees : (b : Bool) → (b ≡ true → ⊥) → b ≡ false
disagrees true h = absurd (h refl)
disagrees false h = refl

module _ (joint : Joint) (kept : IsJoint joint) (seed : Seed) (ascend : Ascend held_cmp seed.locations) (links : LinksAgree joint seed) (due : List Held) (are : AreLocations joint (file_puts joint seed.locations) due) where
  abbrev puts : List Put
  puts = file_puts joint seed.locations

  -- an entry that is due is of a location of the tables
  abbrev IsListed : Held → Type 0
  IsListed h = IsLocated joint.slots h.slot h.location

  listed : (h : Held) → IsOfSlot joint 1 joint.slots h → IsListed h
  listed h (k, s, at, (i, l, id, there, named, of)) =
      let number : 1 + k ≡ suc k = omega arith in
      record {
        before = k;
        is = of.slot ∙ number;
        owner = s;
        there = at;
        index = i;
        location = l;
        listed = there;
        named = named ∙ ap Some (sym of.location);
      }

  each_listed : All IsListed due
  each_listed = All-permutation IsListed (all_held joint (what_stands puts)) due are.same (λ k d l. listed _ (all_of joint (what_stands puts) 1 joint.slots k d l))

  not_listed : (s : ℕ) (l : ℤ) (o : Option Held) → held_among due s l ≡ o → has_location l (slot_at joint.slots s) ≡ false → o ≡ None
  not_listed s l None is none = refl
  not_listed s l (Some h) is none =
      let found = among_is IsListed s l due h each_listed is in
      let there : has_location h.location (slot_at joint.slots h.slot) ≡ true = has_it joint.slots h.slot h.location found.holds in
      let also : has_location l (slot_at joint.slots s) ≡ true = subst (λ n. has_location l (slot_at joint.slots n) ≡ true) found.slot (subst (λ i. has_location i (slot_at joint.slots h.slot) ≡ true) found.location there) in
      cc

  -- the entry for what is put at a location is due
  due_there : (s : ℕ) (l : ℤ) → IsLocated joint.slots s l → (e : Held) × IsDue joint (held_among due s l) (held_among seed.locations s l) e
  due_there s l at =
      let stands = what_stands puts in
      let is_put = what_is_put joint kept seed.locations at.before at.owner at.there at.index at.location at.listed l at.named in
      let p = put_at joint kept seed.locations (suc at.before) at.owner at.index l in
      let e = is_put.entry in
      let one : location_held joint stands (suc at.before) at.owner at.index at.location ≡ e ∷ [] =
      ap (λ o. held_where joint (suc at.before) o (stands (location_place at.owner at.index))) at.named
      ∙ ap (held_where joint (suc at.before) (Some l)) (stands_at_location joint kept seed.locations at.before at.owner at.there at.index at.location at.listed l at.named) ∙ is_put.is in
      let number : suc at.before ≡ 1 + at.before = omega arith in
      let index : at.index ≡ 0 + at.index = omega arith in
      let among : Contains (all_held joint stands) e =
      in_numbered (slot_held joint stands) 1 joint.slots at.before at.owner e at.there (subst (λ n. Contains (slot_held joint stands n at.owner) e) number
      (in_numbered (location_held joint stands (suc at.before) at.owner) 0 at.owner.world.locations at.index at.location e at.listed
      (subst (λ n. Contains (location_held joint stands (suc at.before) at.owner n at.location) e) index (here e (location_held joint stands (suc at.before) at.owner at.index at.location) one)))) in
      let there : held_among due e.slot e.location ≡ Some e = among_there due e are.ascend (Contains-permutation (all_held joint stands) due e are.same among) in
      let slot : e.slot ≡ s = is_put.slot ∙ sym at.is in (
        e,
        record {
          is = subst (λ n. held_among due n l ≡ Some e) slot (subst (λ i. held_among due e.slot i ≡ Some e) is_put.location there);
          fits = is_put.fits;
          same = λ h found fit.
              let key = among_is (λ _. Unit {0}) s l seed.locations h (λ k d i. tt) found in
              is_put.same h (ap (λ n. held_among seed.locations n l) (sym at.is) ∙ found) (key.slot ∙ at.is) key.location fit;
        },
      )

  abbrev fits : Held → Bool
  fits = fits_tables joint (length seed.slots)

  by_tables : (s : ℕ) (l : ℤ) (b : Bool) → has_location l (slot_at joint.slots s) ≡ b → agrees_with fits b (held_among seed.locations s l) ≡ true → held_among due s l ≡ held_among seed.locations s l
  by_tables s l true has =
      let d = due_there s l (located joint.slots s l has) in
      agreed_same joint (length seed.slots) (held_among due s l) (held_among seed.locations s l) d.0 d.1
  by_tables s l false has = agreed_none fits (held_among due s l) (held_among seed.locations s l) (not_listed s l (held_among due s l) refl has)

  -- where an entry differs, tables and file don't agree
  apart_differs : (h : Held) → first_apart due seed.locations ≡ Some h → agrees_at joint seed h.slot h.location ≡ false
  apart_differs h e =
      let a = apart_is due seed.locations h are.ascend ascend e in
      disagrees (agrees_at joint seed h.slot h.location) (λ agree. a.differ (by_tables h.slot h.location (has_location h.location (slot_at joint.slots h.slot)) refl agree))

  -- where they agree, none differs, and the entries are those of what they put
  by_difference : EntriesAgree joint seed → (o : Option Held) → first_apart due seed.locations ≡ o → IsPlacementIn joint seed puts
  by_difference agree None e = record {
    agree = record { links = links; entries = agree };
    placement = is_placement joint kept seed.locations;
    entries = subst (AreLocations joint puts) (same_lists due seed.locations e) are;
  }
  by_difference agree (Some h) e =
      let never : true ≡ false = sym (agree h.slot h.location) ∙ apart_differs h e in
      cc

  pub placed_so : EntriesAgree joint seed → IsPlacementIn joint seed puts
  placed_so agree = by_difference agree (first_apart due seed.locations) refl

-- where the tables and the file agree, its entries are those of what they put
module _ (joint : Joint) (kept : IsJoint joint) (seed : Seed) (ascend : Ascend held_cmp seed.locations) (links : LinksAgree joint seed) where
  pub placed_where_agreed : EntriesAgree joint seed → IsPlacementIn joint seed (file_puts joint seed.locations)
  placed_where_agreed agree =
      let held = all_held joint (what_stands (file_puts joint seed.locations)) in
      let due = in_order held (all_apart joint (what_stands (file_puts joint seed.locations)) 1 joint.slots (λ k d l. (kept.each k d l).world.locations.ids)) in
      placed_so joint kept seed ascend links due.0 record { same = due.1; ascend = due.2 } agree

-- by the keys of the tables' locations
module _ (joint : Joint) (kept : IsJoint joint) (seed : Seed) (ascend : Ascend held_cmp seed.locations) (links : LinksAgree joint seed) (keys : List Key) (are : AreKeys joint.slots keys) where
  abbrev listed_keys : List Held
  listed_keys = map as_held keys

  abbrev own_fits : Held → Bool
  own_fits = fits_tables joint (length seed.slots)

  told : (s : ℕ) (l : ℤ) → agree own_fits listed_keys seed.locations s l ≡ agrees_at joint seed s l
  told s l = ap (λ b. agrees_with own_fits b (held_among seed.locations s l)) (keys_tell joint.slots keys are s l)

  pub placed_by_keys : first_other own_fits listed_keys seed.locations ≡ None → IsPlacementIn joint seed (file_puts joint seed.locations)
  placed_by_keys e = placed_where_agreed joint kept seed ascend links (λ s l. sym (told s l) ∙ agree_all own_fits listed_keys seed.locations are.ascend ascend e s l)

  pub differs_by_keys : (h : Held) → first_other own_fits listed_keys seed.locations ≡ Some h → IsFirstDifference joint seed h.slot h.location
  differs_by_keys h e =
      let d = differ_at own_fits listed_keys seed.locations h are.ascend ascend e in
      record { links = links; differs = sym (told h.slot h.location) ∙ d.differs; earlier = λ s l less. sym (told s l) ∙ d.earlier s l less }

  -- over what the code has
  fits_same : (tables : List (List Item)) (slots many : ℕ) → tables ≡ receiver_items joint → slots ≡ length joint.slots → many ≡ length seed.slots → fits_among tables slots many ≡ own_fits
  fits_same tables slots many same own count =
      ap (λ ts. fits_among ts slots many) same ∙ ap (λ n. fits_among (receiver_items joint) n many) own ∙ ap (fits_among (receiver_items joint) (length joint.slots)) count
      ∙ fun_ext (λ h. ap (λ o. is_in_both (length joint.slots) (length seed.slots) h.receiver && is_some (index_among h o)) (catalog_is joint kept h.receiver))

  module _ (tables : List (List Item)) (same : tables ≡ receiver_items joint) (slots : ℕ) (own : slots ≡ length joint.slots) (many : ℕ) (count : many ≡ length seed.slots) (held : List Held) (is : held ≡ seed.locations) where
    found_so : first_other_key tables slots many keys held ≡ option_map key_of (first_other own_fits listed_keys seed.locations)
    found_so = ap (λ f. option_map key_of (first_other f listed_keys held)) (fits_same tables slots many same own count) ∙ ap (λ hs. option_map key_of (first_other own_fits listed_keys hs)) is

    none_of : (o : Option Held) → option_map key_of o ≡ None → o ≡ None
    none_of None e = refl
    none_of (Some h) e = cc

    pub placed_at : first_other_key tables slots many keys held ≡ None → IsPlacementIn joint seed (file_puts joint held)
    placed_at e = subst (λ hs. IsPlacementIn joint seed (file_puts joint hs)) (sym is) (placed_by_keys (none_of (first_other own_fits listed_keys seed.locations) (sym found_so ∙ e)))

    one_of : (o : Option Held) (k : Key) → first_other own_fits listed_keys seed.locations ≡ o → option_map key_of o ≡ Some k → IsFirstDifference joint seed k.slot k.location
    one_of None k e f = cc
    one_of (Some h) k e f =
        let same_key : key_of h ≡ k = cc in
        subst (λ (x : Key). IsFirstDifference joint seed x.slot x.location) same_key (differs_by_keys h e)

    pub difference_at : (k : Key) → first_other_key tables slots many keys held ≡ Some k → IsFirstDifference joint seed k.slot k.location
    difference_at k e = one_of (first_other own_fits listed_keys seed.locations) k refl (sym found_so ∙ e)
