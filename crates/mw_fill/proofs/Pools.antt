-- The copies of pools and links are of the joint's items.
use Rattle.std.proofs.Common.{◌≡◌, ℕ, zero, suc, ◌+◌, ◌<◌, Bool, true, false, List, [], ◌∷◌, All, get_or, length, refl, sym, ap, subst, ◌∙◌, arith}
use Rattle.std.proofs.lemmas.List.Elements.{All-nil, All-cons, All-append}
use Rattle.std.specs.Prelude.{Option, Some, None, flat_map, is_some, option_and_then, replicate, slice_get, if◌then◌else◌}
use Rattle.mw_multi.specs.World.{Item, PoolEntry}
use Rattle.mw_multi.specs.RulesKept.{is_progression_item}
use Rattle.mw_multi.specs.Joint.{Slot, Link, Joint, LinkKept, IsJoint, world_of, first_slot, slot_at, item_total}
use Rattle.mw_multi.specs.WorldKept.{has_id}
use Rattle.mw_multi.specs.Placement.{item_in, item_at, numbers_of, owner_numbers, receiver_numbers, owners}
use Rattle.mw_multi.proofs.Owners.{owners_of_slot}
use Rattle.mw_multi.proofs.Sites.{get_some}
use Rattle.mw_multi.proofs.Standing.{numbered_slot}
use Rattle.mw_fill.specs.Kept.{CopyKept}
use Rattle.mw_fill.specs.declared.group.Group.{Group}
use Rattle.mw_fill.specs.Copies.{is_of, item_is_of, copy_of, entry_copies, shared_copy, shared_copies, copies_of}
use Rattle.mw_fill.proofs.Links.{owners_of_link, item_of_slot}
use Rattle.mw_fill.proofs.Copying.{copies_all}

-- what an entry's copies are, by the class of its item
pub entry_is : (group : Group) (many : Bool) (number : ℕ) (s : Slot) (e : PoolEntry) (items : List Item) (item : Item) (here : Bool) → items ≡ s.world.items → e.item < length items → item ≡ get_or items e.item item
    → here ≡ is_of group item.class → entry_copies group many number s e ≡ (if here then replicate e.count (copy_of many number s e.item) else [])
entry_is group many number s e items item here same h is of_group =
    let found : slice_get s.world.items e.item ≡ Some item = ap (λ is. slice_get is e.item) (sym same) ∙ get_some items e.item item h ∙ ap Some (sym is) in
    ap (λ o. if item_is_of group o then replicate e.count (copy_of many number s e.item) else []) found
    ∙ ap (λ b. if b then replicate e.count (copy_of many number s e.item) else []) (sym of_group)

-- the same of a link's entry
pub shared_is : (group : Group) (items : List Item) (number : ℕ) (e : PoolEntry) (item : Item) (here : Bool) → e.item < length items → item ≡ get_or items e.item item
    → here ≡ is_of group item.class → shared_copies group items number e ≡ (if here then replicate e.count (shared_copy number e.item) else [])
shared_is group items number e item here h is of_group =
    let found : slice_get items e.item ≡ Some item = get_some items e.item item h ∙ ap Some (sym is) in
    ap (λ o. if item_is_of group o then replicate e.count (shared_copy number e.item) else []) found
    ∙ ap (λ b. if b then replicate e.count (shared_copy number e.item) else []) (sym of_group)

-- ---- items that are there

pub some_item : (o : Option Item) → has_id o ≡ true → is_some o ≡ true
some_item (Some i) e = refl
some_item None e = cc

pub some_of : (group : Group) (o : Option Item) → item_is_of group o ≡ true → is_some o ≡ true
some_of group (Some i) e = refl
some_of group None e = cc

pub item_within : (items : List Item) (k : ℕ) → is_some (slice_get items k) ≡ true → k < length items
item_within [] k e = cc
item_within (i ∷ items) zero e = omega arith
item_within (i ∷ items) (suc k) e = omega (arith, item_within items k e)

pub progression_there : (o : Option Item) → is_progression_item o ≡ true → is_some o ≡ true
progression_there (Some i) e = refl
progression_there None e = cc

-- ---- whose numbers they are

module _ (joint : Joint) (kept : IsJoint joint) (item : ℕ) where
  abbrev IsInside : ℕ → Type 0
  IsInside n = n < item_total joint.slots

  in_slot : (owner : ℕ) (s : Slot) → slot_at joint.slots owner ≡ Some s → (asked : Bool) → is_progression_item (item_in item s) ≡ asked → All IsInside (if asked then (s.first_item + item) ∷ [] else [])
  in_slot owner s there true e =
      let fits = numbered_slot joint.slots owner s kept.numbered there in
      let within = item_within s.world.items item (progression_there (item_in item s) e) in
      All-cons IsInside (s.first_item + item) [] (omega (arith, fits.items_fit, within)) (All-nil IsInside)
  in_slot owner s there false e = All-nil IsInside

  of_owner : (owner : ℕ) (o : Option Slot) → slot_at joint.slots owner ≡ o → All IsInside (numbers_of o item)
  of_owner owner None e = All-nil IsInside
  of_owner owner (Some s) e = in_slot owner s e (is_progression_item (item_in item s)) refl

  of_owners : (os : List ℕ) → All IsInside (flat_map (owner_numbers joint.slots item) os)
  of_owners [] = All-nil IsInside
  of_owners (o ∷ os) = All-append IsInside (owner_numbers joint.slots item o) (flat_map (owner_numbers joint.slots item) os) (of_owner o (slot_at joint.slots o) refl) (of_owners os)

  -- a receiver's item has the joint's numbers
  pub numbers_inside : (receiver : ℕ) → All IsInside (receiver_numbers joint receiver item)
  numbers_inside receiver = of_owners (owners joint receiver)

-- ---- whose they are

-- an item of a slot's world
pub item_there : (joint : Joint) (k : ℕ) (s : Slot) (item : ℕ) → slot_at joint.slots (suc k) ≡ Some s → is_some (slice_get s.world.items item) ≡ true → is_some (item_at joint (suc k) item) ≡ true
item_there joint k s item there some =
    ap (λ os. is_some (option_and_then (item_in item) (first_slot joint.slots os))) (owners_of_slot joint (suc k) s there)
    ∙ ap (λ (o : Option Slot). is_some (option_and_then (item_in item) o)) there ∙ some

-- an item of a link's world
shared_there : (joint : Joint) (k : ℕ) (l : Link) (item : ℕ) → slice_get joint.links k ≡ Some l → is_some (slice_get (world_of (first_slot joint.slots l.members)).items item) ≡ true
    → is_some (item_at joint (suc (length joint.slots) + k) item) ≡ true
shared_there joint k l item there some =
    ap (λ os. is_some (option_and_then (item_in item) (first_slot joint.slots os))) (owners_of_link joint k l there) ∙ item_of_slot (first_slot joint.slots l.members) item some

-- the copies are of the joint's items
pub copies_kept : (group : Group) (joint : Joint) → IsJoint joint → All (CopyKept joint) (copies_of group joint)
copies_kept group joint kept =
    copies_all (CopyKept joint) group joint
    (λ k s there item e. record {
      item = item_there joint k s item there (some_of group (slice_get s.world.items item) e);
      numbers = numbers_inside joint kept item (suc k);
    })
    (λ k l there item e. record {
      item = shared_there joint k l item there (some_of group (slice_get (world_of (first_slot joint.slots l.members)).items item) e);
      numbers = numbers_inside joint kept item (suc (length joint.slots) + k);
    })

-- ---- a link's entries

-- a world without items has none to share
pub none_shared : (group : Group) (number : ℕ) (entries : List PoolEntry) → flat_map (shared_copies group [] number) entries ≡ []
none_shared group number [] = refl
none_shared group number (e ∷ entries) = none_shared group number entries

-- its items are there
pub entries_there : (slots : List Slot) (l : Link) → LinkKept slots l → (o : Option Slot) → first_slot slots l.members ≡ o → All (λ e. e.item < length (world_of o).items) l.copies
entries_there slots l kept o is = λ k d h.
    let item = (get_or l.copies k d).item in
    let items = (world_of o).items in
    item_within items item (some_item (slice_get items item) (subst (λ (p : Option Slot). has_id (slice_get (world_of p).items item) ≡ true) is (kept.copies k d h).item))
