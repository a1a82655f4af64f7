-- What holds of each copy of a group.
use Rattle.std.proofs.Common.{◌≡◌, ℕ, suc, ◌+◌, Bool, true, false, List, [], ◌∷◌, Some, All, length, refl, sym, ap, subst, ◌∙◌, arith}
use Rattle.std.specs.Prelude.{flat_map, replicate, slice_get, if◌then◌else◌}
use Rattle.std.proofs.lemmas.List.Concat.{flat_map-cons}
use Rattle.std.proofs.lemmas.List.Elements.{All-nil, All-append, All-replicate}
use Rattle.mw_multi.specs.World.{Item, PoolEntry}
use Rattle.mw_multi.specs.Joint.{Slot, Link, Joint, world_of, first_slot, slot_at}
use Rattle.mw_multi.specs.Numbered.{each_numbered}
use Rattle.mw_multi.proofs.Numbered.{numbered_all}
use Rattle.mw_multi.proofs.Sites.{get_some}
use Rattle.mw_fill.specs.declared.group.Group.{Group}
use Rattle.mw_fill.specs.Copies.{ItemCopy, item_is_of, copy_of, entry_copies, slot_copies, shared_copy, shared_copies, link_copies, has_others, copies_of}

-- ---- of a slot

module _ (P : ItemCopy → Type 0) (group : Group) (many : Bool) (number : ℕ) (s : Slot) (each : (item : ℕ) → item_is_of group (slice_get s.world.items item) ≡ true → P (copy_of many number s item)) where
  entry_all : (e : PoolEntry) (here : Bool) → item_is_of group (slice_get s.world.items e.item) ≡ here → All P (if here then replicate e.count (copy_of many number s e.item) else [])
  entry_all e true h = All-replicate P e.count (copy_of many number s e.item) (each e.item h)
  entry_all e false h = All-nil P

  pub pool_all : (pool : List PoolEntry) → All P (flat_map (entry_copies group many number s) pool)
  pool_all [] = All-nil P
  pool_all (e ∷ pool) =
      rw (flat_map-cons (entry_copies group many number s) e pool)
      (All-append P (entry_copies group many number s e) (flat_map (entry_copies group many number s) pool) (entry_all e (item_is_of group (slice_get s.world.items e.item)) refl) (pool_all pool))

-- ---- of a link

module _ (P : ItemCopy → Type 0) (group : Group) (items : List Item) (number : ℕ) (each : (item : ℕ) → item_is_of group (slice_get items item) ≡ true → P (shared_copy number item)) where
  shared_all : (e : PoolEntry) (here : Bool) → item_is_of group (slice_get items e.item) ≡ here → All P (if here then replicate e.count (shared_copy number e.item) else [])
  shared_all e true h = All-replicate P e.count (shared_copy number e.item) (each e.item h)
  shared_all e false h = All-nil P

  pub link_all : (copies : List PoolEntry) → All P (flat_map (shared_copies group items number) copies)
  link_all [] = All-nil P
  link_all (e ∷ copies) =
      rw (flat_map-cons (shared_copies group items number) e copies)
      (All-append P (shared_copies group items number e) (flat_map (shared_copies group items number) copies) (shared_all e (item_is_of group (slice_get items e.item)) refl) (link_all copies))

-- ---- of a joint

module _ (P : ItemCopy → Type 0) (group : Group) (joint : Joint) where
  abbrev pub OfSlots : Type 0
  OfSlots =
      (k : ℕ) (s : Slot) → slot_at joint.slots (suc k) ≡ Some s → (item : ℕ) → item_is_of group (slice_get s.world.items item) ≡ true
      → P (copy_of (has_others joint) (suc k) s item)

  abbrev pub OfLinks : Type 0
  OfLinks =
      (k : ℕ) (l : Link) → slice_get joint.links k ≡ Some l → (item : ℕ) → item_is_of group (slice_get (world_of (first_slot joint.slots l.members)).items item) ≡ true
      → P (shared_copy (suc (length joint.slots) + k) item)

  slots_all : OfSlots → All P (each_numbered (slot_copies group (has_others joint)) 1 joint.slots)
  slots_all each =
      numbered_all P (slot_copies group (has_others joint)) 1 joint.slots
      (λ k s l e. let at : suc k ≡ 1 + k = omega arith in
      subst (λ n. All P (slot_copies group (has_others joint) n s)) at
      (pool_all P group (has_others joint) (suc k) s (each k s (get_some joint.slots k s l ∙ ap Some (sym e))) s.pool))

  links_all : OfLinks → All P (each_numbered (link_copies group joint.slots) (suc (length joint.slots)) joint.links)
  links_all each =
      numbered_all P (link_copies group joint.slots) (suc (length joint.slots)) joint.links
      (λ k l h e. link_all P group (world_of (first_slot joint.slots l.members)).items (suc (length joint.slots) + k) (each k l (get_some joint.links k l h ∙ ap Some (sym e))) l.copies)

  pub copies_all : OfSlots → OfLinks → All P (copies_of group joint)
  copies_all slots links =
      All-append P (each_numbered (slot_copies group (has_others joint)) 1 joint.slots) (each_numbered (link_copies group joint.slots) (suc (length joint.slots)) joint.links) (slots_all slots) (links_all links)
