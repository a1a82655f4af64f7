-- The links of a joint.
use Rattle.std.proofs.Common.{◌≡◌, ℕ, zero, suc, ◌+◌, ◌-◌, ◌<◌, Bool, true, false, List, [], ◌∷◌, ◌++◌, Option, Some, None, All, length, get_or, refl, ap, ap₂, sym, subst, ◌∙◌, arith}
use Rattle.std.specs.Prelude.{flat_map, is_some, option_and_then, nat_le, slice_get, if◌then◌else◌}
use Rattle.mw_multi.specs.World.{World}
use Rattle.mw_multi.specs.RulesKept.{is_progression_item}
use Rattle.mw_multi.specs.Joint.{Slot, Link, Joint, IsJoint, LinkKept, HasWorld, world_of, slot_at}
use Rattle.mw_multi.specs.Placement.{item_in, members_of, owners, numbers_of, owner_numbers}

-- ---- elements by index

pub at_index : {A : Type 0} (P : A → Type 0) (xs : List A) (k : ℕ) (x : A) → All P xs → slice_get xs k ≡ Some x → P x
at_index P [] k x h e = cc
at_index P (y ∷ xs) zero x h e = let same : y ≡ x = cc in subst P same (h 0 y (omega arith))
at_index P (y ∷ xs) (suc k) x h e = at_index P xs k x (λ i d l. h (suc i) d (omega arith)) e

pub index_within : {A : Type 0} (xs : List A) (k : ℕ) (x : A) → slice_get xs k ≡ Some x → k < length xs
index_within [] k x e = cc
index_within (y ∷ xs) zero x e = omega arith
index_within (y ∷ xs) (suc k) x e = omega (arith, index_within xs k x e)

pub found_there : {A : Type 0} (xs : List A) (k : ℕ) (x d : A) → slice_get xs k ≡ Some x → get_or xs k d ≡ x
found_there [] k x d e = cc
found_there (y ∷ xs) zero x d e = cc
found_there (y ∷ xs) (suc k) x d e = found_there xs k x d e

-- ---- owners

past_slots : (b : Bool) (r n : ℕ) (others : List ℕ) → nat_le r n ≡ b → n < r → (if b then r ∷ [] else others) ≡ others
past_slots true r n others e h = absurd (grind (arith, e, h))
past_slots false r n others e h = refl

-- the owners of a link are its members
pub owners_of_link : (joint : Joint) (k : ℕ) (l : Link) → slice_get joint.links k ≡ Some l → owners joint (suc (length joint.slots) + k) ≡ l.members
owners_of_link joint k l there =
    let n = length joint.slots in
    let r = suc n + k in
    let at : r - suc n ≡ k = omega arith in
    past_slots (nat_le r n) r n (members_of (slice_get joint.links (r - suc n))) refl (omega arith) ∙ ap (λ i. members_of (slice_get joint.links i)) at ∙ ap members_of there

pub link_kept : (joint : Joint) → IsJoint joint → (k : ℕ) (l : Link) → slice_get joint.links k ≡ Some l → LinkKept joint.slots l
link_kept joint kept k l there = at_index (LinkKept joint.slots) joint.links k l kept.links there

-- ---- a link's world

-- an item of the world is one of the slot's
pub item_of_slot : (o : Option Slot) (item : ℕ) → is_some (slice_get (world_of o).items item) ≡ true → is_some (option_and_then (item_in item) o) ≡ true
item_of_slot None item e = cc
item_of_slot (Some s) item e = e

idle_owner : (w : World) (item : ℕ) → is_progression_item (slice_get w.items item) ≡ false → (o : Option Slot) → world_of o ≡ w → numbers_of o item ≡ []
idle_owner w item e None same = refl
idle_owner w item e (Some s) same =
    let off : is_progression_item (slice_get s.world.items item) ≡ false = subst (λ (v : World). is_progression_item (slice_get v.items item) ≡ false) (sym same) e in
    ap (λ b. if b then (s.first_item + item) ∷ [] else []) off

-- an item that no rule asks for has no numbers
pub idle_owners : (slots : List Slot) (w : World) (item : ℕ) → is_progression_item (slice_get w.items item) ≡ false → (os : List ℕ) → All (HasWorld slots w) os → flat_map (owner_numbers slots item) os ≡ []
idle_owners slots w item e [] all = refl
idle_owners slots w item e (o ∷ os) all =
    ap₂ (λ (xs ys : List ℕ). xs ++ ys) (idle_owner w item e (slot_at slots o) (all 0 o (omega arith))) (idle_owners slots w item e os (λ k d h. all (suc k) d (omega (arith, h))))
