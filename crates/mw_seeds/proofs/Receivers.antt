-- A receiver's first owner, and its items among those of all receivers.
use Rattle.std.proofs.Common.{◌≡◌, ◌≤◌, ◌<◌, ◌-◌, ℕ, zero, suc, List, [], ◌∷◌, ◌++◌, Bool, true, false, Option, Some, None, inl, inr, length, map, option_map, slice_get, refl, sym, ap, ◌∙◌, arith}
use Rattle.std.specs.Prelude.{All, nat_le, if◌then◌else◌}
use Rattle.std.proofs.lemmas.Bool.{cases_lt}
use Rattle.std.proofs.lemmas.List.{length-map}
use Rattle.mw_multi.specs.PlayersKept.{IsSlotNumber}
use Rattle.mw_multi.specs.Joint.{Slot, Link, Joint, IsJoint, LinkKept, slot_at, world_of, first_slot}
use Rattle.mw_multi.specs.Placement.{members_of, owners}
use Rattle.mw_multi.proofs.Owners.{owners_within}
use Rattle.mw_seeds.specs.Agreeing.{first_owner, slot_items}
use Rattle.mw_seeds.specs.FilePuts.{catalog_at, link_items, receiver_items}
use Rattle.mw_seeds.proofs.Elements.{holds_at, get_mapped}

-- ---- owners

others_where : (b : Bool) (number : ℕ) (others : List ℕ) → b ≡ false → (if b then number ∷ [] else others) ≡ others
others_where true number others e = cc
others_where false number others e = refl

pub owners_past : (joint : Joint) (number : ℕ) → length joint.slots < number → owners joint number ≡ members_of (slice_get joint.links (number - suc (length joint.slots)))
owners_past joint number h =
    others_where (nat_le number (length joint.slots)) number (members_of (slice_get joint.links (number - suc (length joint.slots)))) (grind (arith, h))

first_holds : (P : Slot → Type 0) (slots : List Slot) (ms : List ℕ) (s : Slot) → All P slots → first_slot slots ms ≡ Some s → P s
first_holds P slots [] s h e = cc
first_holds P slots (zero ∷ ms) s h e = cc
first_holds P slots (suc k ∷ ms) s h e = holds_at P slots k s h e

-- what holds of each slot holds of the first owner
pub owner_holds : (P : Slot → Type 0) (joint : Joint) (receiver : ℕ) (s : Slot) → All P joint.slots → first_owner joint receiver ≡ Some s → P s
owner_holds P joint receiver s h e = first_holds P joint.slots (owners joint receiver) s h e

-- a slot is its own first owner
pub own_owner : (joint : Joint) (number : ℕ) → number ≤ length joint.slots → first_owner joint number ≡ slot_at joint.slots number
own_owner joint number h = ap (first_slot joint.slots) (owners_within joint number h)

slot_within : (slots : List Slot) (number : ℕ) (s : Slot) → slot_at slots number ≡ Some s → number ≤ length slots
slot_within slots zero s e = cc
slot_within [] (suc k) s e = cc
slot_within (t ∷ slots) (suc zero) s e = omega arith
slot_within (t ∷ slots) (suc (suc k)) s e = let later = slot_within slots (suc k) s e in omega arith

pub owner_is : (joint : Joint) (number : ℕ) (s : Slot) → slot_at joint.slots number ≡ Some s → first_owner joint number ≡ Some s
owner_is joint number s e = own_owner joint number (slot_within joint.slots number s e) ∙ e

-- ---- links

pub slot_there : (slots : List Slot) (number : ℕ) → 1 ≤ number → number ≤ length slots → (s : Slot) × (slot_at slots number ≡ Some s)
slot_there slots zero low high = absurd (omega (arith, low))
slot_there [] (suc k) low high = absurd (omega (arith, high))
slot_there (s ∷ slots) (suc zero) low high = (s, refl)
slot_there (s ∷ slots) (suc (suc k)) low high = slot_there slots (suc k) (omega arith) (omega (arith, high))

first_there : (slots : List Slot) (ms : List ℕ) → 2 ≤ length ms → All (IsSlotNumber (length slots)) ms → (s : Slot) × (first_slot slots ms ≡ Some s)
first_there slots [] h each = absurd (omega (arith, h))
first_there slots (m ∷ ms) h each =
    let number : IsSlotNumber (length slots) m = each 0 m (omega arith) in
    slot_there slots m number.low number.high

-- a link has a first member
pub link_owner : (slots : List Slot) (l : Link) → LinkKept slots l → (s : Slot) × (first_slot slots l.members ≡ Some s)
link_owner slots l kept = first_there slots l.members kept.several kept.members

of_link : (slots : List Slot) (o : Option Link) → ((l : Link) → o ≡ Some l → LinkKept slots l) → option_map (link_items slots) o ≡ option_map slot_items (first_slot slots (members_of o))
of_link slots None h = refl
of_link slots (Some l) h =
    let first = link_owner slots l (h l refl) in
    ap (λ o. Some (world_of o).items) first.1 ∙ sym (ap (option_map slot_items) first.1)

-- ---- items

get_front : {A : Type 0} (xs ys : List A) (k : ℕ) → k < length xs → slice_get (xs ++ ys) k ≡ slice_get xs k
get_front [] ys k h = absurd (omega (arith, h))
get_front (x ∷ xs) ys zero h = refl
get_front (x ∷ xs) ys (suc k) h = get_front xs ys k (omega (arith, h))

get_back : {A : Type 0} (xs ys : List A) (k : ℕ) → length xs ≤ k → slice_get (xs ++ ys) k ≡ slice_get ys (k - length xs)
get_back {A = A} [] ys k h =
    let none : List A = [] in
    let at : k ≡ k - length none = omega arith in
    ap (slice_get ys) at
get_back (x ∷ xs) ys zero h = absurd (omega (arith, h))
get_back (x ∷ xs) ys (suc k) h =
    let at : k - length xs ≡ suc k - length (x ∷ xs) = omega arith in
    get_back xs ys k (omega (arith, h)) ∙ ap (slice_get ys) at

-- the items for a receiver are those of its first owner's world
pub catalog_is : (joint : Joint) → IsJoint joint → (receiver : ℕ) → catalog_at (receiver_items joint) receiver ≡ option_map slot_items (first_owner joint receiver)
catalog_is joint kept zero = sym (ap (option_map slot_items) (own_owner joint zero (omega arith)))
catalog_is joint kept (suc before) =
    let slots = joint.slots in
    let own = map slot_items slots in
    let shared = map (link_items slots) joint.links in
    let many : length own ≡ length slots = length-map slots slot_items in
    let k = suc before - suc (length slots) in
    elim (cases_lt before (length slots)) [
      | inl inside ↦
          get_front own shared before (omega (arith, inside, many)) ∙ get_mapped slot_items slots before
          ∙ sym (ap (option_map slot_items) (own_owner joint (suc before) (omega (arith, inside))))
      | inr past ↦
          let at : before - length own ≡ k = omega (arith, many) in
          get_back own shared before (omega (arith, past, many)) ∙ ap (slice_get shared) at ∙ get_mapped (link_items slots) joint.links k
          ∙ of_link slots (slice_get joint.links k) (λ l e. holds_at (LinkKept slots) joint.links k l kept.links e)
          ∙ sym (ap (λ os. option_map slot_items (first_slot slots os)) (owners_past joint (suc before) (omega (arith, past))))
    ]
