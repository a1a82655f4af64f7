-- What holds of each copy of a group, and of each location with an id.
use Rattle.std.proofs.Common.{◌≡◌, ℕ, zero, suc, ◌+◌, ◌<◌, Bool, true, false, List, [], ◌∷◌, Option, Some, None, All, length, get_or, refl, sym, ap, subst, ◌∙◌, inl, inr, arith, append-nil}
use Rattle.std.specs.Prelude.{flat_map, is_some, slice_get, ◌==◌, ◌||◌, if◌then◌else◌}
use Rattle.std.specs.List.{list_any}
use Rattle.std.proofs.lemmas.Bool.{cases_Bool}
use Rattle.std.proofs.lemmas.Bool.Decides.{Decides-eqb}
use Rattle.std.proofs.lemmas.List.Elements.{All-nil, All-cons}
use Rattle.mw_multi.specs.World.{Item, Location}
use Rattle.mw_multi.specs.WorldKept.{is_filler}
use Rattle.mw_multi.specs.RulesKept.{is_progression_item}
use Rattle.mw_multi.specs.Joint.{Slot, Link, Joint, IsJoint, world_of, first_slot, slot_at}
use Rattle.mw_multi.specs.Placement.{numbers_of, owner_numbers, receiver_numbers, put_numbers}
use Rattle.mw_multi.specs.declared.item.Class.TheVariants.{Progression, Useful, Filler, Trap}
use Rattle.mw_multi.proofs.Owners.{owners_of_slot}
use Rattle.mw_multi.proofs.Sites.{get_some}
use Rattle.mw_fill.specs.declared.group.Group.{Group}
use Rattle.mw_fill.specs.declared.group.Group.TheVariants.{Asked, Helping, Filling}
use Rattle.mw_fill.specs.Copies.{is_of, item_is_of, copies_of}
use Rattle.mw_fill.specs.Openings.{Opening, opening_of, opening_at, slot_openings, openings_of}
use Rattle.mw_fill.specs.Try.{filler_at}
use Rattle.mw_multi.proofs.Numbered.{numbered_all}
use Rattle.mw_fill.proofs.Copying.{copies_all}
use Rattle.mw_fill.proofs.Links.{owners_of_link, link_kept, idle_owners}
use Rattle.mw_fill.proofs.Tidy.{IsIdle, is_opening}

-- ---- copies

pub numbers_are : (joint : Joint) (number item : ℕ) (s : Slot) (asked : Bool) → slot_at joint.slots number ≡ Some s → is_progression_item (slice_get s.world.items item) ≡ asked
    → receiver_numbers joint number item ≡ (if asked then (s.first_item + item) ∷ [] else [])
numbers_are joint number item s asked there is =
    ap (flat_map (owner_numbers joint.slots item)) (owners_of_slot joint number s there) ∙ append-nil (owner_numbers joint.slots item number) ∙ ap (λ o. numbers_of o item) there
    ∙ ap (λ b. if b then (s.first_item + item) ∷ [] else []) is

-- a link's item that no rule asks for
link_idle : (joint : Joint) → IsJoint joint → (k : ℕ) (l : Link) → slice_get joint.links k ≡ Some l → (item : ℕ) → is_progression_item (slice_get (world_of (first_slot joint.slots l.members)).items item) ≡ false
    → receiver_numbers joint (suc (length joint.slots) + k) item ≡ []
link_idle joint kept k l there item e =
    ap (flat_map (owner_numbers joint.slots item)) (owners_of_link joint k l there)
    ∙ idle_owners joint.slots (world_of (first_slot joint.slots l.members)) item e l.members (link_kept joint kept k l there).world

pub asked_is : (o : Option Item) → item_is_of Asked o ≡ true → is_progression_item o ≡ true
asked_is (Some i) e = e
asked_is None e = cc

helping_item : (i : Item) → is_of Helping i.class ≡ true → is_of Asked i.class ≡ false
helping_item i e = elim i.class as (λ c. is_of Helping c ≡ true → is_of Asked c ≡ false) [ Progression ↦ λ h. cc | Useful ↦ λ h. refl | Filler ↦ λ h. refl | Trap ↦ λ h. refl ] e

filling_item : (i : Item) → is_of Filling i.class ≡ true → is_of Asked i.class ≡ false
filling_item i e = elim i.class as (λ c. is_of Filling c ≡ true → is_of Asked c ≡ false) [ Progression ↦ λ h. cc | Useful ↦ λ h. refl | Filler ↦ λ h. refl | Trap ↦ λ h. refl ] e

helping_is : (o : Option Item) → item_is_of Helping o ≡ true → is_progression_item o ≡ false
helping_is (Some i) e = helping_item i e
helping_is None e = cc

filling_is : (o : Option Item) → item_is_of Filling o ≡ true → is_progression_item o ≡ false
filling_is (Some i) e = filling_item i e
filling_is None e = cc

group_idle : (group : Group) → ((o : Option Item) → item_is_of group o ≡ true → is_progression_item o ≡ false) → (joint : Joint) → IsJoint joint → All (IsIdle joint) (copies_of group joint)
group_idle group idle joint kept =
    copies_all (IsIdle joint) group joint (λ k s there item e. record { numbers = numbers_are joint (suc k) item s false there (idle (slice_get s.world.items item) e) })
    (λ k l there item e. record { numbers = link_idle joint kept k l there item (idle (slice_get (world_of (first_slot joint.slots l.members)).items item) e) })

pub helping_idle : (joint : Joint) → IsJoint joint → All (IsIdle joint) (copies_of Helping joint)
helping_idle = group_idle Helping helping_is

pub filling_idle : (joint : Joint) → IsJoint joint → All (IsIdle joint) (copies_of Filling joint)
filling_idle = group_idle Filling filling_is

-- ---- locations

module _ (P : Opening → Type 0) (number : ℕ) (s : Slot) (each : (index : ℕ) (l : Location) → P (opening_of number s index l)) where
  location_all : (index : ℕ) (l : Location) (b : Bool) → All P (if b then opening_of number s index l ∷ [] else [])
  location_all index l true = All-cons P (opening_of number s index l) [] (each index l) (All-nil P)
  location_all index l false = All-nil P

  slot_all : All P (slot_openings number s)
  slot_all = numbered_all P (opening_at number s) 0 s.world.locations (λ i l inside e. location_all (0 + i) l (is_some l.id))

pub openings_all : (P : Opening → Type 0) (joint : Joint) → ((k : ℕ) (s : Slot) → k < length joint.slots → s ≡ get_or joint.slots k s → (index : ℕ) (l : Location) → P (opening_of (suc k) s index l)) → All P (openings_of joint)
openings_all P joint each =
    numbered_all P slot_openings 1 joint.slots (λ k s l e. let at : suc k ≡ 1 + k = omega arith in subst (λ n. All P (slot_openings n s)) at (slot_all P (suc k) s (each k s l e)))

filler_item : (i : Item) → is_filler (Some i) ≡ true → is_of Asked i.class ≡ false
filler_item i e = elim i.class as (λ c. is_filler (Some record i { class = c }) ≡ true → is_of Asked c ≡ false) [ Progression ↦ λ h. cc | Useful ↦ λ h. refl | Filler ↦ λ h. refl | Trap ↦ λ h. refl ] e

filler_is : (o : Option Item) → is_filler o ≡ true → is_progression_item o ≡ false
filler_is (Some i) e = filler_item i e
filler_is None e = cc

pub fillers_idle : (joint : Joint) → IsJoint joint → All (λ s. put_numbers joint (filler_at s) ≡ []) (openings_of joint)
fillers_idle joint kept =
    openings_all (λ s. put_numbers joint (filler_at s) ≡ []) joint
    (λ k s within is index l.
    numbers_are joint (suc k) s.world.filler s false (get_some joint.slots k s within ∙ ap Some (sym is))
    (filler_is (slice_get s.world.items s.world.filler) (subst (λ (t : Slot). is_filler (slice_get t.world.items t.world.filler) ≡ true) (sym is) (kept.each k s within).world.filler.class)))

any_at : {X : Type 0} (p : X → Bool) (xs : List X) (k : ℕ) (d : X) → k < length xs → p (get_or xs k d) ≡ true → list_any p xs ≡ true
any_at p [] k d h e = absurd (omega arith)
any_at p (x ∷ xs) zero d h e = ap (λ b. b || list_any p xs) e
any_at p (x ∷ xs) (suc k) d h e = elim (cases_Bool (p x)) [
  | inl here ↦ ap (λ b. b || list_any p xs) here
  | inr past ↦ ap (λ b. b || list_any p xs) past ∙ any_at p xs k d (omega arith) e
]

-- each is at one of their places
pub own_openings : (openings : List Opening) → All (λ s. is_opening openings s.place ≡ true) openings
own_openings openings = λ i d l. any_at (λ s. s.place == (get_or openings i d).place) openings i d l ((Decides-eqb (get_or openings i d).place (get_or openings i d).place).1 refl)
