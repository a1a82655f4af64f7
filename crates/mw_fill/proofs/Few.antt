-- How many copies there are, and how many numbers they have.
use Rattle.std.proofs.Common.{◌≡◌, ℕ, suc, ◌+◌, ◌*◌, ◌<◌, ◌≤◌, Bool, true, false, List, [], ◌∷◌, ◌++◌, Some, All, length, get_or, take, refl, sym, ap, subst, ◌∙◌, arith}
use Rattle.std.specs.Prelude.{flat_map, replicate, slice_get, sum_by, if◌then◌else◌}
use Rattle.std.proofs.Math.Nat.{mul-le-mul_left, mul-le-mul_right}
use Rattle.std.proofs.lemmas.List.{length-append, length-replicate, take_more}
use Rattle.std.proofs.lemmas.List.Concat.{flat_map-append, flat_map-cons, length-flat_map}
use Rattle.std.proofs.lemmas.List.Sums.{sum_by-append, sum_by-cons, sum_by-le, sum_by-take-le}
use Rattle.mw_multi.specs.World.{Item, PoolEntry}
use Rattle.mw_multi.specs.WorldKept.{copies}
use Rattle.mw_multi.specs.Joint as whole
use Rattle.mw_multi.specs.Joint.{Slot, Link, Joint, LinkKept, IsJoint, world_of, first_slot, slot_at}
use Rattle.mw_multi.specs.Numbered.{each_numbered}
use Rattle.mw_multi.specs.Placement.{owners}
use Rattle.mw_multi.proofs.Numbered.{numbered_le}
use Rattle.mw_multi.proofs.Owners.{owners_numbers_le, owners_of_slot}
use Rattle.mw_multi.proofs.Sites.{get_some}
use Rattle.mw_fill.specs.declared.group.Group.{Group}
use Rattle.mw_fill.specs.Copies.{ItemCopy, item_is_of, copy_of, entry_copies, slot_copies, shared_copy, shared_copies, link_copies, has_others, copies_of, copy_numbers, all_numbers}
use Rattle.mw_fill.specs.Generated.{slot_pool_size, link_size}
use Rattle.mw_fill.proofs.Copying.{pool_all, link_all}
use Rattle.mw_fill.proofs.Links.{owners_of_link}

-- ---- how many copies

entry_le : (copy : ItemCopy) (count : ℕ) (here : Bool) → length (if here then replicate count copy else []) ≤ count
entry_le copy count true = omega (arith, length-replicate count copy)
entry_le copy count false = omega arith

pool_le : (group : Group) (many : Bool) (number : ℕ) (s : Slot) (pool : List PoolEntry) → length (flat_map (entry_copies group many number s) pool) ≤ sum_by copies pool
pool_le group many number s [] = omega arith
pool_le group many number s (e ∷ pool) =
    omega (
      arith,
      ap length (flat_map-cons (entry_copies group many number s) e pool),
      length-append (entry_copies group many number s e) (flat_map (entry_copies group many number s) pool),
      sum_by-cons copies e pool,
      entry_le (copy_of many number s e.item) e.count (item_is_of group (slice_get s.world.items e.item)),
      pool_le group many number s pool,
    )

shared_le : (group : Group) (items : List Item) (number : ℕ) (entries : List PoolEntry) → length (flat_map (shared_copies group items number) entries) ≤ sum_by copies entries
shared_le group items number [] = omega arith
shared_le group items number (e ∷ entries) =
    omega (
      arith,
      ap length (flat_map-cons (shared_copies group items number) e entries),
      length-append (shared_copies group items number e) (flat_map (shared_copies group items number) entries),
      sum_by-cons copies e entries,
      entry_le (shared_copy number e.item) e.count (item_is_of group (slice_get items e.item)),
      shared_le group items number entries,
    )

-- no more copies than the owners of a link have together
link_le : (group : Group) (joint : Joint) (kept : IsJoint joint) (number : ℕ) → All (λ l. length (link_copies group joint.slots number l) ≤ whole.link_copies l) joint.links
link_le group joint kept number = λ k d h.
    let l = get_or joint.links k d in
    let some : 1 ≤ length l.members = omega (arith, (kept.links k d h).several) in
    omega (
      arith,
      shared_le group (world_of (first_slot joint.slots l.members)).items number l.copies,
      mul-le-mul_right (sum_by copies l.copies) some,
    )

-- no more copies than the pools may have
pub copies_are_few : (group : Group) (joint : Joint) → IsJoint joint → length (copies_of group joint) ≤ 10240000
copies_are_few group joint kept =
    let many = has_others joint in
    let n = suc (length joint.slots) in
    omega (
      arith,
      length-append (each_numbered (slot_copies group many) 1 joint.slots) (each_numbered (link_copies group joint.slots) n joint.links),
      numbered_le (slot_copies group many) whole.slot_copies 1 joint.slots (λ number k d h. let s = get_or joint.slots k d in pool_le group many number s s.pool),
      numbered_le (link_copies group joint.slots) whole.link_copies n joint.links (link_le group joint kept),
      kept.together,
      kept.few,
    )

-- ---- how many numbers

-- no copy has more numbers than its receiver has owners
numbers_le : (joint : Joint) (copy : ItemCopy) (os : List ℕ) → owners joint copy.receiver ≡ os → length (copy_numbers joint copy) ≤ length os
numbers_le joint copy os is = omega (arith, owners_numbers_le joint.slots copy.item (owners joint copy.receiver), ap length is)

each_le : (joint : Joint) (m : ℕ) (some : List ItemCopy) → All (λ c. length (copy_numbers joint c) ≤ m) some → length (all_numbers joint some) ≤ length some * m
each_le joint m some h = omega (arith, length-flat_map (copy_numbers joint) some, sum_by-le (λ c. length (copy_numbers joint c)) m some h)

slot_numbers : (group : Group) (joint : Joint) (k : ℕ) (s : Slot) → slot_at joint.slots (suc k) ≡ Some s → length (all_numbers joint (slot_copies group (has_others joint) (suc k) s)) ≤ whole.slot_copies s
slot_numbers group joint k s there =
    let many = has_others joint in
    let one : All (λ c. length (copy_numbers joint c) ≤ 1) (slot_copies group many (suc k) s) =
    pool_all (λ c. length (copy_numbers joint c) ≤ 1) group many (suc k) s (λ item e. numbers_le joint (copy_of many (suc k) s item) (suc k ∷ []) (owners_of_slot joint (suc k) s there)) s.pool in
    omega (arith, each_le joint 1 (slot_copies group many (suc k) s) one, pool_le group many (suc k) s s.pool)

link_numbers : (group : Group) (joint : Joint) (k : ℕ) (l : Link) → slice_get joint.links k ≡ Some l → length (all_numbers joint (link_copies group joint.slots (suc (length joint.slots) + k) l)) ≤ whole.link_copies l
link_numbers group joint k l there =
    let number = suc (length joint.slots) + k in
    let items = (world_of (first_slot joint.slots l.members)).items in
    let own = link_copies group joint.slots number l in
    let most = length l.members in
    let each : All (λ c. length (copy_numbers joint c) ≤ most) own =
    link_all (λ c. length (copy_numbers joint c) ≤ most) group items number (λ item e. numbers_le joint (shared_copy number item) l.members (owners_of_link joint k l there)) l.copies in
    omega (arith, each_le joint most own each, mul-le-mul_left most (shared_le group items number l.copies))

-- no more than the sum of what each element gives at most
numbered_numbers : {A : Type 0} (joint : Joint) (f : ℕ → A → List ItemCopy) (size : A → ℕ) (number : ℕ) (xs : List A) → ((k : ℕ) (x : A) → k < length xs → x ≡ get_or xs k x → length (all_numbers joint (f (number + k) x)) ≤ size x)
    → length (all_numbers joint (each_numbered f number xs)) ≤ sum_by size xs
numbered_numbers joint f size number [] h = omega arith
numbered_numbers joint f size number (x ∷ xs) h =
    let here : length (all_numbers joint (f number x)) ≤ size x = (let at : number + 0 ≡ number = omega arith in subst (λ n. length (all_numbers joint (f n x)) ≤ size x) at (h 0 x (omega arith) refl)) in
    let later =
    numbered_numbers joint f size (suc number) xs (λ k y l e. let at : number + suc k ≡ suc number + k = omega arith in subst (λ n. length (all_numbers joint (f n y)) ≤ size y) at (h (suc k) y (omega arith) e)) in
    omega (
      arith,
      ap length (flat_map-append (copy_numbers joint) (f number x) (each_numbered f (suc number) xs)),
      length-append (all_numbers joint (f number x)) (all_numbers joint (each_numbered f (suc number) xs)),
      sum_by-cons size x xs,
      here,
      later,
    )

-- no more numbers than the pools may have copies
pub numbers_are_few : (group : Group) (joint : Joint) → IsJoint joint → length (all_numbers joint (copies_of group joint)) ≤ 10240000
numbers_are_few group joint kept =
    let many = has_others joint in
    let n = suc (length joint.slots) in
    let slots = each_numbered (slot_copies group many) 1 joint.slots in
    let links = each_numbered (link_copies group joint.slots) n joint.links in
    omega (
      arith,
      ap length (flat_map-append (copy_numbers joint) slots links),
      length-append (all_numbers joint slots) (all_numbers joint links),
      numbered_numbers joint (slot_copies group many) whole.slot_copies 1 joint.slots
          (λ k s h e. let at : suc k ≡ 1 + k = omega arith in subst (λ m. length (all_numbers joint (slot_copies group many m s)) ≤ whole.slot_copies s) at (slot_numbers group joint k s (get_some joint.slots k s h ∙ ap Some (sym e)))),
      numbered_numbers joint (link_copies group joint.slots) whole.link_copies n joint.links (λ k l h e. link_numbers group joint k l (get_some joint.links k l h ∙ ap Some (sym e))),
      kept.together,
      kept.few,
    )

-- ---- how many copies pools and links have

-- the first elements and the next one make no more than all
pub one_more : {X : Type 0} (f : X → ℕ) (xs : List X) (i : ℕ) (x : X) → i < length xs → x ≡ get_or xs i x → sum_by f (take i xs) + f x ≤ sum_by f xs
one_more f xs i x within is =
    let front = take i xs in
    let more : take (i + 1) xs ≡ front ++ x ∷ [] = take_more xs i x within ∙ ap (λ y. front ++ y ∷ []) (sym is) in
    omega (arith, ap (sum_by f) more, sum_by-append f front (x ∷ []), sum_by-cons f x [], sum_by-take-le f xs (i + 1))

pub pools_are_few : (joint : Joint) → IsJoint joint → sum_by slot_pool_size joint.slots ≤ 10240000
pools_are_few joint kept = omega (arith, kept.together, kept.few)

sizes_le : (slots : List Slot) (links : List Link) → All (LinkKept slots) links → sum_by link_size links ≤ sum_by whole.link_copies links
sizes_le slots [] each = omega arith
sizes_le slots (l ∷ links) each =
    let some : 1 ≤ length l.members = omega (arith, (each 0 l (omega arith)).several) in
    omega (
      arith,
      sum_by-cons link_size l links,
      sum_by-cons whole.link_copies l links,
      mul-le-mul_right (sum_by copies l.copies) some,
      sizes_le slots links (λ k d h. each (suc k) d (omega (arith, h))),
    )

pub links_are_few : (joint : Joint) → IsJoint joint → sum_by link_size joint.links ≤ 10240000
links_are_few joint kept = omega (arith, sizes_le joint.slots joint.links kept.links, kept.together, kept.few)
