-- Of each progression item, the copies that rules ask for are as many as the pools have and, for
-- each owner, the links.
use Rattle.std.proofs.Common.{◌≡◌, ℕ, zero, suc, ◌+◌, ◌*◌, ◌<◌, ◌≤◌, Bool, true, false, cond, List, [], ◌∷◌, Option, Some, None, length, get_or, All, refl, sym, ap, ap₂, subst, ◌∙◌, inl, inr, arith}
use Rattle.std.specs.Prelude.{flat_map, is_some, replicate, slice_get, sum_by, ◌==◌, if◌then◌else◌}
use Rattle.std.proofs.Math.Nat.{mul-add}
use Rattle.std.proofs.lemmas.Bool.{false≢true, cases_Bool}
use Rattle.std.proofs.lemmas.Bool.Decides.{Decides-eqb}
use Rattle.std.proofs.lemmas.List.Concat.{flat_map-cons}
use Rattle.std.proofs.lemmas.List.Folds.{sum_by-replicate}
use Rattle.std.proofs.lemmas.List.Sums.{sum_by-cons}
use Rattle.mw_multi.specs.World.{World, Item, PoolEntry}
use Rattle.mw_multi.specs.RulesKept.{is_progression_item}
use Rattle.mw_multi.specs.Joint.{Slot, Link, Joint, SlotKept, CopiesKept, LinkKept, IsJoint, AreNumbered, HasWorld, world_of, first_slot, slot_at, slot_items, slot_places}
use Rattle.mw_multi.specs.WorldKept.{has_id}
use Rattle.mw_multi.specs.Bags.{entry_count, entries_count, slot_pool, pool_count, owned_count, member_count, link_count, links_count, everything}
use Rattle.mw_multi.specs.Numbered.{each_numbered}
use Rattle.mw_multi.specs.Placement.{owners, numbers_in, numbers_of, owner_numbers}
use Rattle.mw_multi.proofs.Sites.{get_some}
use Rattle.mw_reach.specs.Reach.{times_in}
use Rattle.mw_reach.proofs.Items.{times_in-append}
use Rattle.mw_reach.proofs.Alike.{SlotAlike}
use Rattle.mw_fill.specs.declared.group.Group.TheVariants.{Asked}
use Rattle.mw_fill.specs.Copies.{ItemCopy, item_is_of, copy_of, entry_copies, slot_copies, shared_copy, shared_copies, link_copies, has_others, copies_of, copy_numbers, copies_count}
use Rattle.mw_fill.specs.Fill.{in_hand}
use Rattle.mw_fill.proofs.Owning.{count_append, count_each}
use Rattle.mw_fill.proofs.Making.{numbers_are, asked_is}
use Rattle.mw_fill.proofs.Links.{at_index, index_within, found_there, owners_of_link, link_kept}
use Rattle.mw_fill.proofs.Pools.{some_item, item_within, progression_there}

-- ---- numbers of items

first_above : (place item : ℕ) (slots : List Slot) (k : ℕ) (d : Slot) → AreNumbered place item slots → k < length slots → item ≤ (get_or slots k d).first_item
first_above place item [] k d n h = absurd (omega arith)
first_above place item (s ∷ slots) zero d n h = omega (arith, n.1)
first_above place item (s ∷ slots) (suc k) d n h = omega (arith, first_above (place + slot_places s) (item + slot_items s) slots k d n.2 (omega (arith, h)))

-- two items of one number are one item
one_item : (place item : ℕ) (slots : List Slot) (j k : ℕ) (d : Slot) (x y : ℕ) → AreNumbered place item slots → j < length slots → k < length slots
    → x < slot_items (get_or slots j d) → y < slot_items (get_or slots k d) → (get_or slots j d).first_item + x ≡ (get_or slots k d).first_item + y → (j ≡ k) × (x ≡ y)
one_item place item [] j k d x y n hj hk hx hy e = absurd (omega arith)
one_item place item (s ∷ slots) zero zero d x y n hj hk hx hy e = (refl, omega (arith, e))
one_item place item (s ∷ slots) zero (suc k) d x y n hj hk hx hy e = absurd (omega (arith, n.1, e, hx, first_above (place + slot_places s) (item + slot_items s) slots k d n.2 (omega (arith, hk))))
one_item place item (s ∷ slots) (suc j) zero d x y n hj hk hx hy e = absurd (omega (arith, n.1, e, hy, first_above (place + slot_places s) (item + slot_items s) slots j d n.2 (omega (arith, hj))))
one_item place item (s ∷ slots) (suc j) (suc k) d x y n hj hk hx hy e =
    let later = one_item (place + slot_places s) (item + slot_items s) slots j k d x y n.2 (omega (arith, hj)) (omega (arith, hk)) hx hy e in
    (omega (arith, later.0), later.1)

-- ---- counts

times : (here : Bool) (m : ℕ) → m * cond here 1 0 ≡ (if here then m else 0)
times true m = omega arith
times false m = omega arith

-- where the entry's item has the number, rules ask for it
abbrev pub IsAskedAt : ℕ → Slot → PoolEntry → Type 0
IsAskedAt n s e = s.first_item + e.item ≡ n → item_is_of Asked (slice_get s.world.items e.item) ≡ true

count_numbered : {A : Type 0} (joint : Joint) (n : ℕ) (f : ℕ → A → List ItemCopy) (size : A → ℕ) (number : ℕ) (xs : List A) → ((k : ℕ) (x : A) → k < length xs → x ≡ get_or xs k x → copies_count joint (f (number + k) x) n ≡ size x)
    → copies_count joint (each_numbered f number xs) n ≡ sum_by size xs
count_numbered joint n f size number [] h = refl
count_numbered joint n f size number (x ∷ xs) h =
    let here : copies_count joint (f number x) n ≡ size x = (let at : number + 0 ≡ number = omega arith in subst (λ m. copies_count joint (f m x) n ≡ size x) at (h 0 x (omega arith) refl)) in
    let later =
    count_numbered joint n f size (suc number) xs (λ k y l e. let at : number + suc k ≡ suc number + k = omega arith in subst (λ m. copies_count joint (f m y) n ≡ size y) at (h (suc k) y (omega arith) e)) in
    count_append joint (f number x) (each_numbered f (suc number) xs) n ∙ ap₂ ◌+◌ here later ∙ sym (sum_by-cons size x xs)

-- ---- of a slot

module _ (joint : Joint) (many : Bool) (n : ℕ) where
  entry_at : (asked here : Bool) (m : ℕ) (copy : ItemCopy) → (asked ≡ true → times_in n (copy_numbers joint copy) ≡ cond here 1 0) → (here ≡ true → asked ≡ true)
      → copies_count joint (if asked then replicate m copy else []) n ≡ (if here then m else 0)
  entry_at true here m copy one h =
      count_each joint (replicate m copy) n ∙ sum_by-replicate (λ c. times_in n (copy_numbers joint c)) m copy ∙ ap (λ k. m * k) (one refl) ∙ times here m
  entry_at false true m copy one h = absurd (false≢true (h refl))
  entry_at false false m copy one h = refl

  -- a copy that rules ask for counts for its own item
  one_of : (number : ℕ) (s : Slot) (item : ℕ) → slot_at joint.slots number ≡ Some s → item_is_of Asked (slice_get s.world.items item) ≡ true → times_in n (copy_numbers joint (copy_of many number s item)) ≡ cond ((s.first_item + item) == n) 1 0
  one_of number s item there asked = ap (times_in n) (numbers_are joint number item s true there (asked_is (slice_get s.world.items item) asked)) ∙ omega arith

  pool_counted : (number : ℕ) (s : Slot) → slot_at joint.slots number ≡ Some s → (pool : List PoolEntry) → All (IsAskedAt n s) pool → copies_count joint (flat_map (entry_copies Asked many number s) pool) n ≡ entries_count s.first_item pool n
  pool_counted number s there [] all = refl
  pool_counted number s there (e ∷ pool) all =
      let here : copies_count joint (entry_copies Asked many number s e) n ≡ entry_count s.first_item n e =
      entry_at (item_is_of Asked (slice_get s.world.items e.item)) ((s.first_item + e.item) == n) e.count (copy_of many number s e.item) (one_of number s e.item there)
      (λ same. all 0 e (omega arith) ((Decides-eqb (s.first_item + e.item) n).0 same)) in
      ap (λ cs. copies_count joint cs n) (flat_map-cons (entry_copies Asked many number s) e pool) ∙ count_append joint (entry_copies Asked many number s e) (flat_map (entry_copies Asked many number s) pool) n
      ∙ ap₂ ◌+◌ here (pool_counted number s there pool (λ k d h. all (suc k) d (omega (arith, h)))) ∙ sym (sum_by-cons (entry_count s.first_item n) e pool)

-- ---- of a link

-- what an entry counts for one of its owners
abbrev owned_entry : ℕ → PoolEntry → Option Slot → ℕ
owned_entry n e None = 0
owned_entry n e (Some s) = entry_count s.first_item n e

-- the same by the owner's number
abbrev owner_entry : List Slot → ℕ → PoolEntry → ℕ → ℕ
owner_entry slots n e owner = owned_entry n e (slot_at slots owner)

owned_more : (n : ℕ) (e : PoolEntry) (entries : List PoolEntry) (o : Option Slot) → owned_count n (e ∷ entries) o ≡ owned_entry n e o + owned_count n entries o
owned_more n e entries None = refl
owned_more n e entries (Some s) = sum_by-cons (entry_count s.first_item n) e entries

owners_more : (slots : List Slot) (n : ℕ) (e : PoolEntry) (entries : List PoolEntry) (os : List ℕ) → sum_by (member_count slots n (e ∷ entries)) os ≡ sum_by (owner_entry slots n e) os + sum_by (member_count slots n entries) os
owners_more slots n e entries [] = refl
owners_more slots n e entries (o ∷ os) =
    omega (
      arith,
      sum_by-cons (member_count slots n (e ∷ entries)) o os,
      sum_by-cons (owner_entry slots n e) o os,
      sum_by-cons (member_count slots n entries) o os,
      owned_more n e entries (slot_at slots o),
      owners_more slots n e entries os,
    )

owned_nothing : (n : ℕ) (o : Option Slot) → owned_count n [] o ≡ 0
owned_nothing n None = refl
owned_nothing n (Some s) = refl

owners_nothing : (slots : List Slot) (n : ℕ) (os : List ℕ) → sum_by (member_count slots n []) os ≡ 0
owners_nothing slots n [] = refl
owners_nothing slots n (o ∷ os) = omega (arith, sum_by-cons (member_count slots n []) o os, owned_nothing n (slot_at slots o), owners_nothing slots n os)

module _ (joint : Joint) (w : World) (n : ℕ) where
  -- the item has this number for the owner only where rules ask for it
  abbrev AreAskedFor : PoolEntry → ℕ → Type 0
  AreAskedFor e owner = (s : Slot) → slot_at joint.slots owner ≡ Some s → IsAskedAt n s e

  same_item : (s : Slot) (item : ℕ) → s.world ≡ w → item_is_of Asked (slice_get s.world.items item) ≡ item_is_of Asked (slice_get w.items item)
  same_item s item same = ap (λ (v : World). item_is_of Asked (slice_get v.items item)) same

  asked_owner : (e : PoolEntry) (o : Option Slot) → item_is_of Asked (slice_get w.items e.item) ≡ true → world_of o ≡ w → e.count * times_in n (numbers_of o e.item) ≡ owned_entry n e o
  asked_owner e None asked same = omega arith
  asked_owner e (Some s) asked same =
      let progression : is_progression_item (slice_get s.world.items e.item) ≡ true = asked_is (slice_get s.world.items e.item) (same_item s e.item same ∙ asked) in
      let one : times_in n (numbers_in e.item s) ≡ cond ((s.first_item + e.item) == n) 1 0 = ap (λ b. times_in n (if b then (s.first_item + e.item) ∷ [] else [])) progression ∙ omega arith in
      ap (λ k. e.count * k) one ∙ times ((s.first_item + e.item) == n) e.count

  asked_owners : (e : PoolEntry) → item_is_of Asked (slice_get w.items e.item) ≡ true → (os : List ℕ) → All (HasWorld joint.slots w) os → e.count * times_in n (flat_map (owner_numbers joint.slots e.item) os) ≡ sum_by (owner_entry joint.slots n e) os
  asked_owners e asked [] all = omega arith
  asked_owners e asked (o ∷ os) all =
      let own = owner_numbers joint.slots e.item o in
      let rest = flat_map (owner_numbers joint.slots e.item) os in
      ap (λ k. e.count * k) (times_in-append n own rest) ∙ mul-add e.count (times_in n own) (times_in n rest)
      ∙ ap₂ ◌+◌ (asked_owner e (slot_at joint.slots o) asked (all 0 o (omega arith))) (asked_owners e asked os (λ k d h. all (suc k) d (omega (arith, h)))) ∙ sym (sum_by-cons (owner_entry joint.slots n e) o os)

  other_owner : (e : PoolEntry) (o : Option Slot) → item_is_of Asked (slice_get w.items e.item) ≡ false → world_of o ≡ w → ((s : Slot) → o ≡ Some s → IsAskedAt n s e) → owned_entry n e o ≡ 0
  other_owner e None other same asked = refl
  other_owner e (Some s) other same asked = elim (cases_Bool ((s.first_item + e.item) == n)) [
    | inl here ↦ absurd (false≢true (sym other ∙ sym (same_item s e.item same) ∙ asked s refl ((Decides-eqb (s.first_item + e.item) n).0 here)))
    | inr past ↦ ap (λ b. if b then e.count else 0) past
  ]

  other_owners : (e : PoolEntry) → item_is_of Asked (slice_get w.items e.item) ≡ false → (os : List ℕ) → All (HasWorld joint.slots w) os → All (AreAskedFor e) os → sum_by (owner_entry joint.slots n e) os ≡ 0
  other_owners e other [] all asked = refl
  other_owners e other (o ∷ os) all asked =
      omega (
        arith,
        sum_by-cons (owner_entry joint.slots n e) o os,
        other_owner e (slot_at joint.slots o) other (all 0 o (omega arith)) (asked 0 o (omega arith)),
        other_owners e other os (λ k d h. all (suc k) d (omega (arith, h))) (λ k d h. asked (suc k) d (omega (arith, h))),
      )

  module _ (number : ℕ) (os : List ℕ) (owned : owners joint number ≡ os) (all : All (HasWorld joint.slots w) os) where
    entry_counted : (e : PoolEntry) (asked : Bool) → item_is_of Asked (slice_get w.items e.item) ≡ asked → All (AreAskedFor e) os
        → copies_count joint (if asked then replicate e.count (shared_copy number e.item) else []) n ≡ sum_by (owner_entry joint.slots n e) os
    entry_counted e true is asked =
        let copy = shared_copy number e.item in
        count_each joint (replicate e.count copy) n ∙ sum_by-replicate (λ c. times_in n (copy_numbers joint c)) e.count copy
        ∙ ap (λ rs. e.count * times_in n (flat_map (owner_numbers joint.slots e.item) rs)) owned ∙ asked_owners e is os all
    entry_counted e false is asked = sym (other_owners e is os all asked)

    link_counted : (entries : List PoolEntry) → All (λ e. All (AreAskedFor e) os) entries → copies_count joint (flat_map (shared_copies Asked w.items number) entries) n ≡ sum_by (member_count joint.slots n entries) os
    link_counted [] asked = sym (owners_nothing joint.slots n os)
    link_counted (e ∷ entries) asked =
        let own = shared_copies Asked w.items number in
        ap (λ cs. copies_count joint cs n) (flat_map-cons own e entries) ∙ count_append joint (own e) (flat_map own entries) n
        ∙ ap₂ ◌+◌ (entry_counted e (item_is_of Asked (slice_get w.items e.item)) refl (asked 0 e (omega arith))) (link_counted entries (λ k d h. asked (suc k) d (omega (arith, h))))
        ∙ sym (owners_more joint.slots n e entries os)

-- ---- everything in hand

asked_back : (o : Option Item) → is_progression_item o ≡ true → item_is_of Asked o ≡ true
asked_back (Some i) e = e
asked_back None e = cc

module _ (joint : Joint) (kept : IsJoint joint) (k i : ℕ) (d : Slot) (h : k < length joint.slots) (asked : is_progression_item (slice_get (get_or joint.slots k d).world.items i) ≡ true) where
  abbrev number_here : ℕ
  number_here = (get_or joint.slots k d).first_item + i

  -- an item of this number is this item
  asked_at : (j : ℕ) (s : Slot) → slice_get joint.slots j ≡ Some s → (e : PoolEntry) → is_some (slice_get s.world.items e.item) ≡ true → IsAskedAt number_here s e
  asked_at j s there e some = λ same.
      let slots = joint.slots in
      let is : get_or slots j d ≡ s = found_there slots j s d there in
      let here : e.item < slot_items (get_or slots j d) = subst (λ (t : Slot). e.item < slot_items t) (sym is) (item_within s.world.items e.item some) in
      let inside : i < slot_items (get_or slots k d) = item_within (get_or slots k d).world.items i (progression_there (slice_get (get_or slots k d).world.items i) asked) in
      let equal : (get_or slots j d).first_item + e.item ≡ (get_or slots k d).first_item + i = ap (λ (t : Slot). t.first_item + e.item) is ∙ same in
      let one = one_item 0 0 slots j k d e.item i kept.numbered (index_within slots j s there) h here inside equal in
      subst (λ (t : Slot). item_is_of Asked (slice_get t.world.items e.item) ≡ true) is
      (subst (λ m. item_is_of Asked (slice_get (get_or slots m d).world.items e.item) ≡ true) (sym one.0)
      (subst (λ m. item_is_of Asked (slice_get (get_or slots k d).world.items m) ≡ true) (sym one.1) (asked_back (slice_get (get_or slots k d).world.items i) asked)))

  slot_part : (j : ℕ) (s : Slot) → slice_get joint.slots j ≡ Some s → copies_count joint (slot_copies Asked (has_others joint) (suc j) s) number_here ≡ slot_pool number_here s
  slot_part j s there =
      pool_counted joint (has_others joint) number_here (suc j) s there s.pool
      (λ m e l. asked_at j s there (get_or s.pool m e) (some_item (slice_get s.world.items (get_or s.pool m e).item) ((at_index SlotKept joint.slots j s kept.each there).pool.each m e l).item))

  of_member : (l : Link) → LinkKept joint.slots l → (e : PoolEntry) → CopiesKept (world_of (first_slot joint.slots l.members)).items e → (owner : ℕ) → HasWorld joint.slots (world_of (first_slot joint.slots l.members)) owner
      → (s : Slot) → slot_at joint.slots owner ≡ Some s → IsAskedAt number_here s e
  of_member l link e entry zero same s there = cc
  of_member l link e entry (suc j) same s there =
      let own : s.world ≡ world_of (first_slot joint.slots l.members) = sym (ap world_of there) ∙ same in
      asked_at j s there e (some_item (slice_get s.world.items e.item) (subst (λ (v : World). has_id (slice_get v.items e.item) ≡ true) (sym own) entry.item))

  link_part : (j : ℕ) (l : Link) → slice_get joint.links j ≡ Some l → copies_count joint (link_copies Asked joint.slots (suc (length joint.slots) + j) l) number_here ≡ link_count joint.slots number_here l
  link_part j l there =
      let link = link_kept joint kept j l there in
      link_counted joint (world_of (first_slot joint.slots l.members)) number_here (suc (length joint.slots) + j) l.members (owners_of_link joint j l there) link.world l.copies
      (λ m e inside. λ p owner within. of_member l link (get_or l.copies m e) (link.copies m e inside) (get_or l.members p owner) (link.world p owner within))

  counted : everything joint number_here ≡ in_hand joint (copies_of Asked joint) number_here
  counted =
      let many = has_others joint in
      let n = number_here in
      let slots = each_numbered (slot_copies Asked many) 1 joint.slots in
      let links = each_numbered (link_copies Asked joint.slots) (suc (length joint.slots)) joint.links in
      let of_slots : copies_count joint slots n ≡ pool_count joint.slots n =
      count_numbered joint n (slot_copies Asked many) (slot_pool n) 1 joint.slots
      (λ j s l e. let at : suc j ≡ 1 + j = omega arith in subst (λ m. copies_count joint (slot_copies Asked many m s) n ≡ slot_pool n s) at (slot_part j s (get_some joint.slots j s l ∙ ap Some (sym e)))) in
      let of_links : copies_count joint links n ≡ links_count joint n =
      count_numbered joint n (link_copies Asked joint.slots) (link_count joint.slots n) (suc (length joint.slots)) joint.links (λ j l h e. link_part j l (get_some joint.links j l h ∙ ap Some (sym e))) in
      omega (arith, count_append joint slots links n, of_slots, of_links)

pub hands_alike : (joint : Joint) → IsJoint joint → All (SlotAlike (everything joint) (in_hand joint (copies_of Asked joint))) joint.slots
hands_alike joint kept = λ k d h i asked. counted joint kept k i d h asked
