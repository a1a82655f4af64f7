-- The groups that links make keep the rules of groups.
use Rattle.std.proofs.Common.{◌≡◌, ◌<◌, ◌+◌, ℕ, zero, suc, List, [], ◌∷◌, true, Some, Less, nat_cmp, length, map, option_map, slice_get, get_or, refl, sym, ap, subst, ◌∙◌, arith}
use Rattle.std.specs.Prelude.{All, is_some}
use Rattle.std.specs.List.Sorted.{IsStrictlyIncreasing}
use Rattle.std.proofs.lemmas.List.Elements.{All-nil, All-cons, All-head, All-tail}
use Rattle.std.proofs.lemmas.Slice.Eq.{bytes_eq-Decides}
use Rattle.mw_model.specs.Ascending.{Ascend, ComesBefore}
use Rattle.mw_model.specs.Seed.{Seed, slot_of}
use Rattle.mw_multi.specs.World.{World}
use Rattle.mw_multi.specs.Names.{IsName}
use Rattle.mw_multi.specs.PlayersKept.{IsSlotNumber}
use Rattle.mw_multi.specs.Joint.{Slot, Link, Joint, LinkKept, HasWorld, slot_at, world_of, first_slot}
use Rattle.mw_multidata.specs.Names.{plays_game, find_game, group_name}
use Rattle.mw_multidata.specs.SeedKept.{GroupKept}
use Rattle.mw_seeds.specs.SeedFile.{file_slot, file_group}
use Rattle.mw_seeds.proofs.Elements.{holds_at, get_mapped}
use Rattle.mw_seeds.proofs.JointFacts.{joined_name}
use Rattle.mw_seeds.proofs.Receivers.{slot_there, link_owner}
use Rattle.mw_seeds.proofs.SeedPlays.{IsFound}
use Rattle.mw_seeds.proofs.SeedTables.{name_kept}

-- ---- members

lower_all : (m n : ℕ) (ms : List ℕ) → m < n → ComesBefore nat_cmp n ms → ComesBefore nat_cmp m ms
lower_all m n [] h c = tt
lower_all m n (x ∷ ms) h c =
    let below : m < x = grind (arith, h, c.0) in
    let first : nat_cmp m x ≡ Less = grind (arith, below) in
    (first, lower_all m n ms h c.1)

rest_rises : (m : ℕ) (ms : List ℕ) → IsStrictlyIncreasing (m ∷ ms) → IsStrictlyIncreasing ms
rest_rises m ms rise k h =
    let next : suc k + 1 ≡ suc (k + 1) = omega arith in
    subst (λ n. get_or (m ∷ ms) (suc k) 0 < get_or (m ∷ ms) n 0) next (rise (suc k) (omega (arith, h)))

before_all : (m : ℕ) (ms : List ℕ) → IsStrictlyIncreasing (m ∷ ms) → Ascend nat_cmp ms → ComesBefore nat_cmp m ms
before_all m [] rise a = tt
before_all m (n ∷ ms) rise a =
    let below : m < n = rise 0 (omega arith) in
    let first : nat_cmp m n ≡ Less = grind (arith, below) in
    (first, lower_all m n ms below a.0)

members_ascend : (ms : List ℕ) → IsStrictlyIncreasing ms → Ascend nat_cmp ms
members_ascend [] rise = tt
members_ascend (m ∷ ms) rise =
    let later = members_ascend ms (rest_rises m ms rise) in
    (before_all m ms rise later, later)

-- ---- one group

module _ (seed : Seed) (joint : Joint) (same : seed.slots ≡ map file_slot joint.slots) (found : All (IsFound seed.games) joint.slots) where
  file_slot_at : (n : ℕ) (s : Slot) → slot_at joint.slots n ≡ Some s → slot_of seed n ≡ Some (file_slot s)
  file_slot_at zero s e = cc
  file_slot_at (suc k) s e = ap (λ ss. slice_get ss k) same ∙ get_mapped file_slot joint.slots k ∙ ap (option_map file_slot) e

  plays_it : (n : ℕ) (w : World) → IsSlotNumber (length joint.slots) n → HasWorld joint.slots w n → plays_game (slot_of seed n) w.game ≡ true
  plays_it n w number world =
      let there = slot_there joint.slots n number.low number.high in
      let own : there.0.world ≡ w = sym (ap world_of there.1) ∙ world in
      ap (λ o. plays_game o w.game) (file_slot_at n there.0 there.1) ∙ (bytes_eq-Decides there.0.world.game w.game).1 (ap (λ (v : World). v.game) own)

  found_at : (n : ℕ) (s : Slot) → slot_at joint.slots n ≡ Some s → IsFound seed.games s
  found_at zero s e = cc
  found_at (suc k) s e = holds_at (IsFound seed.games) joint.slots k s found e

  found_first : (ms : List ℕ) (s : Slot) → first_slot joint.slots ms ≡ Some s → IsFound seed.games s
  found_first [] s e = cc
  found_first (m ∷ ms) s e = found_at m s e

  group_good : (l : Link) → LinkKept joint.slots l → IsName 16 l.name → GroupKept seed (file_group joint.slots l)
  group_good l kept named =
      let first = link_owner joint.slots l kept in
      let w = world_of (first_slot joint.slots l.members) in
      let game = found_first l.members first.0 first.1 in
      record {
        name = name_kept 16 l.name named;
        game = ap (λ o. is_some (find_game seed.games (world_of o).game)) first.1 ∙ ap is_some game.1;
        some = kept.several;
        each = λ k d h. plays_it (get_or l.members k d) w (kept.members k d h) (kept.world k d h);
        ascend = members_ascend l.members kept.ascend;
      }

  pub groups_good : (ls : List Link) → All (LinkKept joint.slots) ls → All (λ l. IsName 16 l.name) ls → All (GroupKept seed) (map (file_group joint.slots) ls)
  groups_good [] kept named = All-nil (GroupKept seed)
  groups_good (l ∷ ls) kept named =
      let Named : Link → Type 0 = λ l. IsName 16 l.name in
      All-cons (GroupKept seed) (file_group joint.slots l) (map (file_group joint.slots) ls) (group_good l (All-head (LinkKept joint.slots) l ls kept) (All-head Named l ls named))
      (groups_good ls (All-tail (LinkKept joint.slots) l ls kept) (All-tail Named l ls named))

-- ---- names

pub group_names : (slots : List Slot) (ls : List Link) → map group_name (map (file_group slots) ls) ≡ map joined_name ls
group_names slots [] = refl
group_names slots (l ∷ ls) = ap (λ xs. l.name ∷ xs) (group_names slots ls)
