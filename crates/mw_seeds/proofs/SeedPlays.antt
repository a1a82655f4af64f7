-- The games that the slots of a joint play, and what of them the slots and locations name.
use Rattle.std.proofs.Common.{◌≡◌, ◌≤◌, ◌<◌, ◌+◌, ℕ, ℤ, zero, suc, List, [], ◌∷◌, Bool, true, false, Option, Some, None, length, map, flat_map, replicate, bytes_eq, option_map, slice_get, get_or, sum_by, refl, sym, ap, subst, ◌∙◌, arith, ◌-◌, inl, inr}
use Rattle.std.specs.Prelude.{All, Contains, is_some, nat_le}
use Rattle.std.proofs.lemmas.Bool.{cases_lt}
use Rattle.std.proofs.lemmas.List.{length-append, length-map}
use Rattle.std.proofs.lemmas.List.Elements.{All-nil, All-cons, All-head, All-tail, All-append, Contains-get_or}
use Rattle.std.proofs.lemmas.List.Sums.{sum_by-cons}
use Rattle.std.proofs.lemmas.Slice.Eq.{bytes_eq-Decides}
use Rattle.mw_model.specs.Seed.{Seed, StartItem, Game, Held}
use Rattle.mw_multi.specs.World.{World, Item, PoolEntry}
use Rattle.mw_multi.specs.WorldKept.{IsWorld, copies}
use Rattle.mw_multi.specs.Names.{IsName}
use Rattle.mw_multi.specs.Joint as joined
use Rattle.mw_multi.specs.Placement.{slot_at, members_of}
use Rattle.mw_multi.specs.declared.item.Class.{Class}
use Rattle.mw_multi.specs.declared.item.Class.TheVariants.{Progression, Useful, Filler, Trap}
use Rattle.mw_multidata.specs.Names.{has_id, find_game}
use Rattle.mw_multidata.specs.SeedKept.{is_class, has_item, has_location, game_of, game_of_group, played, received, game_name, StartKept, SlotKept, HeldKept}
use Rattle.mw_seeds.specs.SeedFile.{class_flags, IsGameOf, IsPlayed, HasGameOf, AreGames, start_with, start_of, start_copies, file_slot, file_group, file_groups}
use Rattle.mw_seeds.specs.Agreeing.{first_owner}
use Rattle.mw_seeds.proofs.Elements.{holds_at, holds_in, get_mapped}
use Rattle.mw_seeds.proofs.SeedTables.{name_kept, item_there, location_there}
use Rattle.mw_seeds.proofs.Receivers.{owners_past, owner_holds, own_owner}
use Rattle.mw_seeds.proofs.SeedHeld.{IsOfSlot}

class_is : (c : Class) → is_class (class_flags c) ≡ true
class_is Progression = refl
class_is Useful = refl
class_is Filler = refl
class_is Trap = refl

-- ---- the game of a slot

-- slots of one game have one world
abbrev pub OneWorldEach : List joined.Slot → Type 0
OneWorldEach slots = (s t : joined.Slot) → Contains slots s → Contains slots t → s.world.game ≡ t.world.game → s.world ≡ t.world

-- the game of a slot is found, and it is that of the slot's world
abbrev pub IsFound : List Game → joined.Slot → Type 0
IsFound games s = (g : Game) × (find_game games s.world.game ≡ Some g) × IsGameOf s.world g

by_name : (g : Game) (games : List Game) (name : List ℕ) (b : Bool) → bytes_eq g.name name ≡ b → (f : Game) × (find_game games name ≡ Some f) × Contains games f × (f.name ≡ name)
    → (f : Game) × (find_game (g ∷ games) name ≡ Some f) × Contains (g ∷ games) f × (f.name ≡ name)
by_name g games name true is later = (g, rw is refl, (0, omega arith, refl), (bytes_eq-Decides g.name name).0 is)
by_name g games name false is (f, found, (k, l, e), named) = (f, rw is found, (suc k, omega (arith, l), e), named)

found_named : (games : List Game) (name : List ℕ) (k : ℕ) (d : List ℕ) → k < length (map game_name games) → get_or (map game_name games) k d ≡ name
    → (g : Game) × (find_game games name ≡ Some g) × Contains games g × (g.name ≡ name)
found_named [] name k d l e = absurd (omega arith)
found_named (g ∷ games) name zero d l e = let is : bytes_eq g.name name ≡ true = (bytes_eq-Decides g.name name).1 e in (g, rw is refl, (0, omega arith, refl), e)
found_named (g ∷ games) name (suc k) d l e = by_name g games name (bytes_eq g.name name) refl (found_named games name k d (omega (arith, l)) e)

module _ (slots : List joined.Slot) (games : List Game) (are : AreGames slots games) (one : OneWorldEach slots) where
  game_found : (s : joined.Slot) → Contains slots s → IsFound games s
  game_found s there =
      let named : HasGameOf games s = holds_in (HasGameOf games) slots s are.all there in
      let found = found_named games s.world.game named.0 s.world.game named.1 named.2 in
      let played : IsPlayed slots found.0 = holds_in (IsPlayed slots) games found.0 are.played found.2 in
      let same : played.0.world ≡ s.world = one played.0 s played.1 there (sym played.2.name ∙ found.3) in
      (found.0, found.1, subst (λ w. IsGameOf w found.0) same played.2)

  pub all_found : All (IsFound games) slots
  all_found = λ k d l. game_found (get_or slots k d) (Contains-get_or slots k d l)

-- ---- starting items

module _ (w : World) (games : List Game) (g : Game) (found : find_game games w.game ≡ Some g) (is : IsGameOf w g) (kept : IsWorld w) where
  abbrev IsGood : StartItem → Type 0
  IsGood = StartKept (find_game games w.game)

  start_id : (k : ℕ) (i : Item) (o : Option ℤ) → slice_get w.items k ≡ Some i → i.id ≡ o → All IsGood (start_with o i.class)
  start_id k i None there e = All-nil IsGood
  start_id k i (Some id) there e =
      All-cons IsGood record { item = id; flags = class_flags i.class } [] (record { item = ap (λ o. has_item o id) found ∙ item_there w g is kept k i id there e; class = class_is i.class }) (All-nil IsGood)

  start_item : (k : ℕ) (o : Option Item) → slice_get w.items k ≡ o → All IsGood (start_of o)
  start_item k None there = All-nil IsGood
  start_item k (Some i) there = start_id k i i.id there refl

  start_times : (n k : ℕ) → All IsGood (flat_map start_of (replicate n (slice_get w.items k)))
  start_times zero k = All-nil IsGood
  start_times (suc n) k = All-append IsGood (start_of (slice_get w.items k)) (flat_map start_of (replicate n (slice_get w.items k))) (start_item k (slice_get w.items k) refl) (start_times n k)

  starts_good : (es : List PoolEntry) → All IsGood (flat_map (start_copies w.items) es)
  starts_good [] = All-nil IsGood
  starts_good (e ∷ es) = All-append IsGood (start_copies w.items e) (flat_map (start_copies w.items) es) (start_times e.count e.item) (starts_good es)

one_at_most : (o : Option ℤ) (c : Class) → length (start_with o c) ≤ 1
one_at_most None c = omega arith
one_at_most (Some id) c = omega arith

item_at_most : (o : Option Item) → length (start_of o) ≤ 1
item_at_most None = omega arith
item_at_most (Some i) = one_at_most i.id i.class

times_at_most : (n : ℕ) (o : Option Item) → length (flat_map start_of (replicate n o)) ≤ n
times_at_most zero o = omega arith
times_at_most (suc n) o = omega (arith, item_at_most o, times_at_most n o, length-append (start_of o) (flat_map start_of (replicate n o)))

few_starts : (items : List Item) (es : List PoolEntry) → length (flat_map (start_copies items) es) ≤ sum_by copies es
few_starts items [] = omega arith
few_starts items (e ∷ es) =
    omega (arith, times_at_most e.count (slice_get items e.item), few_starts items es, length-append (start_copies items e) (flat_map (start_copies items) es), sum_by-cons copies e es)

-- ---- the slots

-- what a slot's names are: one for each team, none too long
pub record HasNames (teams : ℕ) (s : joined.Slot) : Type 0 where
  pub count : length s.names ≡ teams
  pub names : All (IsName 16) s.names

module _ (teams : ℕ) (games : List Game) where
  slot_good : (s : joined.Slot) → HasNames teams s → joined.SlotKept s → IsFound games s → SlotKept teams games (file_slot s)
  slot_good s named kept found = record {
    count = named.count;
    names = λ k d l. name_kept 16 (get_or s.names k d) (named.names k d l);
    game = ap is_some found.1;
    few = omega (arith, few_starts s.world.items s.start, kept.few);
    start = starts_good s.world games found.0 found.1 found.2 kept.world s.start;
  }

  pub slots_good : (ss : List joined.Slot) → All (HasNames teams) ss → All joined.SlotKept ss → All (IsFound games) ss → All (SlotKept teams games) (map file_slot ss)
  slots_good [] a b c = All-nil (SlotKept teams games)
  slots_good (s ∷ ss) a b c =
      All-cons (SlotKept teams games) (file_slot s) (map file_slot ss) (slot_good s (All-head (HasNames teams) s ss a) (All-head joined.SlotKept s ss b) (All-head (IsFound games) s ss c))
      (slots_good ss (All-tail (HasNames teams) s ss a) (All-tail joined.SlotKept s ss b) (All-tail (IsFound games) s ss c))

-- ---- the locations

module _ (seed : Seed) (joint : joined.Joint) (same : seed.slots ≡ map file_slot joint.slots) (groups : seed.groups ≡ file_groups joint) (found : All (IsFound seed.games) joint.slots) (kept : All joined.SlotKept joint.slots) where
  many : length seed.slots ≡ length joint.slots
  many = ap length same ∙ length-map joint.slots file_slot

  game_at : (n : ℕ) (s : joined.Slot) → slot_at joint.slots n ≡ Some s → played seed n ≡ find_game seed.games s.world.game
  game_at zero s e = cc
  game_at (suc k) s e = ap (λ ss. game_of seed.games (slice_get ss k)) same ∙ ap (game_of seed.games) (get_mapped file_slot joint.slots k ∙ ap (option_map file_slot) e)

  -- a link's group plays the game of its first member
  of_link : (o : Option joined.Link) (s : joined.Slot) → joined.first_slot joint.slots (members_of o) ≡ Some s → game_of_group seed.games (option_map (file_group joint.slots) o) ≡ find_game seed.games s.world.game
  of_link None s e = cc
  of_link (Some l) s e = ap (λ t. find_game seed.games (joined.world_of t).game) e

  of_group : (n : ℕ) (s : joined.Slot) → length joint.slots < n → first_owner joint n ≡ Some s → received seed n ≡ find_game seed.games s.world.game
  of_group n s past e =
      let k = n - suc (length joint.slots) in
      let shared : joined.first_slot joint.slots (members_of (slice_get joint.links k)) ≡ Some s = sym (ap (joined.first_slot joint.slots) (owners_past joint n past)) ∙ e in
      let no_slot : nat_le n (length seed.slots) ≡ false = grind (arith, past, many) in
      let there : slice_get seed.groups (n - suc (length seed.slots)) ≡ option_map (file_group joint.slots) (slice_get joint.links k) =
      ap (λ m. slice_get seed.groups (n - suc m)) many ∙ ap (λ gs. slice_get gs k) groups ∙ get_mapped (file_group joint.slots) joint.links k in
      let game : game_of_group seed.games (slice_get seed.groups (n - suc (length seed.slots))) ≡ find_game seed.games s.world.game = ap (game_of_group seed.games) there ∙ of_link (slice_get joint.links k) s shared in
      rw no_slot game

  of_slot : (n : ℕ) (s : joined.Slot) → n ≤ length joint.slots → first_owner joint n ≡ Some s → received seed n ≡ find_game seed.games s.world.game
  of_slot n s inside e =
      let own : nat_le n (length seed.slots) ≡ true = grind (arith, inside, many) in
      let game : played seed n ≡ find_game seed.games s.world.game = game_at n s (sym (own_owner joint n inside) ∙ e) in
      rw own game

  -- a receiver's game in the file is that of its first owner
  game_for : (n : ℕ) (s : joined.Slot) → first_owner joint n ≡ Some s → received seed n ≡ find_game seed.games s.world.game
  game_for n s e = elim (cases_lt (length joint.slots) n) [ inl past ↦ of_group n s past e | inr inside ↦ of_slot n s inside e ]

  slot_found : (n : ℕ) (s : joined.Slot) → slot_at joint.slots n ≡ Some s → IsFound seed.games s × IsWorld s.world
  slot_found zero s e = cc
  slot_found (suc k) s e = (holds_at (IsFound seed.games) joint.slots k s found e, (holds_at joined.SlotKept joint.slots k s kept e).world)

  pub held_good : (h : Held) → IsOfSlot joint 1 joint.slots h → HeldKept seed h
  held_good h (k, s, at, (index, l, id, there, named, of)) =
      let number : 1 + k ≡ suc k = omega arith in
      let finder : IsFound seed.games s × IsWorld s.world = slot_found (suc k) s at in
      let owner : IsFound seed.games of.owner = owner_holds (IsFound seed.games) joint h.receiver of.owner found of.receiver in
      let world : IsWorld of.owner.world = (owner_holds joined.SlotKept joint h.receiver of.owner kept of.receiver).world in
      let mine : played seed h.slot ≡ Some finder.0.0 = ap (played seed) (of.slot ∙ number) ∙ game_at (suc k) s at ∙ finder.0.1 in
      let theirs : received seed h.receiver ≡ Some owner.0 = game_for h.receiver of.owner of.receiver ∙ owner.1 in
      record {
        location = ap (λ g. has_location g h.location) mine ∙ ap (has_id finder.0.0.location_name_to_id) of.location ∙ location_there s.world finder.0.0 finder.0.2 finder.1 index l id there named;
        item = ap (λ g. has_item g h.item) theirs ∙ item_there of.owner.world owner.0 owner.2 world of.index of.what h.item of.there of.named;
        class = ap is_class of.flags ∙ class_is of.what.class;
      }
