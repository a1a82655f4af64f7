-- The text that is written of a seed stands for that very seed.
use Rattle.std.proofs.Common.{◌≡◌, ◌≤◌, ◌<◌, ◌++◌, ℕ, ℤ, zero, suc, List, [], ◌∷◌, Bool, true, false, nat_cmp, Option, Some, None, Result, Ok, Err, inr, length, map, is_some, refl, sym, ap, subst, ◌∙◌, arith}
use Rattle.std.specs.Prelude.{All, IfOk, IsUtf8, bytes_eq, chars, codes, nat_le, slice_get, slice_index_or, if◌then◌else◌}
use Rattle.std.specs.Cmp.Lexicographic.{slice_cmp}
use Rattle.std.specs.Ordering.{int_eq}
use Rattle.std.proofs.lemmas.List.Elements.{All-head, All-tail}
use Rattle.std.proofs.lemmas.Slice.Eq.{bytes_eq-Decides}
use Rattle.mw_model.specs.Json.{words, many, Members, find_member, depth, ComeAfter, IsWritable, IsOrdered, MembersAreOrdered}
use Rattle.mw_model.specs.Games.{game_json, ids_members}
use Rattle.mw_model.specs.Seed.{Seed, Slot, Group, Game, NamedId, Held, Spot, slot_of, group_of}
use Rattle.mw_json.specs.Grammar.{number_at}
use Rattle.mw_json.specs.Reading.{reading, max_depth}
use Rattle.mw_json.specs.Readers.{list_of_at}
use Rattle.mw_model.specs.Trees.{items_of}
use Rattle.mw_json.specs.View.{members_of}
use Rattle.mw_json.proofs.Again.{reads_back}
use Rattle.mw_model.specs.Ascending.{ComesBefore, NamesAscend}
use Rattle.mw_multidata.specs.Names.{has_id, find_game, played_by, names_named}
use Rattle.mw_multidata.specs.SeedKept.{IsName, IsId, EntryKept, GameKept, SlotKept, GroupKept, HeldKept, SpotKept, SphereKept, IsSeed, entry_name, game_name, has_item, has_location, game_of, game_of_group, played, received}
use Rattle.mw_multidata.specs.SeedOf.{seed_at, SeedOf}
use Rattle.mw_multidata.specs.Shape.{form_at, seed_name_of, seed_name_at, server_at, games_at, slots_at, held_at, spheres_at, members_at, shape_at}
use Rattle.mw_multidata.specs.Written.{number_json, server_json, game_member, games_json, slot_json, form_word, groups_member, other_members, held_json, sphere_json, seed_json, seed_text}
use Rattle.mw_multidata.proofs.Bools.{by_two}
use Rattle.mw_multidata.proofs.Again.{members_in, field_again, number_again, short_again, server_again, games_again, SlotShape, slots_again, GroupShape, is_second, form_again, groups_again, past_groups, HeldShape, held_again, list_again, SpotShape, SphereShape, spheres_again}
use Rattle.mw_multidata.proofs.NamesAgain.{IsPlayedSlot, names_pass_all}
use Rattle.mw_multidata.proofs.NamesKept.{IsKnown}
use Rattle.mw_multidata.proofs.Orders.{seed_ordered, seed_plain, seed_shallow}
use Rattle.mw_multidata.proofs.Plays.{PlayAll, GroupsPlay, slot_game, group_game, all_play, played_same, received_same, number_within, player_within, receiver_within}

-- ---- what is known by a look-up

abbrev IsFound : List ℕ → Option Game → Type 0
IsFound name None = Unit {0}
IsFound name (Some g) = GameKept g × IsName 128 name

pick : (name : List ℕ) (g : Game) (rest : Option Game) (b : Bool) → bytes_eq g.name name ≡ b → GameKept g → IsFound name rest → IsFound name (if b then Some g else rest)
pick name g rest true e k h = (k, subst (IsName 128) ((bytes_eq-Decides g.name name).0 e) k.name)
pick name g rest false e k h = h

found_kept : (gs : List Game) (name : List ℕ) → All GameKept gs → IsFound name (find_game gs name)
found_kept [] name h = tt
found_kept (g ∷ gs) name h = pick name g (find_game gs name) (bytes_eq g.name name) refl (All-head GameKept g gs h) (found_kept gs name (All-tail GameKept g gs h))

found_name : (name : List ℕ) (found : Option Game) → IsFound name found → is_some found ≡ true → IsName 128 name
found_name name (Some g) h e = h.1
found_name name None h e = cc

equal_id : (a id : ℤ) → int_eq a id ≡ true → a ≡ id
equal_id a id e = grind (arith, e)

table_id : (ns : List NamedId) (id : ℤ) → All EntryKept ns → has_id ns id ≡ true → IsId id
table_id [] id h e = cc
table_id (n ∷ ns) id h e =
    by_two (int_eq n.id id) (has_id ns id) (IsId id) (λ f. subst IsId (equal_id n.id id f) (All-head EntryKept n ns h).id) (table_id ns id (All-tail EntryKept n ns h)) e

item_id : (name : List ℕ) (found : Option Game) (id : ℤ) → IsFound name found → has_item found id ≡ true → IsId id
item_id name (Some g) id h e = table_id g.item_name_to_id id h.0.items.each e
item_id name None id h e = cc

location_id : (name : List ℕ) (found : Option Game) (id : ℤ) → IsFound name found → has_location found id ≡ true → IsId id
location_id name (Some g) id h e = table_id g.location_name_to_id id h.0.locations.each e
location_id name None id h e = cc

-- the game of a slot that may be there
abbrev slot_name : Option Slot → List ℕ
slot_name (Some s) = s.game
slot_name None = []

slot_found : (gs : List Game) (slot : Option Slot) → All GameKept gs → IsFound (slot_name slot) (game_of gs slot)
slot_found gs (Some s) h = found_kept gs s.game h
slot_found gs None h = tt

-- the game of a group that may be there
abbrev group_game_name : Option Group → List ℕ
group_game_name (Some g) = g.game
group_game_name None = []

group_found : (gs : List Game) (group : Option Group) → All GameKept gs → IsFound (group_game_name group) (game_of_group gs group)
group_found gs (Some g) h = found_kept gs g.game h
group_found gs None h = tt

either_id : (low : Bool) (x y : Option Game) (id : ℤ) → (has_item x id ≡ true → IsId id) → (has_item y id ≡ true → IsId id) → has_item (if low then x else y) id ≡ true → IsId id
either_id true x y id f g e = f e
either_id false x y id f g e = g e

some_item : (found : Option Game) (id : ℤ) → has_item found id ≡ true → is_some found ≡ true
some_item (Some g) id e = refl
some_item None id e = e

some_location : (found : Option Game) (id : ℤ) → has_location found id ≡ true → is_some found ≡ true
some_location (Some g) id e = refl
some_location None id e = e

-- ---- its parts by their shape

module _ (seed : Seed) (h : IsSeed seed) where
  slot_shape : (s : Slot) → SlotKept seed.teams seed.games s → SlotShape seed.teams s
  slot_shape s k =
      let found : IsFound s.game (find_game seed.games s.game) = found_kept seed.games s.game h.games.each in
      record {
        count = k.count;
        names = k.names;
        game = found_name s.game (find_game seed.games s.game) found k.game;
        few = k.few;
        start = λ i d l.
            let one = k.start i d l in
            record { id = item_id s.game (find_game seed.games s.game) (slice_index_or s.start i d).item found one.item; class = one.class };
      }

  group_shape : (g : Group) → GroupKept seed g → GroupShape g
  group_shape g k = record {
    name = k.name;
    game = found_name g.game (find_game seed.games g.game) (found_kept seed.games g.game h.games.each) k.game;
    some = k.some;
    numbers = λ i d l.
        let number = player_within seed (slice_index_or g.members i d) g.game (k.each i d l) in
        (number.0, omega (arith, number.1, h.slots.few));
  }

  received_id : (x : Held) → has_item (received seed x.receiver) x.item ≡ true → IsId x.item
  received_id x =
      either_id (nat_le x.receiver (length seed.slots)) (played seed x.receiver) (game_of_group seed.games (group_of seed x.receiver)) x.item
      (item_id (slot_name (slot_of seed x.receiver)) (played seed x.receiver) x.item (slot_found seed.games (slot_of seed x.receiver) h.games.each))
      (item_id (group_game_name (group_of seed x.receiver)) (game_of_group seed.games (group_of seed x.receiver)) x.item (group_found seed.games (group_of seed x.receiver) h.games.each))

  held_shape : (x : Held) → HeldKept seed x → HeldShape x
  held_shape x k =
      let finder = number_within seed x.slot (some_location (played seed x.slot) x.location k.location) in
      let receiver = receiver_within seed x.receiver (some_item (received seed x.receiver) x.item k.item) in
      record {
        slot_low = finder.0;
        slot_high = omega (arith, finder.1, h.slots.few);
        location = location_id (slot_name (slot_of seed x.slot)) (played seed x.slot) x.location (slot_found seed.games (slot_of seed x.slot) h.games.each) k.location;
        held = received_id x k.item;
        receiver_low = receiver.0;
        receiver_high = omega (arith, receiver.1, h.groups.few);
        class = k.class;
      }

  spot_shape : (s : Spot) → SpotKept (length seed.slots) s → SpotShape s
  spot_shape s k = record { slot_low = k.low; slot_high = omega (arith, k.high, h.slots.few); index = k.index }

  sphere_shape : (spots : List Spot) → SphereKept (length seed.slots) spots → SphereShape spots
  sphere_shape spots k = record { some = k.some; each = λ i d l. spot_shape (slice_index_or spots i d) (k.each i d l) }

  held_known : (ps gs : List Game) → PlayAll seed.games seed.slots ps → GroupsPlay seed.games seed.groups gs → (x : Held) → HeldKept seed x → IsKnown ps gs x
  held_known ps gs play group_play x k = record {
    location = subst (λ f. has_location f x.location ≡ true) (sym (played_same seed ps play x.slot)) k.location;
    item = subst (λ f. has_item f x.item ≡ true) (sym (received_same seed ps gs play group_play x.receiver)) k.item;
  }

-- the game of a slot that is there
number_plays : (games : List Game) (ss : List Slot) (ps : List Game) → PlayAll games ss ps → (n : ℕ) → n < length ss → (g : Game) × (slice_get ps n ≡ Some g)
number_plays games [] [] p n l = absurd (omega (arith, l))
number_plays games [] (g ∷ ps) p n l = absurd p
number_plays games (s ∷ ss) [] p n l = absurd p
number_plays games (s ∷ ss) (g ∷ ps) p zero l = (g, refl)
number_plays games (s ∷ ss) (g ∷ ps) p (suc n) l = number_plays games ss ps p.1 n (omega (arith, l))

spot_played : (games : List Game) (ss : List Slot) (ps : List Game) → PlayAll games ss ps → (s : Spot) (n : ℕ) → s.slot ≡ n → 1 ≤ n → n ≤ length ss → IsPlayedSlot ps s
spot_played games ss ps p s zero e low high = absurd (omega (arith, low))
spot_played games ss ps p s (suc n) e low high =
    let plays = number_plays games ss ps p n (omega (arith, high)) in
    (plays.0, ap (played_by ps) e ∙ plays.1)

-- ---- order

names_come : (name : List ℕ) (ns : List NamedId) → ComesBefore (slice_cmp nat_cmp) name (map entry_name ns) → ComeAfter name (ids_members ns)
names_come name [] h = tt
names_come name (n ∷ ns) h = (h.0, names_come name ns h.1)

entries_ordered : (ns : List NamedId) → NamesAscend (map entry_name ns) → MembersAreOrdered (ids_members ns)
entries_ordered [] h = tt
entries_ordered (n ∷ ns) h = (tt, names_come n.name ns h.0, entries_ordered ns h.1)

games_come : (name : List ℕ) (gs : List Game) → ComesBefore (slice_cmp nat_cmp) name (map game_name gs) → ComeAfter name (members_of (map game_member gs))
games_come name [] h = tt
games_come name (g ∷ gs) h = (h.0, games_come name gs h.1)

game_ordered : (g : Game) → GameKept g → IsOrdered (game_json g)
game_ordered g h = (entries_ordered g.item_name_to_id h.items.ascend, (refl, tt), (entries_ordered g.location_name_to_id h.locations.ascend, tt, tt))

games_ordered : (gs : List Game) → All GameKept gs → NamesAscend (map game_name gs) → MembersAreOrdered (members_of (map game_member gs))
games_ordered [] h a = tt
games_ordered (g ∷ gs) h a = (game_ordered g (All-head GameKept g gs h), games_come g.name gs a.0, games_ordered gs (All-tail GameKept g gs h) a.1)

-- ---- the whole

seed_name_read : (s : List ℕ) → 0 < length s → length (chars s) ≤ 128 → seed_name_of s ≡ Ok s
seed_name_read [] there short = absurd (omega (arith, there))
seed_name_read (b ∷ bs) there short = short_again 128 (b ∷ bs) short

seed_name_again : (s : List ℕ) → seed_name_of s ≡ Ok s → seed_name_at (words s) ≡ Ok s
unfolding seed_name_at
seed_name_again s h = h

module _ (seed : Seed) (h : IsSeed seed) where
  shape_read : shape_at (seed_json seed) ≡ Ok seed
  unfolding shape_at members_at
  shape_read =
      let ms = members_in (seed_json seed) in
      let past : (name : List ℕ) → bytes_eq (codes "groups") name ≡ false → find_member name (members_of (groups_member seed.groups ++ other_members seed)) ≡ find_member name (members_of (other_members seed)) =
      λ name. past_groups name seed.groups (other_members seed) in
      let slots : All (SlotShape seed.teams) seed.slots = λ k d l. slot_shape seed h (slice_index_or seed.slots k d) (h.slots.each k d l) in
      let groups : All GroupShape seed.groups = λ k d l. group_shape seed h (slice_index_or seed.groups k d) (h.groups.each k d l) in
      let locations : All HeldShape seed.locations = λ k d l. held_shape seed h (slice_index_or seed.locations k d) (h.locations.each k d l) in
      let spheres : All SphereShape seed.spheres = λ k d l. sphere_shape seed h (slice_index_or seed.spheres k d) (h.spheres k d l) in
      rw (
        field_again form_at (codes "format") ms (words (form_word seed.groups)) (is_second seed.groups) refl (form_again seed.groups),
        field_again seed_name_at (codes "seed_name") ms (words seed.seed_name) seed.seed_name (past (codes "seed_name") refl) (seed_name_again seed.seed_name (seed_name_read seed.seed_name h.name_there h.name_short)),
        field_again (number_at 1 8) (codes "teams") ms (number_json seed.teams) seed.teams (past (codes "teams") refl) (number_again 1 8 seed.teams h.some_team h.few_teams),
        field_again server_at (codes "server") ms (server_json seed.server) seed.server (past (codes "server") refl) (server_again seed.server h.server),
        field_again games_at (codes "games") ms (games_json seed.games) seed.games refl (games_again seed.games h.games.each),
        field_again (slots_at seed.teams) (codes "slots") ms (many (items_of (map slot_json seed.slots))) seed.slots (past (codes "slots") refl) (slots_again seed.teams seed.slots h.slots.some h.slots.few slots),
        groups_again (length seed.slots) seed.groups (words (form_word seed.groups)) (games_json seed.games) (other_members seed) (omega (arith, h.groups.few)) groups,
        field_again (list_of_at 16777216 held_at) (codes "locations") ms (many (items_of (map held_json seed.locations))) seed.locations (past (codes "locations") refl)
            (list_again HeldShape held_at held_json held_again 16777216 seed.locations h.locations.few locations),
        field_again spheres_at (codes "spheres") ms (many (items_of (map sphere_json seed.spheres))) seed.spheres (past (codes "spheres") refl) (spheres_again seed.spheres spheres),
      ) refl

  names_read : names_named seed ≡ Ok tt
  names_read =
      let play = all_play slot_game seed.games seed.slots (λ k d l. (h.slots.each k d l).game) in
      let group_play = all_play group_game seed.games seed.groups (λ k d l. (h.groups.each k d l).game) in
      let ps = play.0 in
      let gs = group_play.0 in
      let spots : All (All (IsPlayedSlot ps)) seed.spheres =
      λ k d l i e m.
      let kept = (h.spheres k d l).each i e m in
      let spot = slice_index_or (slice_index_or seed.spheres k d) i e in
      spot_played seed.games seed.slots ps play.1 spot spot.slot refl kept.low kept.high in
      names_pass_all seed ps gs h.games.each h.slots.differ (λ k d l. (h.slots.each k d l).start) play.1 h.groups group_play.1
      (λ k d l. held_known seed h ps gs play.1 group_play.1 (slice_index_or seed.locations k d) (h.locations.each k d l)) h.locations.ascend spots

  seed_read : seed_at (seed_json seed) ≡ Ok seed
  unfolding seed_at
  seed_read = rw (shape_read, names_read) refl

  ordered : IsOrdered (seed_json seed)
  ordered = seed_ordered seed (games_ordered seed.games h.games.each h.games.ascend)

  read_again : (bytes : List ℕ) → IsWritable (seed_json seed) → IsUtf8 bytes → bytes ≡ seed_text seed → SeedOf bytes (Ok seed)
  read_again bytes w utf8 is =
      let j = seed_json seed in
      let few : depth j ≤ max_depth = omega (arith, seed_shallow seed) in
      let read : reading bytes ≡ Some j = ap reading is ∙ reads_back j w ordered (seed_plain seed) few in
      inr (inr (j, record { read = record { utf8 = utf8; is = read }; deep = few }, seed_read))

  -- what is written stands for the seed
  pub stands_for : {E : Type 0} (written : Result (List ℕ) E) → IsWritable (seed_json seed) → IfOk written (λ b. IsUtf8 b) → IfOk written (λ b. b ≡ seed_text seed) → IfOk written (λ b. SeedOf b (Ok seed))
  stands_for (Ok bytes) w utf8 is = read_again bytes w utf8 is
  stands_for (Err e) w utf8 is = tt
