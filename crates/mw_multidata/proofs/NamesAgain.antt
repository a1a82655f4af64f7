-- The names of a seed whose parts know each other have nothing to refuse.
use Rattle.std.proofs.Common.{◌≡◌, ◌+◌, ℕ, ℤ, List, [], ◌∷◌, ◌++◌, true, false, Option, Some, None, Ok, nat_cmp, map, refl, sym, ap, subst, ◌∙◌, arith, append_assoc}
use Rattle.std.specs.Prelude.{All, bytes_eq}
use Rattle.std.specs.List.{IsDistinct, AllByRecursion}
use Rattle.std.specs.Ordering.{int_eq}
use Rattle.std.specs.declared.cmp.Ordering.TheVariants.{Less}
use Rattle.std.proofs.lemmas.List.{map-append}
use Rattle.std.proofs.lemmas.List.Elements.{All-head, All-tail}
use Rattle.mw_model.specs.Seed.{Seed, Slot, Group, StartItem, Game, NamedId, Held, Spot}
use Rattle.mw_model.specs.Ascending.{Ascend}
use Rattle.mw_multidata.specs.Names.{known, has_id, ids_differ, game_named, games_named, find_game, has_name, names_differ, start_named, all_names, slot_named, slots_named, group_name, is_above, member_named, members_named, names_with, group_named, groups_named, played_by, received_by, comes_after, held_named, locations_named, spot_named, sphere_named, spheres_named, names_named}
use Rattle.mw_multidata.specs.SeedKept.{entry_id, GameKept, StartKept, GroupKept, GroupsKept, has_item, has_location, held_cmp}
use Rattle.mw_multidata.proofs.Bools.{both_false}
use Rattle.mw_multidata.proofs.GroupsKept.{IsPlayer}
use Rattle.mw_multidata.proofs.NamesKept.{IsKnown}
use Rattle.mw_multidata.proofs.Plays.{PlayAll, GroupsPlay}

abbrev NamesDiffer : List (List ℕ) → Type 0
NamesDiffer ns = IsDistinct bytes_eq ns

-- ---- what stands before differs

id_apart : (id : ℤ) (before : List NamedId) (n : NamedId) (ns : List NamedId) → AllByRecursion (λ y. int_eq id y ≡ false) (map entry_id (before ++ n ∷ ns)) → int_eq id n.id ≡ false
id_apart id [] n ns h = h.0
id_apart id (b ∷ before) n ns h = id_apart id before n ns h.1

new_id : (before : List NamedId) (n : NamedId) (ns : List NamedId) → IsDistinct int_eq (map entry_id (before ++ n ∷ ns)) → has_id before n.id ≡ false
unfolding IsDistinct
new_id [] n ns h = refl
new_id (b ∷ before) n ns h = both_false (int_eq b.id n.id) (has_id before n.id) (id_apart b.id before n ns h.0) (new_id before n ns h.1)

ids_pass : (before ns : List NamedId) → IsDistinct int_eq (map entry_id (before ++ ns)) → ids_differ before ns ≡ Ok tt
ids_pass before [] h = refl
ids_pass before (n ∷ ns) h =
    let fresh : has_id before n.id ≡ false = new_id before n ns h in
    let again : IsDistinct int_eq (map entry_id ((before ++ n ∷ []) ++ ns)) = subst (λ xs. IsDistinct int_eq (map entry_id xs)) (sym (append_assoc before (n ∷ []) ns)) h in
    rw fresh (ids_pass (before ++ n ∷ []) ns again)

-- ---- games

game_passes : (g : Game) → GameKept g → game_named g ≡ Ok g
unfolding game_named
game_passes g h = rw (ids_pass [] g.item_name_to_id h.items.ids, ids_pass [] g.location_name_to_id h.locations.ids) refl

games_pass : (gs : List Game) → All GameKept gs → games_named gs ≡ Ok gs
games_pass [] h = refl
games_pass (g ∷ gs) h = rw (game_passes g (All-head GameKept g gs h), games_pass gs (All-tail GameKept g gs h)) refl

-- ---- slots

name_apart : (name : List ℕ) (before : List (List ℕ)) (n : List ℕ) (ns : List (List ℕ)) → AllByRecursion (λ y. bytes_eq name y ≡ false) (before ++ n ∷ ns) → bytes_eq name n ≡ false
name_apart name [] n ns h = h.0
name_apart name (b ∷ before) n ns h = name_apart name before n ns h.1

new_name : (before : List (List ℕ)) (n : List ℕ) (ns : List (List ℕ)) → NamesDiffer (before ++ n ∷ ns) → has_name before n ≡ false
unfolding IsDistinct
new_name [] n ns h = refl
new_name (b ∷ before) n ns h = both_false (bytes_eq b n) (has_name before n) (name_apart b before n ns h.0) (new_name before n ns h.1)

names_pass : (before : List (List ℕ)) (i : ℕ) (ns rest : List (List ℕ)) → NamesDiffer (before ++ (ns ++ rest)) → names_differ before i ns ≡ Ok tt
names_pass before i [] rest h = refl
names_pass before i (n ∷ ns) rest h =
    let fresh : has_name before n ≡ false = new_name before n (ns ++ rest) h in
    let again : NamesDiffer ((before ++ n ∷ []) ++ (ns ++ rest)) = subst NamesDiffer (sym (append_assoc before (n ∷ []) (ns ++ rest))) h in
    rw fresh (names_pass (before ++ n ∷ []) (i + 1) ns rest again)

start_passes : (game : Game) (i : ℕ) (ss : List StartItem) → All (StartKept (Some game)) ss → start_named game i ss ≡ Ok tt
start_passes game i [] h = refl
start_passes game i (s ∷ ss) h = rw ((All-head (StartKept (Some game)) s ss h).item) (start_passes game (i + 1) ss (All-tail (StartKept (Some game)) s ss h))

all_names-append : (xs ys : List Slot) → all_names (xs ++ ys) ≡ all_names xs ++ all_names ys
all_names-append [] ys = refl
all_names-append (x ∷ xs) ys = ap (λ ns. x.names ++ ns) (all_names-append xs ys) ∙ sym (append_assoc x.names (all_names xs) (all_names ys))

slot_passes : (games : List Game) (earlier : List Slot) (s : Slot) (later : List Slot) (g : Game) → NamesDiffer (all_names (earlier ++ s ∷ later)) → find_game games s.game ≡ Some g
    → All (StartKept (find_game games s.game)) s.start → slot_named games earlier s ≡ Ok g
unfolding slot_named
slot_passes games earlier s later g differ found start =
    let apart : NamesDiffer (all_names earlier ++ (s.names ++ all_names later)) = subst NamesDiffer (all_names-append earlier (s ∷ later)) differ in
    let items : All (StartKept (Some g)) s.start = subst (λ f. All (StartKept f) s.start) found start in
    rw (names_pass (all_names earlier) 0 s.names (all_names later) apart, found, start_passes g 0 s.start items) refl

-- what a slot begins with is of its game
abbrev HasStart : List Game → Slot → Type 0
HasStart games s = All (StartKept (find_game games s.game)) s.start

slots_pass : (games : List Game) (earlier : List Slot) (i : ℕ) (ss : List Slot) (ps : List Game) → NamesDiffer (all_names (earlier ++ ss)) → All (HasStart games) ss → PlayAll games ss ps → slots_named games earlier i ss ≡ Ok ps
slots_pass games earlier i [] [] differ start play = refl
slots_pass games earlier i [] (p ∷ ps) differ start play = absurd play
slots_pass games earlier i (s ∷ ss) [] differ start play = absurd play
slots_pass games earlier i (s ∷ ss) (p ∷ ps) differ start play =
    let again : NamesDiffer (all_names ((earlier ++ s ∷ []) ++ ss)) = subst (λ xs. NamesDiffer (all_names xs)) (sym (append_assoc earlier (s ∷ []) ss)) differ in
    rw (
      slot_passes games earlier s ss p differ play.0 (All-head (HasStart games) s ss start),
      slots_pass games (earlier ++ s ∷ []) (i + 1) ss ps again (All-tail (HasStart games) s ss start) play.1,
    ) refl

-- ---- groups

member_passes : (seed : Seed) (game : List ℕ) (before : Option ℕ) (n : ℕ) → IsPlayer seed game n → is_above before n ≡ true → member_named seed game before n ≡ Ok tt
unfolding member_named
member_passes seed game before n plays above = rw (plays, above) refl

abbrev IsBelow : Option ℕ → List ℕ → Type 0
IsBelow before [] = Unit {0}
IsBelow before (n ∷ ns) = is_above before n ≡ true

rises : (n m : ℕ) → nat_cmp n m ≡ Less → is_above (Some n) m ≡ true
rises n m e = grind (arith, e)

first_below : (n : ℕ) (ns : List ℕ) → Ascend nat_cmp (n ∷ ns) → IsBelow (Some n) ns
first_below n [] a = tt
first_below n (m ∷ ns) a = rises n m a.0.0

members_follow : (seed : Seed) (game : List ℕ) (before : Option ℕ) (i : ℕ) (ns : List ℕ) → All (IsPlayer seed game) ns → Ascend nat_cmp ns → IsBelow before ns → members_named seed game before i ns ≡ Ok tt
members_follow seed game before i [] plays a below = refl
members_follow seed game before i (n ∷ ns) plays a below =
    rw (member_passes seed game before n (All-head (IsPlayer seed game) n ns plays) below)
    (members_follow seed game (Some n) (i + 1) ns (All-tail (IsPlayer seed game) n ns plays) a.1 (first_below n ns a))

start_below : (ns : List ℕ) → IsBelow None ns
start_below [] = tt
start_below (n ∷ ns) = refl

group_passes : (games : List Game) (seed : Seed) (earlier : List Group) (g : Group) (p : Game) → has_name (names_with seed earlier) g.name ≡ false → find_game games g.game ≡ Some p → GroupKept seed g → group_named games seed earlier g ≡ Ok p
unfolding group_named
group_passes games seed earlier g p new found h =
    rw (new, found, members_follow seed g.game None 0 g.members h.each h.ascend (start_below g.members)) refl

names_with-append : (seed : Seed) (xs ys : List Group) → names_with seed (xs ++ ys) ≡ names_with seed xs ++ map group_name ys
names_with-append seed xs ys =
    ap (λ (ns : List (List ℕ)). all_names seed.slots ++ ns) (map-append group_name xs ys) ∙ sym (append_assoc (all_names seed.slots) (map group_name xs) (map group_name ys))

groups_pass : (games : List Game) (seed : Seed) (earlier : List Group) (i : ℕ) (gs : List Group) (ps : List Game) → NamesDiffer (names_with seed (earlier ++ gs)) → All (GroupKept seed) gs → GroupsPlay games gs ps → groups_named games seed earlier i gs ≡ Ok ps
groups_pass games seed earlier i [] [] differ h play = refl
groups_pass games seed earlier i [] (p ∷ ps) differ h play = absurd play
groups_pass games seed earlier i (g ∷ gs) [] differ h play = absurd play
groups_pass games seed earlier i (g ∷ gs) (p ∷ ps) differ h play =
    let new : has_name (names_with seed earlier) g.name ≡ false = new_name (names_with seed earlier) g.name (map group_name gs) (subst NamesDiffer (names_with-append seed earlier (g ∷ gs)) differ) in
    let again : NamesDiffer (names_with seed ((earlier ++ g ∷ []) ++ gs)) = subst (λ xs. NamesDiffer (names_with seed xs)) (sym (append_assoc earlier (g ∷ []) gs)) differ in
    rw (
      group_passes games seed earlier g p new play.0 (All-head (GroupKept seed) g gs h),
      groups_pass games seed (earlier ++ g ∷ []) (i + 1) gs ps again (All-tail (GroupKept seed) g gs h) play.1,
    ) refl

-- ---- locations

-- it is there, and has what is asked of it
with_location : (found : Option Game) (id : ℤ) → has_location found id ≡ true → (g : Game) × (found ≡ Some g) × (has_id g.location_name_to_id id ≡ true)
with_location (Some g) id e = (g, refl, e)
with_location None id e = cc

with_item : (found : Option Game) (id : ℤ) → has_item found id ≡ true → (g : Game) × (found ≡ Some g) × (has_id g.item_name_to_id id ≡ true)
with_item (Some g) id e = (g, refl, e)
with_item None id e = cc

held_passes : (ps gs : List Game) (before : Option Held) (h : Held) → IsKnown ps gs h → comes_after before h ≡ true → held_named ps gs before h ≡ Ok tt
unfolding held_named
held_passes ps gs before h k follows =
    let finder = with_location (played_by ps h.slot) h.location k.location in
    let receiver = with_item (received_by ps gs h.receiver) h.item k.item in
    rw (finder.1, finder.2, receiver.1, receiver.2, follows) refl

ascends : (a b : Held) → held_cmp a b ≡ Less → comes_after (Some a) b ≡ true
ascends a b e = grind (arith, e)

abbrev Follows : Option Held → List Held → Type 0
Follows before [] = Unit {0}
Follows before (h ∷ hs) = comes_after before h ≡ true

first_follows : (h : Held) (hs : List Held) → Ascend held_cmp (h ∷ hs) → Follows (Some h) hs
first_follows h [] a = tt
first_follows h (k ∷ hs) a = ascends h k a.0.0

locations_follow : (ps gs : List Game) (before : Option Held) (i : ℕ) (hs : List Held) → All (IsKnown ps gs) hs → Ascend held_cmp hs → Follows before hs → locations_named ps gs before i hs ≡ Ok tt
locations_follow ps gs before i [] known a follows = refl
locations_follow ps gs before i (h ∷ hs) known a follows =
    rw (held_passes ps gs before h (All-head (IsKnown ps gs) h hs known) follows)
    (locations_follow ps gs (Some h) (i + 1) hs (All-tail (IsKnown ps gs) h hs known) a.1 (first_follows h hs a))

start_follows : (hs : List Held) → Follows None hs
start_follows [] = tt
start_follows (h ∷ hs) = refl

locations_pass : (ps gs : List Game) (hs : List Held) → All (IsKnown ps gs) hs → Ascend held_cmp hs → locations_named ps gs None 0 hs ≡ Ok tt
locations_pass ps gs hs known a = locations_follow ps gs None 0 hs known a (start_follows hs)

-- ---- spheres

-- some slot has the number
abbrev pub IsPlayedSlot : List Game → Spot → Type 0
IsPlayedSlot ps s = (g : Game) × (played_by ps s.slot ≡ Some g)

spot_passes : (ps : List Game) (s : Spot) → IsPlayedSlot ps s → spot_named ps s ≡ Ok tt
unfolding spot_named
spot_passes ps s (g, found) = rw found refl

sphere_passes : (ps : List Game) (i : ℕ) (ss : List Spot) → All (IsPlayedSlot ps) ss → sphere_named ps i ss ≡ Ok tt
sphere_passes ps i [] h = refl
sphere_passes ps i (s ∷ ss) h = rw (spot_passes ps s (All-head (IsPlayedSlot ps) s ss h)) (sphere_passes ps (i + 1) ss (All-tail (IsPlayedSlot ps) s ss h))

spheres_pass : (ps : List Game) (i : ℕ) (ss : List (List Spot)) → All (All (IsPlayedSlot ps)) ss → spheres_named ps i ss ≡ Ok tt
spheres_pass ps i [] h = refl
spheres_pass ps i (s ∷ ss) h =
    rw (sphere_passes ps 0 s (All-head (All (IsPlayedSlot ps)) s ss h)) (spheres_pass ps (i + 1) ss (All-tail (All (IsPlayedSlot ps)) s ss h))

-- ---- the whole

pub names_pass_all : (seed : Seed) (ps gs : List Game) → All GameKept seed.games → NamesDiffer (all_names seed.slots) → All (HasStart seed.games) seed.slots → PlayAll seed.games seed.slots ps
    → GroupsKept seed → GroupsPlay seed.games seed.groups gs → All (IsKnown ps gs) seed.locations → Ascend held_cmp seed.locations → All (All (IsPlayedSlot ps)) seed.spheres → names_named seed ≡ Ok tt
unfolding names_named
names_pass_all seed ps gs games differ start play groups group_play known ascend spots = rw (
  games_pass seed.games games,
  slots_pass seed.games [] 0 seed.slots ps differ start play,
  groups_pass seed.games seed [] 0 seed.groups gs groups.differ groups.each group_play,
  locations_pass ps gs seed.locations known ascend,
  spheres_pass ps 0 seed.spheres spots,
) refl
