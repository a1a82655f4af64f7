-- What keeps the rules of a seed's parts is read as it is written.
use Rattle.std.proofs.Common.{◌≡◌, ◌≤◌, ◌<◌, ◌+◌, ◌-◌, ◌++◌, ◌==◌, ℕ, ℤ, pos, negsuc, List, [], ◌∷◌, Bool, true, false, Some, Result, Ok, length, map, refl, subst, sym, arith}
use Rattle.std.specs.Prelude.{All, bytes_eq, codes, chars, nat_lt}
use Rattle.std.proofs.lemmas.Grind.{common_steps}
use Rattle.std.proofs.lemmas.Int.{ints}
use Rattle.std.proofs.lemmas.List.Elements.{All-head, All-tail}
use Rattle.mw_model.specs.Json.{Json, whole, words, many, members, Items, no_items, item, Members, no_members, member, find_member}
use Rattle.mw_model.specs.Games.{game_json, ids_members}
use Rattle.mw_model.specs.Trees.{items_of, text_json}
use Rattle.mw_model.specs.Seed.{Slot, Group, StartItem, Game, NamedId, Held, RoomOptions, Spot}
use Rattle.mw_json.specs.Grammar.{Breach, number_at, has_control, short_text, name_of, name_at, items_length, list_up_to, field_at}
use Rattle.mw_json.specs.Parts.{id_at, item_at, list_of_length, element_at, not_empty}
use Rattle.mw_json.specs.Readers.{each_from, list_of_at, each_member_at}
use Rattle.mw_json.specs.Settings.{password_at, permission_at, remaining_at}
use Rattle.mw_json.specs.View.{members_of}
use Rattle.mw_multidata.specs.Parts.{slot_number_at, flags_at}
use Rattle.mw_multidata.specs.SeedKept.{IsName, IsId, is_class, is_remaining, is_permission, ServerKept, EntryKept, GameKept}
use Rattle.mw_multidata.specs.Shape.{server_at, named_id_at, ids_at, game_at, games_at, names_at, start_item_at, slot_at, slots_at, several_of, group_members_at, group_at, groups_at, form_at, held_at, spot_at, sphere_at, spheres_at}
use Rattle.mw_multidata.specs.Written.{number_json, permission_json, server_json, game_member, games_json, start_json, slot_json, group_json, form_word, groups_member, held_json, spot_json, sphere_json}
use Rattle.mw_multidata.proofs.Bools.{by_two, both_false}

-- it is read again
abbrev pub IsAgain : {A : Type 0} → (Json → Result A Breach) → (A → Json) → A → Type 0
IsAgain read json x = read (json x) ≡ Ok x

-- ---- numbers

pub number_again : (low high n : ℕ) → low ≤ n → n ≤ high → number_at low high (number_json n) ≡ Ok n
number_again low high n a b = grind arith

id_number : (n : ℕ) → 1 ≤ n → n ≤ 9007199254740991 → id_at (whole (pos n)) ≡ Ok (pos n)
unfolding id_at
id_number n a b = rw (number_again 1 9007199254740991 n a b) refl

id_again : (id : ℤ) → IsId id → id_at (whole id) ≡ Ok id
id_again (pos n) h = id_number n (omega (arith, ints, h.low)) (omega (arith, ints, h.high))
id_again (negsuc n) h = absurd (omega (arith, ints, h.low))

equal : (n k : ℕ) → (n == k) ≡ true → n ≡ k
equal n k e = grind (arith, common_steps, e)

at_number : (P : ℕ → Type 0) (k n : ℕ) → P k → (n == k) ≡ true → P n
at_number P k n p e = subst P (sym (equal n k e)) p

flags_again : (n : ℕ) → is_class n ≡ true → flags_at (number_json n) ≡ Ok n
unfolding flags_at
flags_again n =
    let P : ℕ → Type 0 = λ m. flags_at (number_json m) ≡ Ok m in
    by_two (n == 0) _ (P n) (at_number P 0 n refl) (by_two (n == 1) _ (P n) (at_number P 1 n refl) (by_two (n == 2) (n == 4) (P n) (at_number P 2 n refl) (at_number P 4 n refl)))

-- ---- texts

no_control : (s : List ℕ) → All (λ byte. 32 ≤ byte) s → has_control s ≡ false
no_control [] h = refl
no_control (b ∷ bs) h =
    let plain : 32 ≤ b = All-head (λ byte. 32 ≤ byte) b bs h in
    let first : nat_lt b 32 ≡ false = grind (arith, plain) in
    both_false (nat_lt b 32) (has_control bs) first (no_control bs (All-tail (λ byte. 32 ≤ byte) b bs h))

pub short_again : (most : ℕ) (s : List ℕ) → length (chars s) ≤ most → short_text most s ≡ Ok s
short_again most s h = grind arith

name_again : (most : ℕ) (s : List ℕ) → IsName most s → name_of most s ≡ Ok s
name_again most s h =
    let plain : has_control s ≡ false = no_control s h.plain in
    let short : short_text most s ≡ Ok s = short_again most s h.short in
    let there : 0 < length s = h.there in
    rw (plain, short) (grind (arith, there))

named_again : (most : ℕ) (s : List ℕ) → IsName most s → name_at most (words s) ≡ Ok s
unfolding name_at
named_again most s h = name_again most s h

-- ---- members and elements

-- the members of an object
abbrev pub members_in : Json → Members
members_in (members ms) = ms
members_in j = no_members

module _ {A : Type 0} (read : Json → Result A Breach) where
  pub field_again : (name : List ℕ) (ms : Members) (j : Json) (x : A) → find_member name ms ≡ Some j → read j ≡ Ok x → field_at name read ms ≡ Ok x
  unfolding field_at
  field_again name ms j x found is = rw (found, is) refl

  element_again : (n : ℕ) (js : Items) (j : Json) (x : A) → item_at n js ≡ j → read j ≡ Ok x → element_at n read js ≡ Ok x
  unfolding element_at
  element_again n js j x there is = rw (there, is) refl

-- ---- lists

up_to_again : (most : ℕ) (js : Items) → items_length js ≤ most → list_up_to most (many js) ≡ Ok js
unfolding list_up_to
up_to_again most js h = grind arith

length_again : (count : ℕ) (js : Items) → items_length js ≡ count → list_of_length count (many js) ≡ Ok js
unfolding list_of_length
length_again count js h = grind arith

some_again : (js : Items) → 1 ≤ items_length js → not_empty js ≡ Ok js
some_again no_items h = absurd (omega arith)
some_again (item j js) h = refl

module _ {A : Type 0} (json : A → Json) where
  items_count : (xs : List A) → items_length (items_of (map json xs)) ≡ length xs
  items_count [] = refl
  items_count (x ∷ xs) = omega (arith, items_count xs)

-- what keeps a rule is read again
module _ {A : Type 0} (P : A → Type 0) (read : Json → Result A Breach) (json : A → Json) (one : (x : A) → P x → IsAgain read json x) where
  each_again : (xs : List A) → All P xs → (i : ℕ) → each_from read i (items_of (map json xs)) ≡ Ok xs
  each_again [] h i = refl
  each_again (x ∷ xs) h i = rw (one x (All-head P x xs h), each_again xs (All-tail P x xs h) (i + 1)) refl

  pub list_again : (most : ℕ) (xs : List A) → length xs ≤ most → All P xs → IsAgain (list_of_at most read) (λ ys. many (items_of (map json ys))) xs
  unfolding list_of_at
  list_again most xs few h = rw (up_to_again most (items_of (map json xs)) (omega (arith, few, items_count json xs)), each_again xs h 0) refl

-- ---- the settings

password_again : (s : List ℕ) → length (chars s) ≤ 128 → IsAgain password_at words s
unfolding password_at
password_again s h = short_again 128 s h

remaining_again : (n : ℕ) → is_remaining n ≡ true → IsAgain remaining_at permission_json n
unfolding remaining_at
remaining_again n =
    let P : ℕ → Type 0 = IsAgain remaining_at permission_json in
    by_two (n == 0) _ (P n) (at_number P 0 n refl) (by_two (n == 1) (n == 2) (P n) (at_number P 1 n refl) (at_number P 2 n refl))

permission_again : (n : ℕ) → is_permission n ≡ true → IsAgain permission_at permission_json n
unfolding permission_at
permission_again n =
    let P : ℕ → Type 0 = IsAgain permission_at permission_json in
    by_two (n == 6) _ (P n) (at_number P 6 n refl) (by_two (n == 7) _ (P n) (at_number P 7 n refl)
    (by_two (n == 0) _ (P n) (at_number P 0 n refl) (by_two (n == 1) (n == 2) (P n) (at_number P 1 n refl) (at_number P 2 n refl))))

pub server_again : (o : RoomOptions) → ServerKept o → IsAgain server_at server_json o
unfolding server_at
server_again o h =
    let ms = members_in (server_json o) in
    rw (
      field_again password_at (codes "password") ms (words o.password) o.password refl (password_again o.password h.password),
      field_again (number_at 0 1000) (codes "hint_cost") ms (number_json o.hint_cost) o.hint_cost refl (number_again 0 1000 o.hint_cost (omega arith) h.hint_cost),
      field_again (number_at 0 1000000) (codes "location_check_points") ms (number_json o.location_check_points) o.location_check_points refl (number_again 0 1000000 o.location_check_points (omega arith) h.points),
      field_again permission_at (codes "release") ms (permission_json o.release) o.release refl (permission_again o.release h.release),
      field_again permission_at (codes "collect") ms (permission_json o.collect) o.collect refl (permission_again o.collect h.collect),
      field_again remaining_at (codes "remaining") ms (permission_json o.remaining) o.remaining refl (remaining_again o.remaining h.remaining),
    ) refl

-- ---- the games

entry_again : (n : NamedId) → EntryKept n → named_id_at n.name (whole n.id) ≡ Ok n
unfolding named_id_at
entry_again n h = rw (name_again 128 n.name h.name, id_again n.id h.id) refl

entries_again : (ns : List NamedId) → All EntryKept ns → each_member_at named_id_at (ids_members ns) ≡ Ok ns
entries_again [] h = refl
entries_again (n ∷ ns) h = rw (entry_again n (All-head EntryKept n ns h), entries_again ns (All-tail EntryKept n ns h)) refl

table_again : (ns : List NamedId) → All EntryKept ns → ids_at (members (ids_members ns)) ≡ Ok ns
unfolding ids_at
table_again ns h = entries_again ns h

game_again : (g : Game) → GameKept g → game_at g.name (game_json g) ≡ Ok g
unfolding game_at
game_again g h =
    let ms = members_in (game_json g) in
    rw (
      name_again 128 g.name h.name,
      field_again ids_at (codes "item_name_to_id") ms (members (ids_members g.item_name_to_id)) g.item_name_to_id refl (table_again g.item_name_to_id h.items.each),
      field_again ids_at (codes "location_name_to_id") ms (members (ids_members g.location_name_to_id)) g.location_name_to_id refl (table_again g.location_name_to_id h.locations.each),
    ) refl

all_again : (gs : List Game) → All GameKept gs → each_member_at game_at (members_of (map game_member gs)) ≡ Ok gs
all_again [] h = refl
all_again (g ∷ gs) h = rw (game_again g (All-head GameKept g gs h), all_again gs (All-tail GameKept g gs h)) refl

pub games_again : (gs : List Game) → All GameKept gs → IsAgain games_at games_json gs
unfolding games_at
games_again gs h = all_again gs h

-- ---- the slots

pub record StartShape (s : StartItem) : Type 0 where
  pub id : IsId s.item
  pub class : is_class s.flags ≡ true

pub record SlotShape (teams : ℕ) (s : Slot) : Type 0 where
  pub count : length s.names ≡ teams
  pub names : All (IsName 16) s.names
  pub game : IsName 128 s.game
  pub few : length s.start ≤ 256
  pub start : All StartShape s.start

start_again : (s : StartItem) → StartShape s → IsAgain start_item_at start_json s
unfolding start_item_at item_at list_of_length
start_again s h =
    let js = items_of (whole s.item ∷ number_json s.flags ∷ []) in
    rw (element_again id_at 0 js (whole s.item) s.item refl (id_again s.item h.id), element_again flags_at 1 js (number_json s.flags) s.flags refl (flags_again s.flags h.class)) refl

names_again : (teams : ℕ) (ns : List (List ℕ)) → length ns ≡ teams → All (IsName 16) ns → IsAgain (names_at teams) (λ xs. many (items_of (map text_json xs))) ns
unfolding names_at
names_again teams ns count h =
    rw (length_again teams (items_of (map text_json ns)) (omega (arith, count, items_count text_json ns)), each_again (IsName 16) (name_at 16) text_json (named_again 16) ns h 0) refl

slot_again : (teams : ℕ) (s : Slot) → SlotShape teams s → IsAgain (slot_at teams) slot_json s
unfolding slot_at
slot_again teams s h =
    let ms = members_in (slot_json s) in
    rw (
      field_again (names_at teams) (codes "names") ms (many (items_of (map text_json s.names))) s.names refl (names_again teams s.names h.count h.names),
      field_again (name_at 128) (codes "game") ms (words s.game) s.game refl (named_again 128 s.game h.game),
      field_again (list_of_at 256 start_item_at) (codes "start") ms (many (items_of (map start_json s.start))) s.start refl (list_again StartShape start_item_at start_json start_again 256 s.start h.few h.start),
    ) refl

pub slots_again : (teams : ℕ) (ss : List Slot) → 1 ≤ length ss → length ss ≤ 1024 → All (SlotShape teams) ss → IsAgain (slots_at teams) (λ xs. many (items_of (map slot_json xs))) ss
unfolding slots_at
slots_again teams ss some few h =
    let ws = items_of (map slot_json ss) in
    rw (
      up_to_again 1024 ws (omega (arith, few, items_count slot_json ss)),
      some_again ws (omega (arith, some, items_count slot_json ss)),
      each_again (SlotShape teams) (slot_at teams) slot_json (slot_again teams) ss h 0,
    ) refl

-- ---- the groups

-- a number that a slot may have
abbrev pub IsNumber : ℕ → Type 0
IsNumber n = (1 ≤ n) × (n ≤ 1024)

pub record GroupShape (g : Group) : Type 0 where
  pub name : IsName 16 g.name
  pub game : IsName 128 g.game
  pub some : 2 ≤ length g.members
  pub numbers : All IsNumber g.members

slot_number_again : (n : ℕ) → IsNumber n → IsAgain slot_number_at number_json n
slot_number_again n h = number_again 1 1024 n h.0 h.1

several_again : (js : Items) → 2 ≤ items_length js → several_of js ≡ Ok js
several_again js h = grind arith

group_members_again : (ns : List ℕ) → 2 ≤ length ns → All IsNumber ns → IsAgain group_members_at (λ xs. many (items_of (map number_json xs))) ns
unfolding group_members_at
group_members_again ns some h =
    rw (several_again (items_of (map number_json ns)) (omega (arith, some, items_count number_json ns)), each_again IsNumber slot_number_at number_json slot_number_again ns h 0) refl

group_again : (g : Group) → GroupShape g → IsAgain group_at group_json g
unfolding group_at
group_again g h =
    let ms = members_in (group_json g) in
    rw (
      field_again (name_at 16) (codes "name") ms (words g.name) g.name refl (named_again 16 g.name h.name),
      field_again (name_at 128) (codes "game") ms (words g.game) g.game refl (named_again 128 g.game h.game),
      field_again group_members_at (codes "members") ms (many (items_of (map number_json g.members))) g.members refl (group_members_again g.members h.some h.numbers),
    ) refl

-- whether the form of these groups is the second
abbrev pub is_second : List Group → Bool
is_second [] = false
is_second (g ∷ gs) = true

pub form_again : (gs : List Group) → form_at (words (form_word gs)) ≡ Ok (is_second gs)
unfolding form_at
form_again [] = refl
form_again (g ∷ gs) = refl

-- beside so many slots, among members of which the first two have other names
pub groups_again : (slots : ℕ) (gs : List Group) (a b : Json) (others : List (List ℕ × Json)) → length gs ≤ 1024 - slots → All GroupShape gs
    → groups_at (is_second gs) slots (member (codes "format") a (member (codes "games") b (members_of (groups_member gs ++ others)))) ≡ Ok gs
groups_again slots [] a b others few h = refl
groups_again slots (g ∷ gs) a b others few h =
    let ms = member (codes "format") a (member (codes "games") b (members_of (groups_member (g ∷ gs) ++ others))) in
    field_again (list_of_at (1024 - slots) group_at) (codes "groups") ms (many (items_of (map group_json (g ∷ gs)))) (g ∷ gs) refl (list_again GroupShape group_at group_json group_again (1024 - slots) (g ∷ gs) few h)

-- whoever looks for another member finds none of them
pub past_groups : (name : List ℕ) (gs : List Group) (others : List (List ℕ × Json)) → bytes_eq (codes "groups") name ≡ false → find_member name (members_of (groups_member gs ++ others)) ≡ find_member name (members_of others)
past_groups name [] others e = refl
past_groups name (g ∷ gs) others e = rw e refl

-- ---- the locations

pub record HeldShape (h : Held) : Type 0 where
  pub slot_low : 1 ≤ h.slot
  pub slot_high : h.slot ≤ 1024
  pub location : IsId h.location
  pub held : IsId h.item
  pub receiver_low : 1 ≤ h.receiver
  pub receiver_high : h.receiver ≤ 1024
  pub class : is_class h.flags ≡ true

pub held_again : (h : Held) → HeldShape h → IsAgain held_at held_json h
unfolding held_at item_at list_of_length
held_again h k =
    let js = items_of (number_json h.slot ∷ whole h.location ∷ whole h.item ∷ number_json h.receiver ∷ number_json h.flags ∷ []) in
    rw (
      element_again slot_number_at 0 js (number_json h.slot) h.slot refl (number_again 1 1024 h.slot k.slot_low k.slot_high),
      element_again id_at 1 js (whole h.location) h.location refl (id_again h.location k.location),
      element_again id_at 2 js (whole h.item) h.item refl (id_again h.item k.held),
      element_again slot_number_at 3 js (number_json h.receiver) h.receiver refl (number_again 1 1024 h.receiver k.receiver_low k.receiver_high),
      element_again flags_at 4 js (number_json h.flags) h.flags refl (flags_again h.flags k.class),
    ) refl

-- ---- the spheres

pub record SpotShape (s : Spot) : Type 0 where
  pub slot_low : 1 ≤ s.slot
  pub slot_high : s.slot ≤ 1024
  pub index : s.index ≤ 9999

pub record SphereShape (spots : List Spot) : Type 0 where
  pub some : 1 ≤ length spots
  pub each : All SpotShape spots

spot_again : (s : Spot) → SpotShape s → IsAgain spot_at spot_json s
unfolding spot_at item_at list_of_length
spot_again s h =
    let js = items_of (number_json s.slot ∷ number_json s.index ∷ []) in
    rw (
      element_again slot_number_at 0 js (number_json s.slot) s.slot refl (number_again 1 1024 s.slot h.slot_low h.slot_high),
      element_again (number_at 0 9999) 1 js (number_json s.index) s.index refl (number_again 0 9999 s.index (omega arith) h.index),
    ) refl

sphere_again : (spots : List Spot) → SphereShape spots → IsAgain sphere_at sphere_json spots
unfolding sphere_at
sphere_again spots h =
    rw (some_again (items_of (map spot_json spots)) (omega (arith, h.some, items_count spot_json spots)), each_again SpotShape spot_at spot_json spot_again spots h.each 0) refl

pub spheres_again : (ss : List (List Spot)) → All SphereShape ss → IsAgain spheres_at (λ xs. many (items_of (map sphere_json xs))) ss
unfolding spheres_at
spheres_again ss h = each_again SphereShape sphere_at sphere_json sphere_again ss h 0
