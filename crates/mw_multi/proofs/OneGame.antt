-- Worlds whose files passed are of different games, so what is of one game is one world.
use Rattle.std.proofs.Common.{◌≡◌, ℕ, zero, suc, ◌+◌, ◌<◌, ◌∙◌, ap, sym, refl, subst, List, [], ◌∷◌, ◌++◌, length, Bool, true, false, inl, inr, Option, None, Some, Result, Ok, Err, arith}
use Rattle.std.specs.Prelude.{All, bytes_eq, is_some, slice_get, ◌||◌, ◌&&◌, if◌then◌else◌}
use Rattle.std.specs.List.{list_all, position_from}
use Rattle.std.proofs.lemmas.Bool.{cases_Bool, cond-false}
use Rattle.std.proofs.lemmas.List.Elements.{All-nil, All-cons, All-weaker}
use Rattle.std.proofs.lemmas.Slice.Eq.{bytes_eq-Decides}
use Rattle.mw_multi.specs.World.{World, Item}
use Rattle.std.proofs.lemmas.Option.{slice_get-get_or}
use Rattle.mw_multi.specs.World.{place_count}
use Rattle.mw_multi.specs.Players.{Player, ItemLink}
use Rattle.mw_multi.specs.PlayersKept.{ItemLinkKept}
use Rattle.mw_multi.specs.Files.{is_among, no_world, world_named}
use Rattle.mw_multi.specs.Labels.{item_label, item_labels, location_labels, is_called, index_of}
use Rattle.mw_multi.specs.Links.{HasId, Sharing, SharingKept}
use Rattle.mw_multi.specs.Joint.{Slot, HasWorld, slot_at, world_of, first_slot}
use Rattle.mw_multi.specs.JointOf.{◌>>=◌, Check, has_game, games_differ, flags_option, start_option, slot_of, slots_from, plays, member_plays, play_one_game, links_play, shared_known, shared_item, shared_items, sharing_of, sharings_from}
use Rattle.mw_multi.specs.declared.refusal.OptionName.TheVariants.{LocalItems, NonLocalItems, ExcludeLocations, PriorityLocations}
use Rattle.mw_multi.specs.declared.refusal.JointRefusal.{JointRefusal}
use Rattle.mw_multi.specs.declared.refusal.JointRefusal.TheVariants.{GameTwice, LinkGame}
use Rattle.mw_multi.proofs.FileNames.{file_within, world_of_file, found_somewhere, or_left, or_right}
use Rattle.mw_multi.proofs.Standing.{got}

passed : (b : Bool) (e : JointRefusal) (rest : Check) → (if b then Err e else rest) ≡ Ok tt → (b ≡ false) × (rest ≡ Ok tt)
passed true e rest h = cc
passed false e rest h = (refl, h)

or_more : (b c d : Bool) → (b || c) ≡ true → (c ≡ true → d ≡ true) → (b || d) ≡ true
or_more true c d e f = refl
or_more false c d e f = f e

has_more : (before : List World) (x : World) (game : List ℕ) → has_game before game ≡ true → has_game (before ++ x ∷ []) game ≡ true
has_more [] x game e = cc
has_more (b ∷ before) x game e = or_more (bytes_eq b.game game) (has_game before game) (has_game (before ++ x ∷ []) game) e (has_more before x game)

has_last : (before : List World) (x : World) → has_game (before ++ x ∷ []) x.game ≡ true
has_last [] x = or_left (bytes_eq x.game x.game) false ((bytes_eq-Decides x.game x.game).1 refl)
has_last (b ∷ before) x = or_right (bytes_eq b.game x.game) (has_game (before ++ x ∷ []) x.game) (has_last before x)

-- no later world has a game that there was
new_game : (before : List World) (n : ℕ) (ws : List World) (k : ℕ) (w : World) (game : List ℕ) → games_differ before n ws ≡ Ok tt → has_game before game ≡ true → slice_get ws k ≡ Some w → w.game ≡ game → ⊥
new_game before n [] k w game ok there at same = cc
new_game before n (x ∷ ws) zero w game ok there at same =
    let first = passed (has_game before x.game) (GameTwice n) (games_differ (before ++ x ∷ []) (n + 1) ws) ok in
    let is : x ≡ w = cc in
    let again : has_game before x.game ≡ true = ap (λ (u : World). has_game before u.game) is ∙ ap (has_game before) same ∙ there in
    cc
new_game before n (x ∷ ws) (suc k) w game ok there at same =
    let first = passed (has_game before x.game) (GameTwice n) (games_differ (before ++ x ∷ []) (n + 1) ws) ok in
    new_game (before ++ x ∷ []) (n + 1) ws k w game first.1 (has_more before x game there) at same

-- what is of one game is one world
pub one_world : (before : List World) (n : ℕ) (ws : List World) (j k : ℕ) (v w : World) → games_differ before n ws ≡ Ok tt → slice_get ws j ≡ Some v → slice_get ws k ≡ Some w → v.game ≡ w.game → v ≡ w
one_world before n [] j k v w ok at_v at_w same = cc
one_world before n (x ∷ ws) zero zero v w ok at_v at_w same = cc
one_world before n (x ∷ ws) zero (suc k) v w ok at_v at_w same =
    let first = passed (has_game before x.game) (GameTwice n) (games_differ (before ++ x ∷ []) (n + 1) ws) ok in
    let is : x ≡ v = cc in
    absurd (new_game (before ++ x ∷ []) (n + 1) ws k w x.game first.1 (has_last before x) at_w (sym same ∙ ap (λ (u : World). u.game) (sym is)))
one_world before n (x ∷ ws) (suc j) zero v w ok at_v at_w same =
    let first = passed (has_game before x.game) (GameTwice n) (games_differ (before ++ x ∷ []) (n + 1) ws) ok in
    let is : x ≡ w = cc in
    absurd (new_game (before ++ x ∷ []) (n + 1) ws j v x.game first.1 (has_last before x) at_v (same ∙ ap (λ (u : World). u.game) (sym is)))
one_world before n (x ∷ ws) (suc j) (suc k) v w ok at_v at_w same =
    let first = passed (has_game before x.game) (GameTwice n) (games_differ (before ++ x ∷ []) (n + 1) ws) ok in
    one_world (before ++ x ∷ []) (n + 1) ws j k v w first.1 at_v at_w same

-- ---- the members of a link

-- the slot has one of these worlds
pub record HasOneOf (worlds : List World) (s : Slot) : Type 0 where
  pub index : ℕ
  pub there : slice_get worlds index ≡ Some s.world

both : (b c : Bool) → (b && c) ≡ true → (b ≡ true) × (c ≡ true)
both true c e = (refl, e)
both false c e = cc

all_pass : (test : ℕ → Bool) (xs : List ℕ) → list_all test xs ≡ true → All (λ x. test x ≡ true) xs
all_pass test [] e = All-nil (λ x. test x ≡ true)
all_pass test (x ∷ xs) e = let parts = both (test x) (list_all test xs) e in All-cons (λ y. test y ≡ true) x xs parts.0 (all_pass test xs parts.1)

abbrev SameGame : List World → Slot → Slot → Type 0
SameGame worlds s t = s.world.game ≡ t.world.game → s.world ≡ t.world

same_game : (worlds : List World) (s t : Slot) → games_differ [] 0 worlds ≡ Ok tt → HasOneOf worlds s → HasOneOf worlds t → SameGame worlds s t
same_game worlds s t ok at_s at_t = one_world [] 0 worlds at_s.index at_t.index s.world t.world ok at_s.there at_t.there

world_by_game : (worlds : List World) (first found : Option Slot) → games_differ [] 0 worlds ≡ Ok tt → ((s : Slot) → first ≡ Some s → HasOneOf worlds s) → ((s : Slot) → found ≡ Some s → HasOneOf worlds s)
    → plays (world_of first).game first ≡ true → plays (world_of first).game found ≡ true → world_of found ≡ world_of first
world_by_game worlds None found ok a b here there = cc
world_by_game worlds (Some s) None ok a b here there = cc
world_by_game worlds (Some s) (Some t) ok a b here there = same_game worlds t s ok (b t refl) (a s refl) ((bytes_eq-Decides t.world.game s.world.game).0 there)

-- members that play one game have the world of the first
pub members_world : (worlds : List World) (slots : List Slot) (members : List ℕ) → games_differ [] 0 worlds ≡ Ok tt → ((m : ℕ) (s : Slot) → slot_at slots m ≡ Some s → HasOneOf worlds s)
    → play_one_game slots members ≡ true → All (HasWorld slots (world_of (first_slot slots members))) members
members_world worlds slots [] ok there play = All-nil (HasWorld slots (world_of (first_slot slots [])))
members_world worlds slots (m ∷ ms) ok there play =
    let game = (world_of (slot_at slots m)).game in
    let each = all_pass (member_plays slots game) (m ∷ ms) play in
    All-weaker (λ x. member_plays slots game x ≡ true) (HasWorld slots (world_of (slot_at slots m)))
    (λ x plays_it. world_by_game worlds (slot_at slots m) (slot_at slots x) ok (there m) (there x) (each 0 m (omega arith)) plays_it) (m ∷ ms) each

-- ---- the items of a link

called_where : (b : Bool) (it : Item) (name : List ℕ) → is_some it.id ≡ b → is_called name (if b then Some it.name else None) ≡ true → is_some it.id ≡ true
called_where true it name is e = is
called_where false it name is e = cc

called_has_id : (it : Item) (name : List ℕ) → is_called name (item_label it) ≡ true → is_some it.id ≡ true
called_has_id it name e = called_where (is_some it.id) it name refl e

-- the item that has a name among those with an id has an id
item_of_label : (items : List Item) (name : List ℕ) (n i : ℕ) → position_from (is_called name) n (item_labels items) ≡ Some i → (k : ℕ) × (i ≡ n + k) × HasId items k
item_of_label [] name n i e = cc
item_of_label (it ∷ items) name n i e = elim (cases_Bool (is_called name (item_label it))) [
  | inl here ↦
      let at : n ≡ i = cc in
      (0, sym at ∙ omega arith, called_has_id it name here)
  | inr past ↦
      let later = item_of_label items name (n + 1) i (sym (cond-false (is_called name (item_label it)) (Some n) (position_from (is_called name) (n + 1) (item_labels items)) past) ∙ e) in
      (suc later.0, later.1 ∙ omega arith, later.2)
]

-- ---- the worlds of slots

bound_ok : {A B : Type 0} (r : Result A JointRefusal) (f : A → Result B JointRefusal) (y : B) → (r >>= f) ≡ Ok y → (x : A) × (r ≡ Ok x) × (f x ≡ Ok y)
bound_ok (Ok x) f y e = (x, refl, e)
bound_ok (Err r) f y e = cc

-- a slot has its player's world
slot_world : (slot : ℕ) (p : Player) (w : World) (place item : ℕ) (s : Slot) → slot_of slot p w place item ≡ Ok s → s.world ≡ w
unfolding slot_of
slot_world slot p w place item s e =
    let a = bound_ok (flags_option slot LocalItems (item_labels w.items) p.options.local_items) _ s e in
    let b = bound_ok (flags_option slot NonLocalItems (item_labels w.items) p.options.non_local_items) _ s a.2 in
    let c = bound_ok (flags_option slot ExcludeLocations (location_labels w.locations) p.options.exclude_locations) _ s b.2 in
    let d = bound_ok (flags_option slot PriorityLocations (location_labels w.locations) p.options.priority_locations) _ s c.2 in
    let f = bound_ok (start_option slot (item_labels w.items) 0 p.options.start_inventory) _ s d.2 in
    cc

-- the world of a file that is there is one of the worlds
world_among : (files : List (List ℕ)) (worlds : List World) (name : List ℕ) (at : Option ℕ) → position_from (bytes_eq name) 0 files ≡ at → is_among files name ≡ true → length worlds ≡ length files
    → (k : ℕ) × (slice_get worlds k ≡ Some (world_named files worlds name))
world_among files worlds name None at there many = absurd (found_somewhere (bytes_eq name) 0 files there at)
world_among files worlds name (Some k) at there many =
    let within : k < length worlds = omega (arith, many, file_within files name k at) in
    (k, slice_get-get_or worlds k no_world within ∙ ap Some (sym (world_of_file files worlds name k at)))

pub slots_worlds : (files : List (List ℕ)) (worlds : List World) (slot place item : ℕ) (players : List Player) (slots : List Slot) → length worlds ≡ length files
    → All (λ p. is_among files p.world ≡ true) players → slots_from (world_named files worlds) slot place item players ≡ Ok slots → All (HasOneOf worlds) slots
slots_worlds files worlds slot place item [] slots many there e = let same : [] ≡ slots = cc in subst (All (HasOneOf worlds)) same (All-nil (HasOneOf worlds))
slots_worlds files worlds slot place item (p ∷ players) slots many there e =
    let w = world_named files worlds p.world in
    let first = bound_ok (slot_of slot p w place item) _ slots e in
    let others = bound_ok (slots_from (world_named files worlds) (slot + 1) (place + place_count w) (item + length w.items) players) _ slots first.2 in
    let found = world_among files worlds p.world (position_from (bytes_eq p.world) 0 files) refl (there 0 p (omega arith)) many in
    let one : HasOneOf worlds first.0 = record { index = found.0; there = found.1 ∙ ap Some (sym (slot_world slot p w place item first.0 first.1)) } in
    let more = slots_worlds files worlds (slot + 1) (place + place_count w) (item + length w.items) players others.0 many (λ i d h. there (suc i) d (omega (arith, h))) others.1 in
    let same : first.0 ∷ others.0 ≡ slots = cc in
    subst (All (HasOneOf worlds)) same (All-cons (HasOneOf worlds) first.0 others.0 one more)

-- ---- what is read of links keeps what links keep

known_where : (link : ℕ) (items : List Item) (place : ℕ) (name : List ℕ) (i : ℕ) (at : Option ℕ) → index_of (item_labels items) name ≡ at → shared_known link place at ≡ Ok i → HasId items i
known_where link items place name i None at e = cc
known_where link items place name i (Some k) at e =
    let found = item_of_label items name 0 k at in
    let is : k ≡ i = cc in
    let same : found.0 ≡ i = omega (arith, found.1, is) in
    subst (HasId items) same found.2

item_known : (link : ℕ) (items : List Item) (place : ℕ) (name : List ℕ) (i : ℕ) → shared_item link (item_labels items) place name ≡ Ok i → HasId items i
unfolding shared_item
item_known link items place name i e = known_where link items place name i (index_of (item_labels items) name) refl e

items_known : (link : ℕ) (items : List Item) (place : ℕ) (names : List (List ℕ)) (is : List ℕ) → shared_items link (item_labels items) place names ≡ Ok is → All (HasId items) is
items_known link items place [] is e = let same : [] ≡ is = cc in subst (All (HasId items)) same (All-nil (HasId items))
items_known link items place (n ∷ names) is e =
    let first = bound_ok (shared_item link (item_labels items) place n) _ is e in
    let others = bound_ok (shared_items link (item_labels items) (place + 1) names) _ is first.2 in
    let same : first.0 ∷ others.0 ≡ is = cc in
    subst (All (HasId items)) same
    (All-cons (HasId items) first.0 others.0 (item_known link items place n first.0 first.1) (items_known link items (place + 1) names others.0 others.1))

slot_has_world : (worlds : List World) (slots : List Slot) (m : ℕ) (s : Slot) → All (HasOneOf worlds) slots → slot_at slots m ≡ Some s → HasOneOf worlds s
slot_has_world worlds slots zero s there e = cc
slot_has_world worlds slots (suc k) s there e = let found = got slots k s e in subst (HasOneOf worlds) (sym found.1) (there k s found.0)

sharing_kept : (worlds : List World) (slots : List Slot) (link : ℕ) (l : ItemLink) (s : Sharing) → games_differ [] 0 worlds ≡ Ok tt → All (HasOneOf worlds) slots
    → ItemLinkKept (length slots) l → play_one_game slots l.members ≡ true → sharing_of slots link l ≡ Ok s → SharingKept slots s
unfolding sharing_of
sharing_kept worlds slots link l s ok there kept play e =
    let w = world_of (first_slot slots l.members) in
    let items = bound_ok (shared_items link (item_labels w.items) 0 l.items) _ s e in
    let made : Sharing = record { name = l.name; members = l.members; items = items.0 } in
    let same : made ≡ s = cc in
    let is_kept : SharingKept slots made = record {
      several = kept.several;
      ascend = kept.ascend;
      members = kept.members;
      world = members_world worlds slots l.members ok (λ m t at. slot_has_world worlds slots m t there at) play;
      items = items_known link w.items 0 l.items items.0 items.1;
    } in
    subst (SharingKept slots) same is_kept

passed_play : (b : Bool) (e : JointRefusal) (rest : Check) → (if b then rest else Err e) ≡ Ok tt → (b ≡ true) × (rest ≡ Ok tt)
passed_play true e rest h = (refl, h)
passed_play false e rest h = cc

pub sharings_kept : (worlds : List World) (slots : List Slot) (link : ℕ) (ls : List ItemLink) (ss : List Sharing) → games_differ [] 0 worlds ≡ Ok tt → All (HasOneOf worlds) slots
    → All (ItemLinkKept (length slots)) ls → links_play slots link ls ≡ Ok tt → sharings_from slots link ls ≡ Ok ss → All (SharingKept slots) ss
sharings_kept worlds slots link [] ss ok there kept play e = let same : [] ≡ ss = cc in subst (All (SharingKept slots)) same (All-nil (SharingKept slots))
sharings_kept worlds slots link (l ∷ ls) ss ok there kept play e =
    let plays = passed_play (play_one_game slots l.members) (LinkGame link) (links_play slots (link + 1) ls) play in
    let first = bound_ok (sharing_of slots link l) _ ss e in
    let others = bound_ok (sharings_from slots (link + 1) ls) _ ss first.2 in
    let same : first.0 ∷ others.0 ≡ ss = cc in
    subst (All (SharingKept slots)) same
    (All-cons (SharingKept slots) first.0 others.0
    (sharing_kept worlds slots link l first.0 ok there (kept 0 l (omega arith)) plays.0 first.1)
    (sharings_kept worlds slots (link + 1) ls others.0 ok there (λ i d h. kept (suc i) d (omega (arith, h))) plays.1 others.1))

pub sharings_length : (slots : List Slot) (link : ℕ) (ls : List ItemLink) (ss : List Sharing) → sharings_from slots link ls ≡ Ok ss → length ss ≡ length ls
sharings_length slots link [] ss e = let same : [] ≡ ss = cc in ap length (sym same)
sharings_length slots link (l ∷ ls) ss e =
    let first = bound_ok (sharing_of slots link l) _ ss e in
    let others = bound_ok (sharings_from slots (link + 1) ls) _ ss first.2 in
    let same : first.0 ∷ others.0 ≡ ss = cc in
    ap length (sym same) ∙ ap suc (sharings_length slots (link + 1) ls others.0 others.1)
