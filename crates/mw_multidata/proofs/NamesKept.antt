-- A seed whose names have nothing to refuse keeps the rules on them.
use Rattle.std.proofs.Common.{◌≡◌, ◌≤◌, ◌<◌, ◌+◌, ℕ, ℤ, zero, suc, List, [], ◌∷◌, ◌++◌, Bool, true, false, Option, Some, None, length, map, is_some, get_or, refl, sym, ap, subst, ◌∙◌, arith, append-nil, append_assoc}
use Rattle.std.specs.Prelude.{All, IfOk, bytes_eq, codes, not, slice_get}
use Rattle.std.specs.List.{IsDistinct, AllByRecursion}
use Rattle.std.specs.Ordering.{int_eq}
use Rattle.std.specs.declared.cmp.Ordering.TheVariants.{Less}
use Rattle.std.specs.Cmp.{IsTotalOrder}
use Rattle.std.proofs.lemmas.Cmp.{nat_cmp_total, int_cmp_total, then_total, on_total}
use Rattle.std.proofs.lemmas.List.Elements.{All-nil, All-cons}
use Rattle.std.proofs.lemmas.Result.{IfOk-weaker}
use Rattle.mw_model.specs.Seed.{Seed, Slot, StartItem, Game, NamedId, Held, Spot}
use Rattle.mw_json.specs.Grammar.{under}
use Rattle.mw_json.specs.declared.refusal.Kind.{Kind}
use Rattle.mw_json.specs.declared.refusal.Kind.TheVariants.{DuplicateName, DuplicateId, UnknownName, WrongOrder}
use Rattle.mw_json.specs.declared.refusal.Step.TheVariants.{Name, Index}
use Rattle.mw_json.proofs.Passing.{after, within}
use Rattle.mw_model.specs.Ascending.{Ascend, ComesBefore}
use Rattle.mw_multidata.specs.Names.{demand, known, has_id, ids_differ, game_named, games_named, find_game, has_name, names_differ, start_named, all_names, slot_named, slots_named, played_by, received_by, groups_named, comes_after, held_named, locations_named, spot_named, sphere_named, spheres_named, names_named}
use Rattle.mw_multidata.specs.SeedKept.{entry_id, has_item, has_location, held_cmp}
use Rattle.mw_multidata.proofs.Bools.{neither}
use Rattle.mw_multidata.proofs.Ids.{has_id_push}
use Rattle.mw_multidata.proofs.GroupsKept.{AreGrouped, groups_kept}
use Rattle.mw_multidata.proofs.Judged.{not_false, demanded, known_kept, NewNames, Differ, split_names, both_new, apart_from, both_differ}
use Rattle.mw_multidata.proofs.Plays.{PlayAll}

-- ---- ids

-- none of these is among those before
abbrev NewIds : List NamedId → List NamedId → Type 0
NewIds before [] = Unit {0}
NewIds before (n ∷ ns) = (has_id before n.id ≡ false) × NewIds before ns

abbrev Apart : ℤ → List NamedId → Type 0
Apart id ns = AllByRecursion (λ y. int_eq id y ≡ false) (map entry_id ns)

split_ids : (before : List NamedId) (n : NamedId) (ns : List NamedId) → NewIds (before ++ n ∷ []) ns → NewIds before ns × Apart n.id ns
split_ids before n [] h = (tt, tt)
split_ids before n (m ∷ ns) h =
    let both : (has_id before m.id ≡ false) × (int_eq n.id m.id ≡ false) = neither (has_id before m.id) (int_eq n.id m.id) (sym (has_id_push before n m.id) ∙ h.0) in
    let rest : NewIds before ns × Apart n.id ns = split_ids before n ns h.1 in
    ((both.0, rest.0), (both.1, rest.1))

ids_kept : (before ns : List NamedId) → IfOk (ids_differ before ns) (λ _. NewIds before ns × IsDistinct int_eq (map entry_id ns))
unfolding IsDistinct
ids_kept before [] = (tt, tt)
ids_kept before (n ∷ ns) =
    let P : Unit {0} → Type 0 = λ _. has_id before n.id ≡ false in
    let Q : Unit {0} → Type 0 = λ _. NewIds before (n ∷ ns) × IsDistinct int_eq (map entry_id (n ∷ ns)) in
    after P Q (under (Name n.name) (demand DuplicateId (not (has_id before n.id)))) _ (within P (Name n.name) (demand DuplicateId (not (has_id before n.id))) (not_false DuplicateId (has_id before n.id))) (λ differs a.
    IfOk-weaker (ids_differ (before ++ n ∷ []) ns) (λ _. NewIds (before ++ n ∷ []) ns × IsDistinct int_eq (map entry_id ns)) Q (λ _ h.
    let rest : NewIds before ns × Apart n.id ns = split_ids before n ns h.0 in
    ((a, rest.0), (rest.1, h.1))) (ids_kept (before ++ n ∷ []) ns))

-- the ids of each of its tables differ
pub record IdsKept (g : Game) : Type 0 where
  pub items : IsDistinct int_eq (map entry_id g.item_name_to_id)
  pub locations : IsDistinct int_eq (map entry_id g.location_name_to_id)

game_kept : (g : Game) → IfOk (game_named g) (λ h. (h ≡ g) × IdsKept g)
unfolding game_named
game_kept g =
    let P : List NamedId → Unit {0} → Type 0 = λ ns _. NewIds [] ns × IsDistinct int_eq (map entry_id ns) in
    let Q : Game → Type 0 = λ h. (h ≡ g) × IdsKept g in
    after (P g.item_name_to_id) Q (under (Name (codes "item_name_to_id")) (ids_differ [] g.item_name_to_id)) _ (within (P g.item_name_to_id) (Name (codes "item_name_to_id")) (ids_differ [] g.item_name_to_id) (ids_kept [] g.item_name_to_id)) (λ items a.
    after (P g.location_name_to_id) Q (under (Name (codes "location_name_to_id")) (ids_differ [] g.location_name_to_id)) _ (within (P g.location_name_to_id) (Name (codes "location_name_to_id")) (ids_differ [] g.location_name_to_id) (ids_kept [] g.location_name_to_id)) (λ locations b.
    (refl, record { items = a.1; locations = b.1 })))

games_kept : (gs : List Game) → IfOk (games_named gs) (λ hs. (hs ≡ gs) × All IdsKept gs)
games_kept [] = (refl, All-nil IdsKept)
games_kept (g ∷ gs) =
    let P : Game → Type 0 = λ h. (h ≡ g) × IdsKept g in
    let Q : List Game → Type 0 = λ hs. (hs ≡ g ∷ gs) × All IdsKept (g ∷ gs) in
    after P Q (under (Name g.name) (game_named g)) _ (within P (Name g.name) (game_named g) (game_kept g)) (λ first a.
    after (λ hs. (hs ≡ gs) × All IdsKept gs) Q (games_named gs) _ (games_kept gs) (λ others b.
    let same : first ∷ others ≡ g ∷ gs = cc (a.0, b.0) in
    (same, All-cons IdsKept g gs a.1 b.1)))

-- ---- names

names_kept : (before : List (List ℕ)) (i : ℕ) (ns : List (List ℕ)) → IfOk (names_differ before i ns) (λ _. NewNames before ns × Differ ns)
unfolding IsDistinct
names_kept before i [] = (tt, tt)
names_kept before i (n ∷ ns) =
    let P : Unit {0} → Type 0 = λ _. has_name before n ≡ false in
    let Q : Unit {0} → Type 0 = λ _. NewNames before (n ∷ ns) × Differ (n ∷ ns) in
    after P Q (under (Index i) (demand DuplicateName (not (has_name before n)))) _ (within P (Index i) (demand DuplicateName (not (has_name before n))) (not_false DuplicateName (has_name before n))) (λ differs a.
    IfOk-weaker (names_differ (before ++ n ∷ []) (i + 1) ns) (λ _. NewNames (before ++ n ∷ []) ns × Differ ns) Q (λ _ h.
    let rest : NewNames before ns × NewNames (n ∷ []) ns = split_names before (n ∷ []) ns h.0 in
    let apart : AllByRecursion (λ y. bytes_eq n y ≡ false) ns × NewNames [] ns = apart_from n [] ns rest.1 in
    ((a, rest.0), (apart.0, h.1))) (names_kept (before ++ n ∷ []) (i + 1) ns))

-- ---- slots

abbrev HasStart : Game → StartItem → Type 0
HasStart game s = has_id game.item_name_to_id s.item ≡ true

start_kept : (game : Game) (i : ℕ) (ss : List StartItem) → IfOk (start_named game i ss) (λ _. All (HasStart game) ss)
start_kept game i [] = All-nil (HasStart game)
start_kept game i (s ∷ ss) =
    let P : Unit {0} → Type 0 = λ _. HasStart game s in
    let there = demand UnknownName (has_id game.item_name_to_id s.item) in
    after P (λ _. All (HasStart game) (s ∷ ss)) (under (Index i) (under (Index 0) there)) _ (within P (Index i) (under (Index 0) there) (within P (Index 0) there (demanded UnknownName (has_id game.item_name_to_id s.item)))) (λ _ a.
    IfOk-weaker (start_named game (i + 1) ss) (λ _. All (HasStart game) ss) (λ _. All (HasStart game) (s ∷ ss)) (λ _ b. All-cons (HasStart game) s ss a b) (start_kept game (i + 1) ss))

-- the game of a slot is there, and has the items to begin with
pub record PlayKept (games : List Game) (s : Slot) : Type 0 where
  pub game : is_some (find_game games s.game) ≡ true
  pub start : All (λ i. has_item (find_game games s.game) i.item ≡ true) s.start

-- after these names
record SlotNamed (games : List Game) (before : List (List ℕ)) (s : Slot) (g : Game) : Type 0 where
  found : find_game games s.game ≡ Some g
  new : NewNames before s.names
  differ : Differ s.names
  play : PlayKept games s

slot_kept : (games : List Game) (earlier : List Slot) (s : Slot) → IfOk (slot_named games earlier s) (SlotNamed games (all_names earlier) s)
unfolding slot_named
slot_kept games earlier s =
    let Q : Game → Type 0 = SlotNamed games (all_names earlier) s in
    let N : Unit {0} → Type 0 = λ _. NewNames (all_names earlier) s.names × Differ s.names in
    let F : Game → Type 0 = λ g. find_game games s.game ≡ Some g in
    after N Q (under (Name (codes "names")) (names_differ (all_names earlier) 0 s.names)) _ (within N (Name (codes "names")) (names_differ (all_names earlier) 0 s.names) (names_kept (all_names earlier) 0 s.names)) (λ differ a.
    after F Q (under (Name (codes "game")) (known (find_game games s.game))) _ (within F (Name (codes "game")) (known (find_game games s.game)) (known_kept (find_game games s.game))) (λ game b.
    after (λ _. All (HasStart game) s.start) Q (under (Name (codes "start")) (start_named game 0 s.start)) _ (within (λ _. All (HasStart game) s.start) (Name (codes "start")) (start_named game 0 s.start) (start_kept game 0 s.start)) (λ start c. record {
      found = b;
      new = a.0;
      differ = a.1;
      play = record { game = ap is_some b; start = subst (λ f. All (λ i. has_item f i.item ≡ true) s.start) (sym b) c };
    })))

pub record AreNamed (games : List Game) (ss : List Slot) (ps : List Game) : Type 0 where
  pub plays : PlayAll games ss ps
  pub each : All (PlayKept games) ss
  pub differ : Differ (all_names ss)

all_names-one : (earlier : List Slot) (s : Slot) → all_names (earlier ++ s ∷ []) ≡ all_names earlier ++ s.names
all_names-one [] s = append-nil s.names
all_names-one (e ∷ earlier) s = ap (λ ns. e.names ++ ns) (all_names-one earlier s) ∙ sym (append_assoc e.names (all_names earlier) s.names)

slots_kept : (games : List Game) (earlier : List Slot) (i : ℕ) (ss : List Slot) → IfOk (slots_named games earlier i ss) (λ ps. AreNamed games ss ps × NewNames (all_names earlier) (all_names ss))
unfolding IsDistinct
slots_kept games earlier i [] = (record { plays = tt; each = All-nil (PlayKept games); differ = tt }, tt)
slots_kept games earlier i (s ∷ ss) =
    let before = all_names earlier in
    let Q : List Game → Type 0 = λ ps. AreNamed games (s ∷ ss) ps × NewNames before (all_names (s ∷ ss)) in
    let P : Game → Type 0 = SlotNamed games before s in
    let R : List Game → Type 0 = λ ps. AreNamed games ss ps × NewNames (all_names (earlier ++ s ∷ [])) (all_names ss) in
    after P Q (under (Index i) (slot_named games earlier s)) _ (within P (Index i) (slot_named games earlier s) (slot_kept games earlier s)) (λ first a.
    after R Q (slots_named games (earlier ++ s ∷ []) (i + 1) ss) _ (slots_kept games (earlier ++ s ∷ []) (i + 1) ss) (λ others b.
    let new : NewNames (before ++ s.names) (all_names ss) = subst (λ ns. NewNames ns (all_names ss)) (all_names-one earlier s) b.1 in
    let parts : NewNames before (all_names ss) × NewNames s.names (all_names ss) = split_names before s.names (all_names ss) new in (
      record {
        plays = (a.found, b.0.plays);
        each = All-cons (PlayKept games) s ss a.play b.0.each;
        differ = both_differ s.names (all_names ss) a.differ b.0.differ parts.1;
      },
      both_new before s.names (all_names ss) a.new parts.0,
    )))

-- ---- locations

pub held_total : IsTotalOrder held_cmp
held_total = then_total (on_total (λ h. h.slot) nat_cmp_total) (on_total (λ h. h.location) int_cmp_total)

after_it : (before h : Held) → comes_after (Some before) h ≡ true → held_cmp before h ≡ Less
after_it before h e = grind (arith, e)

abbrev Follows : Option Held → Held → Type 0
Follows None h = Unit {0}
Follows (Some before) h = held_cmp before h ≡ Less

follows : (before : Option Held) (h : Held) → comes_after before h ≡ true → Follows before h
follows None h e = tt
follows (Some before) h e = after_it before h e

-- where these are the games that the slots and the groups play
pub record IsKnown (ps gs : List Game) (h : Held) : Type 0 where
  pub location : has_location (played_by ps h.slot) h.location ≡ true
  pub item : has_item (received_by ps gs h.receiver) h.item ≡ true

held_kept : (ps gs : List Game) (before : Option Held) (h : Held) → IfOk (held_named ps gs before h) (λ _. IsKnown ps gs h × Follows before h)
unfolding held_named
held_kept ps gs before h =
    let Q : Unit {0} → Type 0 = λ _. IsKnown ps gs h × Follows before h in
    let F : Game → Type 0 = λ g. played_by ps h.slot ≡ Some g in
    let R : Game → Type 0 = λ g. received_by ps gs h.receiver ≡ Some g in
    after F Q (under (Index 0) (known (played_by ps h.slot))) _ (within F (Index 0) (known (played_by ps h.slot)) (known_kept (played_by ps h.slot))) (λ finder a.
    let L : Unit {0} → Type 0 = λ _. has_id finder.location_name_to_id h.location ≡ true in
    after L Q (under (Index 1) (demand UnknownName (has_id finder.location_name_to_id h.location))) _ (within L (Index 1) (demand UnknownName (has_id finder.location_name_to_id h.location)) (demanded UnknownName (has_id finder.location_name_to_id h.location))) (λ location b.
    after R Q (under (Index 3) (known (received_by ps gs h.receiver))) _ (within R (Index 3) (known (received_by ps gs h.receiver)) (known_kept (received_by ps gs h.receiver))) (λ receiver c.
    let I : Unit {0} → Type 0 = λ _. has_id receiver.item_name_to_id h.item ≡ true in
    after I Q (under (Index 2) (demand UnknownName (has_id receiver.item_name_to_id h.item))) _ (within I (Index 2) (demand UnknownName (has_id receiver.item_name_to_id h.item)) (demanded UnknownName (has_id receiver.item_name_to_id h.item))) (λ held d.
    IfOk-weaker (demand WrongOrder (comes_after before h)) (λ _. comes_after before h ≡ true) Q (λ _ e. (
      record {
        location = subst (λ f. has_location f h.location ≡ true) (sym a) b;
        item = subst (λ f. has_item f h.item ≡ true) (sym c) d;
      },
      follows before h e,
    )) (demanded WrongOrder (comes_after before h))))))

-- they ascend, the first following this one
record AreFollowing (ps gs : List Game) (before : Option Held) (hs : List Held) : Type 0 where
  known : All (IsKnown ps gs) hs
  first : All (Follows before) hs
  rest : Ascend held_cmp hs

come_before : (h : Held) (hs : List Held) → All (Follows (Some h)) hs → ComesBefore held_cmp h hs
come_before h [] a = tt
come_before h (x ∷ hs) a = (a 0 x (omega arith), come_before h hs (λ k d l. a (suc k) d (omega arith)))

through : (before : Option Held) (h : Held) (hs : List Held) → Follows before h → All (Follows (Some h)) hs → All (Follows before) hs
through None h hs f a = λ k d l. tt
through (Some before) h hs f a = λ k d l. held_total.trans before h (get_or hs k d) f (a k d l)

locations_kept : (ps gs : List Game) (before : Option Held) (i : ℕ) (hs : List Held) → IfOk (locations_named ps gs before i hs) (λ _. AreFollowing ps gs before hs)
locations_kept ps gs before i [] = record { known = All-nil (IsKnown ps gs); first = All-nil (Follows before); rest = tt }
locations_kept ps gs before i (h ∷ hs) =
    let P : Unit {0} → Type 0 = λ _. IsKnown ps gs h × Follows before h in
    after P (λ _. AreFollowing ps gs before (h ∷ hs)) (under (Index i) (held_named ps gs before h)) _ (within P (Index i) (held_named ps gs before h) (held_kept ps gs before h)) (λ first f.
    IfOk-weaker (locations_named ps gs (Some h) (i + 1) hs) (λ _. AreFollowing ps gs (Some h) hs) (λ _. AreFollowing ps gs before (h ∷ hs)) (λ _ r. record {
      known = All-cons (IsKnown ps gs) h hs f.0 r.known;
      first = All-cons (Follows before) h hs f.1 (through before h hs f.1 r.first);
      rest = (come_before h hs r.first, r.rest);
    }) (locations_kept ps gs (Some h) (i + 1) hs))

-- ---- spheres

-- a number from 1 to this
abbrev pub IsWithin : ℕ → ℕ → Type 0
IsWithin count n = (1 ≤ n) × (n ≤ count)

played_within : (ps : List Game) (before : ℕ) → IfOk (known (slice_get ps before)) (λ _. before < length ps)
played_within [] before = tt
played_within (g ∷ ps) zero = omega arith
played_within (g ∷ ps) (suc before) = IfOk-weaker (known (slice_get ps before)) (λ _. before < length ps) (λ _. suc before < length (g ∷ ps)) (λ _ h. omega (arith, h)) (played_within ps before)

number_within : (ps : List Game) (n : ℕ) → IfOk (known (played_by ps n)) (λ _. IsWithin (length ps) n)
number_within ps zero = tt
number_within ps (suc before) = IfOk-weaker (known (slice_get ps before)) (λ _. before < length ps) (λ _. IsWithin (length ps) (suc before)) (λ _ h. (omega arith, omega (arith, h))) (played_within ps before)

abbrev pub IsThere : List Game → Spot → Type 0
IsThere ps s = IsWithin (length ps) s.slot

spot_kept : (ps : List Game) (s : Spot) → IfOk (spot_named ps s) (λ _. IsThere ps s)
unfolding spot_named
spot_kept ps s =
    after (λ _. IsThere ps s) (λ _. IsThere ps s) (under (Index 0) (known (played_by ps s.slot))) _ (within (λ _. IsThere ps s) (Index 0) (known (played_by ps s.slot)) (number_within ps s.slot)) (λ game a. a)

sphere_kept : (ps : List Game) (i : ℕ) (ss : List Spot) → IfOk (sphere_named ps i ss) (λ _. All (IsThere ps) ss)
sphere_kept ps i [] = All-nil (IsThere ps)
sphere_kept ps i (s ∷ ss) =
    after (λ _. IsThere ps s) (λ _. All (IsThere ps) (s ∷ ss)) (under (Index i) (spot_named ps s)) _ (within (λ _. IsThere ps s) (Index i) (spot_named ps s) (spot_kept ps s)) (λ _ a.
    IfOk-weaker (sphere_named ps (i + 1) ss) (λ _. All (IsThere ps) ss) (λ _. All (IsThere ps) (s ∷ ss)) (λ _ b. All-cons (IsThere ps) s ss a b) (sphere_kept ps (i + 1) ss))

spheres_kept : (ps : List Game) (i : ℕ) (ss : List (List Spot)) → IfOk (spheres_named ps i ss) (λ _. All (All (IsThere ps)) ss)
spheres_kept ps i [] = All-nil (All (IsThere ps))
spheres_kept ps i (s ∷ ss) =
    after (λ _. All (IsThere ps) s) (λ _. All (All (IsThere ps)) (s ∷ ss)) (under (Index i) (sphere_named ps 0 s)) _ (within (λ _. All (IsThere ps) s) (Index i) (sphere_named ps 0 s) (sphere_kept ps 0 s)) (λ _ a.
    IfOk-weaker (spheres_named ps (i + 1) ss) (λ _. All (All (IsThere ps)) ss) (λ _. All (All (IsThere ps)) (s ∷ ss)) (λ _ b. All-cons (All (IsThere ps)) s ss a b) (spheres_kept ps (i + 1) ss))

-- ---- the whole

pub record NamesKept (seed : Seed) : Type 0 where
  pub ids : All IdsKept seed.games
  pub plays : All (PlayKept seed.games) seed.slots
  pub differ : Differ (all_names seed.slots)
  pub games : List Game
  pub played : PlayAll seed.games seed.slots games
  pub grouped : List Game
  pub groups : AreGrouped seed.games seed [] seed.groups grouped
  pub known : All (IsKnown games grouped) seed.locations
  pub ascend : Ascend held_cmp seed.locations
  pub there : All (All (IsThere games)) seed.spheres

pub seed_names_kept : (seed : Seed) → IfOk (names_named seed) (λ _. NamesKept seed)
unfolding names_named
seed_names_kept seed =
    let Q : Unit {0} → Type 0 = λ _. NamesKept seed in
    let G : List Game → Type 0 = λ games. (games ≡ seed.games) × All IdsKept seed.games in
    after G Q (under (Name (codes "games")) (games_named seed.games)) _ (within G (Name (codes "games")) (games_named seed.games) (games_kept seed.games)) (λ games a.
    let S : List Game → Type 0 = λ ps. AreNamed games seed.slots ps × NewNames [] (all_names seed.slots) in
    after S Q (under (Name (codes "slots")) (slots_named games [] 0 seed.slots)) _ (within S (Name (codes "slots")) (slots_named games [] 0 seed.slots) (slots_kept games [] 0 seed.slots)) (λ ps b.
    let named : AreNamed seed.games seed.slots ps = subst (λ gs. AreNamed gs seed.slots ps) a.0 b.0 in
    let R : List Game → Type 0 = AreGrouped games seed [] seed.groups in
    after R Q (under (Name (codes "groups")) (groups_named games seed [] 0 seed.groups)) _ (within R (Name (codes "groups")) (groups_named games seed [] 0 seed.groups) (groups_kept games seed [] 0 seed.groups)) (λ gs r.
    let L : Unit {0} → Type 0 = λ _. AreFollowing ps gs None seed.locations in
    after L Q (under (Name (codes "locations")) (locations_named ps gs None 0 seed.locations)) _ (within L (Name (codes "locations")) (locations_named ps gs None 0 seed.locations) (locations_kept ps gs None 0 seed.locations)) (λ locations c.
    let T : Unit {0} → Type 0 = λ _. All (All (IsThere ps)) seed.spheres in
    IfOk-weaker (under (Name (codes "spheres")) (spheres_named ps 0 seed.spheres)) T Q (λ _ d. record {
      ids = a.1;
      plays = named.each;
      differ = named.differ;
      games = ps;
      played = named.plays;
      grouped = gs;
      groups = subst (λ games. AreGrouped games seed [] seed.groups gs) a.0 r;
      known = c.known;
      ascend = c.rest;
      there = d;
    }) (within T (Name (codes "spheres")) (spheres_named ps 0 seed.spheres) (spheres_kept ps 0 seed.spheres))))))
