-- What a joint of players and worlds has: the players' names, and one world for each game.
use Rattle.std.proofs.Common.{◌≡◌, ◌<◌, ◌+◌, ℕ, zero, suc, List, [], ◌∷◌, ◌++◌, Bool, true, false, Option, Some, None, Result, Ok, Err, inl, inr, length, map, flat_map, sum_by, bytes_eq, get_or, refl, sym, ap, ap₂, subst, ◌∙◌, arith}
use Rattle.std.specs.Prelude.{◌||◌, All, IfOk, slice_index_or, if◌then◌else◌}
use Rattle.std.specs.List.{IsDistinct, AllByRecursion, list_any}
use Rattle.std.proofs.lemmas.List.Elements.{All-nil, All-cons, All-head, All-tail}
use Rattle.std.proofs.lemmas.Bool.{cases_lt}
use Rattle.std.proofs.lemmas.Result.{IfOk-at_ok, IfOk-weaker}
use Rattle.std.proofs.lemmas.Slice.Eq.{bytes_eq-Decides}
use Rattle.mw_multi.specs.World.{World, place_count}
use Rattle.mw_multi.specs.Names.{IsName, NamesDiffer}
use Rattle.mw_multi.specs.Players.{Player, ItemLink, Players}
use Rattle.mw_multi.specs.PlayersKept.{PlayerKept, ItemLinkKept, player_names, link_name, IsPlayers}
use Rattle.mw_multi.specs.Files.{world_files, no_world, world_at, world_named}
use Rattle.mw_multi.specs.Joint as joined
use Rattle.mw_multi.specs.Joint.{Joint, Link, SlotKept, IsJoint, place_total}
use Rattle.mw_multi.specs.Links.{Sharing, left_by, left_by_items, links_of, pool_rows, with_left, each_with_left, slots_after}
use Rattle.mw_multi.specs.JointOf.{◌>>=◌, has_game, games_differ, flags_option, start_option, slot_of, slots_from, links_play, shared_items, sharing_of, sharings_from, few_places, world_text, few_text, joint_of}
use Rattle.mw_multi.specs.Joint.{world_of, first_slot}
use Rattle.mw_multi.specs.Labels.{item_labels, location_labels}
use Rattle.mw_multi.specs.declared.refusal.OptionName.TheVariants.{LocalItems, NonLocalItems, ExcludeLocations, PriorityLocations}
use Rattle.mw_multi.specs.declared.refusal.JointRefusal.{JointRefusal}
use Rattle.mw_multi.specs.declared.refusal.JointRefusal.TheVariants.{GameTwice}
use Rattle.mw_multidata.specs.Names.{all_names}
use Rattle.mw_seeds.specs.SeedFile.{file_slot}
use Rattle.mw_seeds.proofs.Elements.{holds_in, distinct_front}
use Rattle.mw_seeds.proofs.SeedPlays.{HasNames, OneWorldEach}

-- ---- step by step

module _ {A B : Type 0} where
  past : (Q : B → Type 0) (read : Result A JointRefusal) (next : A → Result B JointRefusal) → ((x : A) → IfOk (next x) Q) → IfOk (read >>= next) Q
  past Q (Ok x) next k = k x
  past Q (Err e) next k = tt

  after : (P : A → Type 0) (Q : B → Type 0) (read : Result A JointRefusal) (next : A → Result B JointRefusal) → IfOk read P → ((x : A) → P x → IfOk (next x) Q) → IfOk (read >>= next) Q
  after P Q (Ok x) next h k = k x h
  after P Q (Err e) next h k = tt

-- ---- slots

-- the slot of a player, whose world is this
record IsSlotOf (p : Player) (w : World) (s : joined.Slot) : Type 0 where
  names : s.names ≡ p.names
  world : s.world ≡ w

slot_is : (slot : ℕ) (p : Player) (w : World) (place first : ℕ) → IfOk (slot_of slot p w place first) (IsSlotOf p w)
unfolding slot_of
slot_is slot p w place first =
    past (IsSlotOf p w) (flags_option slot LocalItems (item_labels w.items) p.options.local_items) _ (λ a.
    past (IsSlotOf p w) (flags_option slot NonLocalItems (item_labels w.items) p.options.non_local_items) _ (λ b.
    past (IsSlotOf p w) (flags_option slot ExcludeLocations (location_labels w.locations) p.options.exclude_locations) _ (λ c.
    past (IsSlotOf p w) (flags_option slot PriorityLocations (location_labels w.locations) p.options.priority_locations) _ (λ d.
    past (IsSlotOf p w) (start_option slot (item_labels w.items) 0 p.options.start_inventory) _ (λ e. record { names = refl; world = refl })))))

-- one for each player
abbrev AreSlotsOf : (List ℕ → World) → List Player → List joined.Slot → Type 0
AreSlotsOf named [] ss = ss ≡ []
AreSlotsOf named (p ∷ ps) ss = (s : joined.Slot) × (others : List joined.Slot) × (ss ≡ s ∷ others) × IsSlotOf p (named p.world) s × AreSlotsOf named ps others

slots_are : (named : List ℕ → World) (slot place first : ℕ) (ps : List Player) → IfOk (slots_from named slot place first ps) (AreSlotsOf named ps)
slots_are named slot place first [] = refl
slots_are named slot place first (p ∷ ps) =
    after (IsSlotOf p (named p.world)) (AreSlotsOf named (p ∷ ps)) (slot_of slot p (named p.world) place first) _ (slot_is slot p (named p.world) place first) (λ s h.
    after (AreSlotsOf named ps) (AreSlotsOf named (p ∷ ps)) (slots_from named (slot + 1) (place + place_count (named p.world)) (first + length (named p.world).items) ps) _ (slots_are named (slot + 1) (place + place_count (named p.world)) (first + length (named p.world).items) ps) (λ others k. (s, others, refl, h, k)))

-- what links leave is of the same players
each_left : (named : List ℕ → World) (ps : List Player) (rows : List (List ℕ)) (ss : List joined.Slot) → AreSlotsOf named ps ss → AreSlotsOf named ps (each_with_left rows ss)
each_left named [] [] ss h = ap (each_with_left []) h
each_left named [] (row ∷ rows) ss h = ap (each_with_left (row ∷ rows)) h
each_left named (p ∷ ps) [] ss (s, others, is, here, later) = (s, others, ap (each_with_left []) is, here, later)
each_left named (p ∷ ps) (row ∷ rows) ss (s, others, is, here, later) =
    (with_left row s, each_with_left rows others, ap (each_with_left (row ∷ rows)) is, record { names = here.names; world = here.world }, each_left named ps rows others later)

all_left : (named : List ℕ → World) (ps : List Player) (ss : List joined.Slot) (ls : List Sharing) → AreSlotsOf named ps ss → AreSlotsOf named ps (slots_after ss ls)
all_left named ps ss [] h = h
all_left named ps ss (l ∷ ls) h = each_left named ps (left_by (pool_rows ss) (l ∷ ls)) ss h

-- ---- links

abbrev sharing_name : Sharing → List ℕ
sharing_name l = l.name

abbrev pub joined_name : Link → List ℕ
joined_name l = l.name

sharing_named : (slots : List joined.Slot) (n : ℕ) (l : ItemLink) → IfOk (sharing_of slots n l) (λ s. s.name ≡ l.name)
unfolding sharing_of
sharing_named slots n l = past (λ (s : Sharing). s.name ≡ l.name) (shared_items n (item_labels (world_of (first_slot slots l.members)).items) 0 l.items) _ (λ items. refl)

abbrev AreNamed : List ItemLink → List Sharing → Type 0
AreNamed links ls = map sharing_name ls ≡ map link_name links

sharings_named : (slots : List joined.Slot) (n : ℕ) (links : List ItemLink) → IfOk (sharings_from slots n links) (AreNamed links)
sharings_named slots n [] = refl
sharings_named slots n (l ∷ links) =
    after (λ (s : Sharing). s.name ≡ l.name) (AreNamed (l ∷ links)) (sharing_of slots n l) _ (sharing_named slots n l) (λ s h.
    after (AreNamed links) (AreNamed (l ∷ links)) (sharings_from slots (n + 1) links) _ (sharings_named slots (n + 1) links) (λ others k. ap₂ (λ (x : List ℕ) (xs : List (List ℕ)). x ∷ xs) h k))

links_named : (left : List (List ℕ)) (ls : List Sharing) → map joined_name (links_of left ls) ≡ map sharing_name ls
links_named left [] = refl
links_named left (l ∷ ls) = ap (λ xs. l.name ∷ xs) (links_named (left_by_items left l.members l.items) ls)

-- ---- games

abbrev world_game : World → List ℕ
world_game w = w.game

if_none : (a b : Bool) → (a || b) ≡ false → (a ≡ false) × (b ≡ false)
if_none true b h = cc
if_none false b h = (refl, h)

-- no world after these has the game of one before it
record GamesApart (before ws : List World) : Type 0 where
  fresh : All (λ w. has_game before w.game ≡ false) ws
  differ : NamesDiffer (map world_game ws)

-- what isn't among more isn't among fewer, and differs from the last
any_more : (p : World → Bool) (before : List World) (w : World) → list_any p (before ++ w ∷ []) ≡ false → (list_any p before ≡ false) × (p w ≡ false)
any_more p [] w h = (refl, (if_none (p w) false h).0)
any_more p (b ∷ before) w h =
    let parts = if_none (p b) (list_any p (before ++ w ∷ [])) h in
    let later = any_more p before w parts.1 in
    (rw parts.0 later.0, later.1)

each_fresh : (before : List World) (w : World) (ws : List World) → All (λ v. has_game (before ++ w ∷ []) v.game ≡ false) ws → AllByRecursion (λ y. bytes_eq w.game y ≡ false) (map world_game ws)
each_fresh before w [] h = tt
each_fresh before w (v ∷ ws) h =
    let Fresh : World → Type 0 = λ u. has_game (before ++ w ∷ []) u.game ≡ false in
    ((any_more (λ u. bytes_eq u.game v.game) before w (All-head Fresh v ws h)).1, each_fresh before w ws (All-tail Fresh v ws h))

fewer_before : (before : List World) (w : World) (ws : List World) → All (λ v. has_game (before ++ w ∷ []) v.game ≡ false) ws → All (λ v. has_game before v.game ≡ false) ws
fewer_before before w ws h = λ k d l. (any_more (λ u. bytes_eq u.game (slice_index_or ws k d).game) before w (h k d l)).0

by_game : (before : List World) (n : ℕ) (w : World) (ws : List World) (b : Bool) → has_game before w.game ≡ b → IfOk (games_differ (before ++ w ∷ []) (n + 1) ws) (λ _. GamesApart (before ++ w ∷ []) ws)
    → IfOk (if b then Err (GameTwice n) else games_differ (before ++ w ∷ []) (n + 1) ws) (λ _. GamesApart before (w ∷ ws))
unfolding IsDistinct
by_game before n w ws true is h = tt
by_game before n w ws false is h =
    IfOk-weaker (games_differ (before ++ w ∷ []) (n + 1) ws) (λ _. GamesApart (before ++ w ∷ []) ws) (λ _. GamesApart before (w ∷ ws)) (λ _ apart. record {
      fresh = All-cons (λ v. has_game before v.game ≡ false) w ws is (fewer_before before w ws apart.fresh);
      differ = (each_fresh before w ws apart.fresh, apart.differ);
    }) h

games_apart : (before : List World) (n : ℕ) (ws : List World) → IfOk (games_differ before n ws) (λ _. GamesApart before ws)
unfolding IsDistinct
games_apart before n [] = record { fresh = All-nil (λ w. has_game before w.game ≡ false); differ = tt }
games_apart before n (w ∷ ws) = by_game before n w ws (has_game before w.game) refl (games_apart (before ++ w ∷ []) (n + 1) ws)

nth_apart : (name : List ℕ) (ws : List World) (j : ℕ) (d : World) → AllByRecursion (λ y. bytes_eq name y ≡ false) (map world_game ws) → j < length ws → bytes_eq name (get_or ws j d).game ≡ false
nth_apart name [] j d h l = absurd (omega (arith, l))
nth_apart name (w ∷ ws) zero d h l = h.0
nth_apart name (w ∷ ws) (suc j) d h l = nth_apart name ws j d h.1 (omega (arith, l))

-- two worlds of one game stand at one index
same_index : (ws : List World) (d : World) (i j : ℕ) → NamesDiffer (map world_game ws) → i < j → j < length ws → (get_or ws i d).game ≡ (get_or ws j d).game → ⊥
unfolding IsDistinct
same_index [] d i j h less l e = omega (arith, l)
same_index (w ∷ ws) d i zero h less l e = omega (arith, less)
same_index (w ∷ ws) d zero (suc j) h less l e =
    let equal : bytes_eq w.game (get_or ws j d).game ≡ true = (bytes_eq-Decides w.game (get_or ws j d).game).1 e in
    let apart : bytes_eq w.game (get_or ws j d).game ≡ false = nth_apart w.game ws j d h.0 (omega (arith, l)) in
    cc
same_index (w ∷ ws) d (suc i) (suc j) h less l e = same_index ws d i j h.1 (omega (arith, less)) (omega (arith, l)) e

-- ---- the world of a slot

at_index : (ws : List World) (d : World) (n : ℕ) → d ≡ no_world → 0 < length (get_or ws n no_world).game → (k : ℕ) × (k < length ws) × (get_or ws n no_world ≡ get_or ws k d)
at_index [] d n is h = absurd (omega (arith, h))
at_index (w ∷ ws) d zero is h = (0, omega arith, refl)
at_index (w ∷ ws) d (suc n) is h = let later = at_index ws d n is h in (suc later.0, omega (arith, later.1), later.2)

-- the world stands in the list, unless it has no game
world_in : (ws : List World) (d : World) (o : Option ℕ) → d ≡ no_world → 0 < length (world_at ws o).game → (k : ℕ) × (k < length ws) × (world_at ws o ≡ get_or ws k d)
world_in ws d None is h = absurd (omega (arith, h))
world_in ws d (Some n) is h = at_index ws d n is h

one_world : (ws : List World) (d : World) (a b : Option ℕ) → d ≡ no_world → NamesDiffer (map world_game ws) → 0 < length (world_at ws a).game → 0 < length (world_at ws b).game
    → (world_at ws a).game ≡ (world_at ws b).game → world_at ws a ≡ world_at ws b
one_world ws d a b is h there here e =
    let x = world_in ws d a is there in
    let y = world_in ws d b is here in
    let games : (get_or ws x.0 d).game ≡ (get_or ws y.0 d).game = ap world_game (sym x.2) ∙ e ∙ ap world_game y.2 in
    elim (cases_lt x.0 y.0) [
      | inl less ↦ absurd (same_index ws d x.0 y.0 h less y.1 games)
      | inr more ↦ elim (cases_lt y.0 x.0) [
        | inl less ↦ absurd (same_index ws d y.0 x.0 h less x.1 (sym games))
        | inr least ↦ let same : x.0 ≡ y.0 = omega (arith, more, least) in x.2 ∙ ap (λ k. get_or ws k d) same ∙ sym y.2
      ]
    ]

-- ---- all slots

slot_worlds : (named : List ℕ → World) (ps : List Player) (ss : List joined.Slot) → AreSlotsOf named ps ss → All (λ s. (p : Player) × (s.world ≡ named p.world)) ss
slot_worlds named [] ss h = subst (All (λ s. (p : Player) × (s.world ≡ named p.world))) (sym h) (All-nil (λ s. (p : Player) × (s.world ≡ named p.world)))
slot_worlds named (p ∷ ps) ss (s, others, is, here, later) =
    subst (All (λ s. (p : Player) × (s.world ≡ named p.world))) (sym is) (All-cons (λ s. (p : Player) × (s.world ≡ named p.world)) s others (p, here.world) (slot_worlds named ps others later))

slot_names : (named : List ℕ → World) (ps : List Player) (ss : List joined.Slot) → AreSlotsOf named ps ss → all_names (map file_slot ss) ≡ flat_map player_names ps
slot_names named [] ss h = ap (λ xs. all_names (map file_slot xs)) h
slot_names named (p ∷ ps) ss (s, others, is, here, later) = ap (λ xs. all_names (map file_slot xs)) is ∙ ap₂ (λ (a b : List (List ℕ)). a ++ b) here.names (slot_names named ps others later)

slots_named_well : (named : List ℕ → World) (teams : ℕ) (ps : List Player) (ss : List joined.Slot) → All (PlayerKept teams) ps → AreSlotsOf named ps ss → All (HasNames teams) ss
slots_named_well named teams [] ss kept h = subst (All (HasNames teams)) (sym h) (All-nil (HasNames teams))
slots_named_well named teams (p ∷ ps) ss kept (s, others, is, here, later) =
    let first : PlayerKept teams p = All-head (PlayerKept teams) p ps kept in
    subst (All (HasNames teams)) (sym is) (All-cons (HasNames teams) s others (record { count = ap length here.names ∙ first.count; names = subst (All (IsName 16)) (sym here.names) first.names })
    (slots_named_well named teams ps others (All-tail (PlayerKept teams) p ps kept) later))

named_so : (links : List Link) (ls : List ItemLink) (slots : ℕ) → map joined_name links ≡ map link_name ls → All (ItemLinkKept slots) ls → All (λ (l : Link). IsName 16 l.name) links
named_so [] ls slots e h = All-nil (λ (l : Link). IsName 16 l.name)
named_so (k ∷ links) [] slots e h = cc
named_so (k ∷ links) (l ∷ ls) slots e h =
    let first : l.name ≡ k.name = cc in
    let others : map joined_name links ≡ map link_name ls = cc in
    All-cons (λ (l : Link). IsName 16 l.name) k links (subst (IsName 16) first (All-head (ItemLinkKept slots) l ls h).name) (named_so links ls slots others (All-tail (ItemLinkKept slots) l ls h))

-- ---- the whole

record IsJoined (worlds : List World) (players : Players) (joint : Joint) : Type 0 where
  teams : joint.teams ≡ players.teams
  room : joint.room ≡ players.room
  slots : AreSlotsOf (world_named (world_files players) worlds) players.players joint.slots
  games : NamesDiffer (map world_game worlds)
  links : map joined_name joint.links ≡ map link_name players.links

joined_so : (worlds : List World) (players : Players) → IfOk (joint_of worlds players) (IsJoined worlds players)
unfolding joint_of
joined_so worlds players =
    let Q : Joint → Type 0 = IsJoined worlds players in
    after (λ _. GamesApart [] worlds) Q (games_differ [] 0 worlds) _ (games_apart [] 0 worlds) (λ games a.
    after (AreSlotsOf (world_named (world_files players) worlds) players.players) Q (slots_from (world_named (world_files players) worlds) 1 0 0 players.players) _ (slots_are (world_named (world_files players) worlds) 1 0 0 players.players) (λ slots b.
    past Q (links_play slots 0 players.links) _ (λ play.
    after (AreNamed players.links) Q (sharings_from slots 0 players.links) _ (sharings_named slots 0 players.links) (λ sharings n.
    past Q (few_places (place_total slots)) _ (λ places. past Q (few_text (sum_by world_text worlds)) _ (λ text. record {
      teams = refl;
      room = refl;
      slots = all_left (world_named (world_files players) worlds) players.players slots sharings b;
      games = a.differ;
      links = links_named (pool_rows slots) sharings ∙ n;
    }))))))

module _ (worlds : List World) (players : Players) (joint : Joint) (is : joint_of worlds players ≡ Ok joint) where
  known : IsJoined worlds players joint
  known = IfOk-at_ok (IsJoined worlds players) is (joined_so worlds players)

  pub joint_teams : joint.teams ≡ players.teams
  joint_teams = known.teams

  pub joint_room : joint.room ≡ players.room
  joint_room = known.room

  -- no two slots and links have one name
  pub all_differ : IsPlayers players → NamesDiffer (all_names (map file_slot joint.slots) ++ map joined_name joint.links)
  all_differ kept =
      subst NamesDiffer (sym (ap₂ (λ (a b : List (List ℕ)). a ++ b) (slot_names (world_named (world_files players) worlds) players.players joint.slots known.slots) known.links)) kept.differ

  pub names_differ_all : IsPlayers players → NamesDiffer (all_names (map file_slot joint.slots))
  names_differ_all kept = distinct_front bytes_eq (all_names (map file_slot joint.slots)) (map joined_name joint.links) (all_differ kept)

  pub links_good : IsPlayers players → All (λ l. IsName 16 l.name) joint.links
  links_good kept = named_so joint.links players.links (length players.players) known.links kept.links

  pub names_good : IsPlayers players → All (HasNames joint.teams) joint.slots
  names_good kept = subst (λ n. All (HasNames n) joint.slots) (sym known.teams) (slots_named_well (world_named (world_files players) worlds) players.teams players.players joint.slots kept.each known.slots)

  pub one_world_each : IsJoint joint → OneWorldEach joint.slots
  one_world_each kept s t here there e =
      let Known : joined.Slot → Type 0 = λ s. (p : Player) × (s.world ≡ world_named (world_files players) worlds p.world) in
      let all = slot_worlds (world_named (world_files players) worlds) players.players joint.slots known.slots in
      let a = holds_in Known joint.slots s all here in
      let b = holds_in Known joint.slots t all there in
      let first : 0 < length s.world.game = (holds_in SlotKept joint.slots s kept.each here).world.game.there in
      let second : 0 < length t.world.game = (holds_in SlotKept joint.slots t kept.each there).world.game.there in
      a.1 ∙ one_world worlds (no_world) _ _ refl known.games (subst (λ (w : World). 0 < length w.game) a.1 first) (subst (λ (w : World). 0 < length w.game) b.1 second) (ap world_game (sym a.1) ∙ e ∙ ap world_game b.1) ∙ sym b.1
