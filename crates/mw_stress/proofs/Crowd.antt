-- The players of `stress` keep what a players file keeps.
use Rattle.std.proofs.Common.{◌≡◌, ◌+◌, ◌-◌, ℕ, zero, suc, List, [], ◌∷◌, ◌++◌, Ok, flat_map, length, refl, sym, ap, subst, ◌∙◌, arith, append_assoc, append-nil, length-append}
use Rattle.std.specs.Prelude.{All, Bool, false}
use Rattle.std.specs.Fmt.{digits}
use Rattle.std.specs.Str.{bytes_eq, chars}
use Rattle.std.specs.List.{AllByRecursion, IsDistinct}
use Rattle.std.proofs.lemmas.Grind.{flat_map-append}
use Rattle.std.proofs.lemmas.List.{get_or_append_left}
use Rattle.std.proofs.lemmas.List.Elements.{All-nil}
use Rattle.mw_json.specs.Grammar.{name_at, list_up_to, field_at}
use Rattle.mw_json.specs.Parts.{list_of_length}
use Rattle.mw_json.specs.Readers.{field_or_at}
use Rattle.mw_json.specs.Settings.{password_at, permission_at, remaining_at}
use Rattle.mw_json.specs.Valid.{IsValid, ItemsAreValid}
use Rattle.mw_model.specs.Json.{Json}
use Rattle.mw_model.specs.Seed.{RoomOptions}
use Rattle.mw_model.specs.Trees.{items_of}
use Rattle.mw_multi.specs.Players.{Player, ItemLink}
use Rattle.mw_multi.specs.PlayersKept.{IsPlayers, PlayerKept, ItemLinkKept, player_names}
use Rattle.mw_tables.specs.PlayersShape.{room_at, form_at, team_names_at, player_at, player_list_at, players_shape_at}
use Rattle.mw_tables.specs.PlayersOf.{all_named}
use Rattle.mw_tables.proofs.PlayersAccepted.{is_players}
use Rattle.mw_stress.specs.Stress.{IsCrowd, player, players_below, players, room}
use Rattle.mw_stress.proofs.WorldJson.{player_json, player_list, players_json}

-- ---- sixty-four

shaped : players_shape_at (players_json 64) ≡ Ok (players 64)
unfolding players_shape_at player_list_at player_at team_names_at room_at password_at permission_at remaining_at form_at name_at list_up_to list_of_length field_at field_or_at chars digits
shaped = refl

differ : all_named (players 64) ≡ Ok tt
unfolding all_named digits
differ = refl

player_valid : (i : ℕ) → IsValid (player_json i)
player_valid i = ((tt, tt), (refl, tt), (tt, tt, tt))

one_more : (js : List Json) (j : Json) → ItemsAreValid (items_of js) → IsValid j → ItemsAreValid (items_of (js ++ j ∷ []))
one_more [] j all one = (one, tt)
one_more (k ∷ js) j all one = (all.0, one_more js j all.1 one)

list_valid : (many : ℕ) → ItemsAreValid (items_of (player_list many))
list_valid zero = tt
list_valid (suc n) = one_more (player_list n) (player_json n) (list_valid n) (player_valid n)

valid : (many : ℕ) → IsValid (players_json many)
valid many = (tt, (refl, (refl, tt)), (list_valid many, (refl, tt), ((tt, (refl, tt), (tt, tt, tt)), tt, tt)))

all_are : IsPlayers (players 64)
all_are = is_players (players_json 64) (players 64) tt (valid 64) shaped differ

-- ---- fewer

-- the players behind so many, up to so many more
abbrev pub rest : ℕ → ℕ → List Player
rest n zero = []
rest n (suc more) = player n ∷ rest (suc n) more

pub parted : (more n : ℕ) → players_below n ++ rest n more ≡ players_below (more + n)
parted zero n = let same : n ≡ 0 + n = omega arith in append-nil (players_below n) ∙ ap players_below same
parted (suc more) n =
    let same : more + suc n ≡ suc more + n = omega arith in
    sym (append_assoc (players_below n) (player n ∷ []) (rest (suc n) more)) ∙ parted more (suc n) ∙ ap players_below same

all_front : {X : Type 0} (P : X → Type 0) (xs ys : List X) → All P (xs ++ ys) → All P xs
all_front P xs ys h k d lt = let long = length-append xs ys in subst P (get_or_append_left xs ys d k lt) (h k d (omega (arith, long, lt)))

each_front : {X : Type 0} (P : X → Type 0) (xs ys : List X) → AllByRecursion P (xs ++ ys) → AllByRecursion P xs
each_front P [] ys h = tt
each_front P (x ∷ xs) ys h = (h.0, each_front P xs ys h.1)

distinct_front : {X : Type 0} (e : X → X → Bool) (xs ys : List X) → IsDistinct e (xs ++ ys) → IsDistinct e xs
unfolding IsDistinct
distinct_front e [] ys h = tt
distinct_front e (x ∷ xs) ys h = (each_front (λ y. e x y ≡ false) xs ys h.0, distinct_front e xs ys h.1)

how_many : (n : ℕ) → length (players_below n) ≡ n
how_many zero = refl
how_many (suc n) = let long = length-append (players_below n) (player n ∷ []) in let before = how_many n in omega (arith, long, before)

pub are_players : (many : ℕ) → IsCrowd many → IsPlayers (players many)
are_players many crowd =
    let full = all_are in
    let more = 64 - many in
    let high = crowd.high in
    let same : more + many ≡ 64 = omega (arith, high) in
    let whole : players_below many ++ rest many more ≡ players_below 64 = parted more many ∙ ap players_below same in
    let long = how_many many in
    record {
      some_teams = full.some_teams;
      few_teams = full.few_teams;
      room = full.room;
      some_players = omega (arith, long, crowd.low);
      few_players = omega (arith, long, crowd.high);
      few_receivers = omega (arith, long, crowd.high);
      links = All-nil (ItemLinkKept (length (players_below many)));
      each = all_front (PlayerKept 1) (players_below many) (rest many more) (subst (All (PlayerKept 1)) (sym whole) full.each);
      differ = subst (IsDistinct bytes_eq) (sym (append-nil (flat_map player_names (players_below many))))
          (distinct_front bytes_eq (flat_map player_names (players_below many)) (flat_map player_names (rest many more))
          (subst (IsDistinct bytes_eq) (append-nil (flat_map player_names (players_below 64)) ∙ ap (flat_map player_names) (sym whole) ∙ flat_map-append player_names (players_below many) (rest many more)) full.differ));
    }

-- a room, a list of players and no links that are those of so many make their players file
pub players_so : (many : ℕ) (settings : RoomOptions) (list : List Player) (links : List ItemLink) → IsCrowd many → settings ≡ room → list ≡ players_below many → links ≡ []
    → IsPlayers record { teams = 1; room = settings; players = list; links = links }
players_so many settings list links crowd room_is list_is links_are =
    subst (λ (r : RoomOptions). IsPlayers record { teams = 1; room = r; players = list; links = links }) (sym room_is)
    (subst (λ (ps : List Player). IsPlayers record { teams = 1; room = room; players = ps; links = links }) (sym list_is)
    (subst (λ (ls : List ItemLink). IsPlayers record { teams = 1; room = room; players = players_below many; links = ls }) (sym links_are) (are_players many crowd)))
