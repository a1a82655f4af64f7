-- Rows of Room A's hints beside their definitions: a hint costs 1, and a location is worth 1.
use Rattle.std.specs.Prelude.{ℕ, ℤ, pos, ◌≡◌, ◌∷◌, [], List, true, false, refl, codes}
use Rattle.mw_model.specs.Seed.{Seed, Game, NamedId}
use Rattle.mw_protocol.specs.Examples.{room_a, after}
use Rattle.mw_protocol.specs.HintList.{hints}
use Rattle.mw_protocol.specs.Hints.{Answer, Wanted, item_wanted, location_wanted, bought, no_such_name, nothing_to_hint, too_dear, bought_for, scouted_for, marks, told_hints}
use Rattle.mw_protocol.specs.Records.{Record, Hint, checks, hint, hint_status}
use Rattle.mw_protocol.specs.Standing.{standing, is_checked, points}

abbrev pub named : List ℕ → ℤ → NamedId
named name id = record { name = name; id = id }

abbrev pub game_g : Game
game_g = record {
  name = codes "G";
  item_name_to_id = named (codes "Boots") (pos 5) ∷ named (codes "Coin") (pos 8)
      ∷ named (codes "Map") (pos 9) ∷ named (codes "Sword") (pos 7) ∷ [];
  location_name_to_id = named (codes "A1") (pos 101) ∷ named (codes "A2") (pos 102)
      ∷ named (codes "B1") (pos 201) ∷ [];
}

abbrev pub with_names : Seed
with_names = record {
  seed_name = room_a.seed_name;
  teams = room_a.teams;
  server = room_a.server;
  games = game_g ∷ [];
  slots = room_a.slots;
  groups = [];
  locations = room_a.locations;
  spheres = room_a.spheres;
}

abbrev pub both : List Record
both = checks 0 1 (pos 101 ∷ pos 102 ∷ []) ∷ []

-- the Map lies at Bob's 201
abbrev pub map_hint : Hint
map_hint =
    record { team = 0; finder = 2; location = pos 201; bought = true; buyer = 1; status = 30 }

-- what Ann is answered after a journal
abbrev pub ann_wants : List Record → Wanted → Answer
ann_wants journal wanted =
    bought_for with_names (is_checked (standing with_names journal))
    (points with_names (standing with_names journal) 0 1) (hints journal) 0 1 wanted

-- with two points Ann buys the hint of her Map
pub map_is_bought : ann_wants both (item_wanted (codes "Map")) ≡ bought map_hint
map_is_bought = refl

-- and has one point left
pub one_point_left : points with_names
    (standing with_names (checks 0 1 (pos 101 ∷ pos 102 ∷ []) ∷ hint map_hint ∷ [])) 0 1 ≡ 1
one_point_left = refl

-- a location has one hint
pub not_twice : ann_wants (checks 0 1 (pos 101 ∷ pos 102 ∷ []) ∷ hint map_hint ∷ [])
    (item_wanted (codes "Map")) ≡ nothing_to_hint
not_twice = refl

-- without a point it is too dear
pub without_points : ann_wants [] (item_wanted (codes "Map")) ≡ too_dear 1 0
without_points = refl

-- a name of no item; an item that nothing holds for her; a location of another's world
pub names_that_give_nothing : ann_wants both (item_wanted (codes "Hat")) ≡ no_such_name
names_that_give_nothing = refl

pub held_by_nothing : ann_wants both (item_wanted (codes "Boots")) ≡ nothing_to_hint
held_by_nothing = refl

pub of_another_world : ann_wants both (location_wanted (codes "B1")) ≡ no_such_name
of_another_world = refl

-- a scouted location that is checked gets no hint, and one that stands twice gets one
pub scouted_once : scouted_for with_names (is_checked (after (checks 0 1 (pos 102 ∷ []) ∷ []))) [] 0
    1 (pos 101 ∷ pos 102 ∷ pos 101 ∷ pos 201 ∷ [])
    ≡ record { team = 0; finder = 1; location = pos 101; bought = false; buyer = 1; status = 0 }
    ∷ []
scouted_once = refl

-- who receives what stands there gives it another status, and not who finds it
pub by_its_receiver : marks with_names (is_checked (after [])) (map_hint ∷ []) 0 1 2 (pos 201) 10
    ≡ true
by_its_receiver = refl

pub not_by_its_finder : marks with_names (is_checked (after [])) (map_hint ∷ []) 0 2 2 (pos 201) 10
    ≡ false
not_by_its_finder = refl

-- what is found shows status 40
pub found_hint : told_hints with_names (is_checked (after (checks 0 2 (pos 201 ∷ []) ∷ []))) 0 2
    (hints (hint map_hint ∷ hint_status 0 2 (pos 201) 10 ∷ []))
    ≡ record {
      receiving_player = 1;
      finding_player = 2;
      location = pos 201;
      item = pos 9;
      found = true;
      item_flags = 2;
      status = 40;
    } ∷ []
found_hint = refl
