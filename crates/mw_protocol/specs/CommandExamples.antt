-- Rows of Room A's commands beside their definitions: release, collect and remaining are for who reached the goal.
use Rattle.std.specs.Prelude.{pos, ◌≡◌, ◌++◌, ◌∷◌, [], List, refl, codes, decimal}
use Rattle.mw_model.specs.Seed.{Seed}
use Rattle.mw_protocol.specs.Commands.{status_records}
use Rattle.mw_protocol.specs.Effect.{Effect, recording, telling}
use Rattle.mw_protocol.specs.Entering.{to_team}
use Rattle.mw_protocol.specs.Examples.{room_a, after, ann, bob}
use Rattle.mw_protocol.specs.HintExamples.{with_names}
use Rattle.mw_protocol.specs.Prints.{chatted, released, reached_goal}
use Rattle.mw_protocol.specs.Records.{Record, checks, release, collect, status}
use Rattle.mw_protocol.specs.Sayings as said
use Rattle.mw_protocol.specs.Speaking.{saying, stating}
use Rattle.mw_protocol.specs.Statuses.{statuses, status_of}

abbrev pub ann_says : List Record → said.Said → Effect
ann_says journal = saying with_names (after journal) (bob ∷ ann 7 ∷ []) (ann 7)

pub a_text_for_all : ann_says [] (said.chat (codes "hi"))
    ≡ recording [] (to_team 0 (chatted 0 1 (codes "Ann") (codes "hi")) ∷ [])
a_text_for_all = refl

pub who_is_there : ann_says [] said.players ≡ telling (codes "Connected: Ann, Bob")
who_is_there = refl

pub one_is_missing : ann_says (checks 0 1 (pos 101 ∷ []) ∷ []) said.missing
    ≡ telling (decimal 1 ++ codes " missing: " ++ codes "A2")
one_is_missing = refl

-- the blank stays where nothing is listed
pub none_is_checked : ann_says [] said.checked ≡ telling (decimal 0 ++ codes " checked: " ++ [])
none_is_checked = refl

-- Ann's Coin lies at her 102, her Map at Bob's 201
pub two_remain : ann_says (status 0 1 30 ∷ []) said.remaining
    ≡ telling (decimal 2 ++ codes " remaining: " ++ codes "Coin, Map")
two_remain = refl

pub not_before_the_goal : ann_says (status 0 1 20 ∷ []) said.remaining
    ≡ telling (codes "not allowed")
not_before_the_goal = refl

pub release_at_the_goal : ann_says (status 0 1 30 ∷ []) said.release
    ≡ recording (release 0 1 ∷ []) (to_team 0 (released 0 1 (codes "Ann")) ∷ [])
release_at_the_goal = refl

pub nothing_is_left : ann_says (status 0 1 30 ∷ release 0 1 ∷ []) said.release
    ≡ telling (codes "nothing left")
nothing_is_left = refl

pub what_a_hint_costs : ann_says (checks 0 1 (pos 101 ∷ pos 102 ∷ []) ∷ []) (said.hint [])
    ≡ telling (decimal 2 ++ codes " points, a hint costs " ++ decimal 1)
what_a_hint_costs = refl

-- ---- the goal

abbrev pub automatic : Seed
automatic = record {
  seed_name = room_a.seed_name;
  teams = room_a.teams;
  server = record {
    password = [];
    hint_cost = 10;
    location_check_points = 1;
    release = 6;
    collect = 6;
    remaining = 2;
  };
  games = room_a.games;
  slots = room_a.slots;
  groups = [];
  locations = room_a.locations;
  spheres = room_a.spheres;
}

-- Ann's items are collected, and what is then left of her world is released
pub at_the_goal : status_records automatic (after []) (ann 7) 30
    ≡ status 0 1 30 ∷ collect 0 1 ∷ release 0 1 ∷ []
at_the_goal = refl

-- Bob's 201 was collected by Ann, so nothing of his world is left to release
pub nothing_to_release : status_records automatic (after (collect 0 1 ∷ [])) bob 30
    ≡ status 0 2 30 ∷ collect 0 2 ∷ []
nothing_to_release = refl

-- once it is reached no status changes
pub goal_stays : status_records automatic (after (status 0 1 30 ∷ [])) (ann 7) 10 ≡ []
goal_stays = refl

-- where nothing is automatic, the goal alone is recorded and told
pub goal_told : stating room_a (after (status 0 1 20 ∷ [])) (ann 7) 30
    ≡ recording (status 0 1 30 ∷ []) (to_team 0 (reached_goal 0 1 (codes "Ann")) ∷ [])
goal_told = refl

pub last_status : status_of (statuses (status 0 1 10 ∷ status 0 2 5 ∷ status 0 1 20 ∷ [])) 0 1 ≡ 20
last_status = refl
