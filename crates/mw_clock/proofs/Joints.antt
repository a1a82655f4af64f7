-- The joint of the world `Clockwork` and its player.
use Rattle.std.proofs.Common.{◌≡◌, ℕ, List, [], ◌∷◌, Result, Ok, Bool, true, false, refl, sym, subst, append-nil, cond}
use Rattle.std.specs.Prelude.{bytes_eq, Some, None, sum_by}
use Rattle.std.specs.Fmt.{digits}
use Rattle.std.proofs.lemmas.Cmp.{nat_list_eq_equiv}
use Rattle.mw_multi.specs.World.{World}
use Rattle.mw_multi.specs.Files.{world_named, world_at}
use Rattle.mw_multi.specs.Labels.{item_labels, location_labels, flags_of}
use Rattle.mw_multi.specs.Joint.{Slot, Joint, place_total}
use Rattle.mw_multi.specs.JointOf.{◌>>=◌, games_differ, flags_option, start_item, slot_of, links_play, sharings_from, few_places, few_text, world_text, joint_of}
use Rattle.mw_multi.specs.Links.{slots_after, links_among}
use Rattle.mw_multi.specs.Steps.{rule_list}
use Rattle.mw_multi.specs.declared.access.Access.TheVariants.{Items}
use Rattle.mw_multi.specs.declared.refusal.JointRefusal.{JointRefusal}
use Rattle.mw_clock.specs.Clockwork.{IsSize, clockwork, clock_rules, player, players}
use Rattle.mw_clock.proofs.Twenty.{UpTo, each}

-- the slot of the player
abbrev pub clock_slot : ℕ → Slot
clock_slot gears = record {
  names = (player []).names;
  world = clockwork gears;
  first_place = 0;
  first_item = 0;
  local_items = flags_of (item_labels (clockwork gears).items) [];
  non_local_items = flags_of (item_labels (clockwork gears).items) [];
  exclude_locations = flags_of (location_labels (clockwork gears).locations) [];
  priority_locations = flags_of (location_labels (clockwork gears).locations) [];
  start = [];
  pool = (clockwork gears).pool;
  access = Items;
}

abbrev pub clock_joint : ℕ → Joint
clock_joint gears = record { teams = 1; room = (players []).room; slots = clock_slot gears ∷ []; links = [] }

-- the joint where the player's file has this world
abbrev joint_with : ℕ → List ℕ → World → Result Joint JointRefusal
joint_with gears file world = do
  games ← games_differ [] 0 (clockwork gears ∷ [])
  slots ← (slot_of 1 (player file) world 0 0 >>= (λ first. Ok (first ∷ [])))
  games_shared ← links_play slots 0 []
  sharings ← sharings_from slots 0 []
  places ← few_places (place_total slots)
  text ← few_text (sum_by world_text (clockwork gears ∷ []))
  Ok record {
    teams = 1;
    room = (players file).room;
    slots = slots_after slots sharings;
    links = links_among slots sharings;
  }

abbrev Joins : ℕ → Type 0
Joins gears = (file : List ℕ) → joint_with gears file (clockwork gears) ≡ Ok (clock_joint gears)

all_join : UpTo Joins 20
unfolding flags_option start_item slot_of digits
all_join = ((((((((((((((((((((tt, λ _. refl), λ _. refl), λ _. refl), λ _. refl), λ _. refl), λ _. refl), λ _. refl), λ _. refl), λ _. refl), λ _. refl), λ _. refl), λ _. refl), λ _. refl), λ _. refl), λ _. refl), λ _. refl), λ _. refl), λ _. refl), λ _. refl), λ _. refl)

found_first : (b : Bool) → b ≡ true → (world : World) → world_at (world ∷ []) (cond b (Some 0) None) ≡ world
found_first true h world = refl
found_first false h world = cc

pub joined : (gears : ℕ) → IsSize gears → (file : List ℕ) → joint_of (clockwork gears ∷ []) (players file) ≡ Ok (clock_joint gears)
unfolding joint_of
joined gears size file =
    let is : world_named (file ∷ []) (clockwork gears ∷ []) file ≡ clockwork gears = found_first (bytes_eq file file) (nat_list_eq_equiv.refl file) (clockwork gears) in
    subst (λ world. joint_with gears file world ≡ Ok (clock_joint gears)) (sym is) (each Joins gears all_join size file)

-- its rules are the world's
pub joint_rules : (gears : ℕ) → rule_list (clock_joint gears) ≡ clock_rules gears
joint_rules gears = append-nil (clock_rules gears)
