-- The joint of the world of `stress` and its players.
use Rattle.std.proofs.Common.{◌≡◌, ◌∙◌, ◌≤◌, ◌+◌, ◌*◌, ℕ, zero, suc, List, [], ◌∷◌, Ok, true, nat_le, refl, sym, ap, arith}
use Rattle.std.specs.Prelude.{sum_by}
use Rattle.std.specs.Fmt.{digits}
use Rattle.std.proofs.lemmas.Grind.{common_steps}
use Rattle.std.proofs.lemmas.List.Sums.{sum_by-cons}
use Rattle.mw_multi.specs.World.{World}
use Rattle.mw_multi.specs.Files.{world_named, world_files}
use Rattle.mw_multi.specs.Labels.{item_labels, location_labels, flags_of}
use Rattle.mw_multi.specs.Joint.{Slot, Joint, place_total, slot_places}
use Rattle.mw_multi.specs.JointOf.{flags_option, start_item, slot_of, slots_from, few_places, few_text, world_text, joint_of}
use Rattle.mw_multi.specs.declared.access.Access.TheVariants.{Items}
use Rattle.mw_stress.specs.Stress as plain
use Rattle.mw_stress.specs.Stress.{IsCrowd, player, player_name, players_below, world_file}
use Rattle.mw_stress.proofs.Crowd.{rest, parted}
use Rattle.mw_stress.proofs.Files.{named_one}

-- the slot of the player behind so many, its places and items from these on
abbrev pub slot_behind : ℕ → ℕ → ℕ → Slot
slot_behind i place item = record {
  names = player_name (i + 1) ∷ [];
  world = plain.world;
  first_place = place;
  first_item = item;
  local_items = flags_of (item_labels plain.world.items) [];
  non_local_items = flags_of (item_labels plain.world.items) [];
  exclude_locations = flags_of (location_labels plain.world.locations) [];
  priority_locations = flags_of (location_labels plain.world.locations) [];
  start = [];
  pool = plain.world.pool;
  access = Items;
}

-- so many slots, the first of them behind so many
abbrev pub slots_behind : ℕ → ℕ → ℕ → ℕ → List Slot
slots_behind i zero place item = []
slots_behind i (suc more) place item = slot_behind i place item ∷ slots_behind (suc i) more (place + 70) (item + 12)

abbrev pub stress_joint : ℕ → Joint
stress_joint many = record { teams = 1; room = plain.room; slots = slots_behind 0 many 0 0; links = [] }

one_slot : (slot i place item : ℕ) → slot_of slot (player i) plain.world place item ≡ Ok (slot_behind i place item)
unfolding flags_option start_item slot_of
one_slot slot i place item = refl

module _ (named : List ℕ → World) (is : named world_file ≡ plain.world) where
  all_slots : (more slot i place item : ℕ) → slots_from named slot place item (rest i more) ≡ Ok (slots_behind i more place item)
  all_slots zero slot i place item = refl
  all_slots (suc more) slot i place item = rw (is, one_slot slot i place item, all_slots more (slot + 1) (suc i) (place + 70) (item + 12)) refl

how_many : (more i place item : ℕ) → place_total (slots_behind i more place item) ≡ 70 * more
how_many zero i place item = omega arith
how_many (suc more) i place item =
    let later = how_many more (suc i) (place + 70) (item + 12) in
    let here : place_total (slots_behind i (suc more) place item) ≡ 70 + place_total (slots_behind (suc i) more (place + 70) (item + 12)) = sum_by-cons slot_places (slot_behind i place item) (slots_behind (suc i) more (place + 70) (item + 12)) in
    omega (arith, later, here)

within : (have : ℕ) → have ≤ 200000 → nat_le have 200000 ≡ true
within have few = grind (arith, common_steps)

few_enough : (slots : List Slot) (have : ℕ) → place_total slots ≡ have → have ≤ 200000 → few_places (place_total slots) ≡ Ok tt
few_enough slots have is few = rw (is, within have few) refl

text_fits : few_text (sum_by world_text (plain.world ∷ [])) ≡ Ok tt
unfolding digits
text_fits = refl

found_alone : world_named (world_file ∷ []) (plain.world ∷ []) world_file ≡ plain.world
found_alone = refl

pub joined : (many : ℕ) → IsCrowd many → joint_of (plain.world ∷ []) (plain.players many) ≡ Ok (stress_joint many)
unfolding joint_of
joined many crowd =
    let named = world_named (world_files (plain.players many)) (plain.world ∷ []) in
    let is : named world_file ≡ plain.world = ap (λ files. world_named files (plain.world ∷ []) world_file) (named_one many crowd) ∙ found_alone in
    let same : many + 0 ≡ many = omega arith in
    let listed : players_below many ≡ rest 0 many = sym (parted many 0 ∙ ap players_below same) in
    let made : slots_from named 1 0 0 (players_below many) ≡ Ok (slots_behind 0 many 0 0) = ap (slots_from named 1 0 0) listed ∙ all_slots named is many 1 0 0 0 in
    let high = crowd.high in
    let few : 70 * many ≤ 200000 = omega (arith, high) in
    rw (made, few_enough (slots_behind 0 many 0 0) (70 * many) (how_many many 0 0 0) few, text_fits) refl
