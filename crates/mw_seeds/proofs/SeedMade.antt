-- The seed that is made of a joint and a placement keeps the rules of a seed.
use Rattle.std.proofs.Common.{◌≡◌, ◌≤◌, ◌<◌, ◌^◌, ◌+◌, ◌++◌, ℕ, zero, suc, List, [], ◌∷◌, true, Some, Ok, IsUtf8, decimal, chars, length, map, refl, sym, ap, subst, ◌∙◌, arith}
use Rattle.std.specs.Prelude.{All, slice_index_or}
use Rattle.std.proofs.lemmas.Fmt.{IsAscii-decimal, decimal_nonempty, length-decimal-le}
use Rattle.std.proofs.lemmas.List.{length-map}
use Rattle.std.proofs.lemmas.List.Elements.{All-cons}
use Rattle.std.proofs.lemmas.List.Sorted.{All-permutation, length_permutation}
use Rattle.std.proofs.lemmas.Str.{IsUtf8-from_ascii, encodes-chars, length-le-encodes}
use Rattle.mw_base.specs.Permissions.{permission_number}
use Rattle.mw_base.specs.declared.options.Permission.{Permission}
use Rattle.mw_base.specs.declared.options.Permission.TheVariants.{Disabled, Enabled, Goal, Auto, AutoEnabled}
use Rattle.mw_model.specs.Seed.{Seed, Slot as FileSlot, Group, Game, Held, RoomOptions, Spot}
use Rattle.mw_multi.specs.World.{World}
use Rattle.mw_multi.specs.Players.{Players}
use Rattle.mw_multi.specs.PlayersKept.{IsPlayers}
use Rattle.mw_multi.specs.Joint as joined
use Rattle.mw_multi.specs.Joint.{Slot, Joint, IsJoint}
use Rattle.mw_multi.specs.JointOf.{joint_of}
use Rattle.mw_multi.specs.Placement.{Put, slot_at, what_stands}
use Rattle.mw_multi.specs.Names.{NamesDiffer}
use Rattle.mw_multidata.specs.Names.{all_names, group_name, names_with}
use Rattle.mw_multidata.specs.SeedKept.{is_permission, is_remaining, ServerKept, GameKept, SlotKept, GroupKept, SpotKept, SphereKept, IsSeed}
use Rattle.mw_spheres.specs.Spots.{IsSpot, placement_table}
use Rattle.mw_spheres.specs.Spheres.{AreSpheres, IsSpheres}
use Rattle.mw_spheres.proofs.Playing.{spheres_are_spots}
use Rattle.mw_seeds.specs.SeedFile.{AreGames, IsPlayed, file_slot, file_group, file_groups, all_held, AreLocations, SeedFile}
use Rattle.mw_seeds.proofs.Elements.{holds_in, within}
use Rattle.mw_seeds.proofs.JointFacts.{joint_teams, joint_room, joined_name, all_differ, names_differ_all, names_good, links_good, one_world_each}
use Rattle.mw_seeds.proofs.SeedGroups.{groups_good, group_names}
use Rattle.mw_seeds.proofs.SeedHeld.{all_of, few_in_all, IsOfSlot}
use Rattle.mw_seeds.proofs.SeedPlays.{IsFound, all_found, slots_good, held_good}
use Rattle.mw_seeds.proofs.SeedTables.{good_game}

-- ---- the name and the settings

few_chars : (bs : List ℕ) → IsUtf8 bs → length (chars bs) ≤ length bs
few_chars bs u = omega (arith, length-le-encodes (chars bs), ap length (encodes-chars bs u))

name_short : (n : ℕ) → n < 2 ^ 64 → length (chars (decimal n)) ≤ 128
name_short n h = omega (arith, few_chars (decimal n) (IsUtf8-from_ascii (decimal n) (IsAscii-decimal n h)), length-decimal-le 20 n (omega arith) (omega (arith, h)) h)

pub permission_is : (p : Permission) → is_permission (permission_number p) ≡ true
permission_is Disabled = refl
permission_is Enabled = refl
permission_is Goal = refl
permission_is Auto = refl
permission_is AutoEnabled = refl

pub remaining_is : (n : ℕ) → n ≤ 2 → is_remaining n ≡ true
remaining_is zero h = refl
remaining_is (suc zero) h = refl
remaining_is (suc (suc zero)) h = refl
remaining_is (suc (suc (suc n))) h = absurd (omega (arith, h))

-- ---- the games

game_good : (slots : List Slot) (g : Game) → All joined.SlotKept slots → IsPlayed slots g → GameKept g
game_good slots g kept (s, there, is) = good_game s.world g is (holds_in joined.SlotKept slots s kept there).world

-- ---- the spheres

module _ (joint : Joint) (kept : IsJoint joint) where
  spot_kept : (n index : ℕ) (s : Slot) → slot_at joint.slots n ≡ Some s → index < length s.world.locations → SpotKept (length joint.slots) record { slot = n; index = index }
  spot_kept zero index s at h = cc
  spot_kept (suc k) index s at h =
      let there = within joint.slots k s at in
      let slot : joined.SlotKept s = subst joined.SlotKept there.1 (kept.each k s there.0) in
      record { low = omega arith; high = omega (arith, there.0); index = omega (arith, h, slot.world.locations.count) }

  sphere_some : (table : List (List ℕ)) (earlier : List Spot) (spheres : List (List Spot)) → AreSpheres joint table earlier spheres → All (λ s. 1 ≤ length s) spheres
  sphere_some table earlier [] h = λ k d l. absurd (omega (arith, l))
  sphere_some table earlier (s ∷ spheres) h = All-cons (λ xs. 1 ≤ length xs) s spheres h.1 (sphere_some table (earlier ++ s) spheres h.2)

-- ---- the whole

-- the parts make the seed
pub made : (worlds : List World) (players : Players) (joint : Joint) (joined : joint_of worlds players ≡ Ok joint) (number : ℕ) (puts : List Put) (list : List (List Spot)) (name : List ℕ) (teams : ℕ) (server : RoomOptions)
    (games : List Game) (slots : List FileSlot) (groups : List Group) (held : List Held) (spheres : List (List Spot)) → name ≡ decimal number → teams ≡ players.teams → server ≡ players.room → AreGames joint.slots games
    → slots ≡ map file_slot joint.slots → groups ≡ file_groups joint → AreLocations joint puts held → spheres ≡ list
    → SeedFile joint number puts list record { seed_name = name; teams = teams; server = server; games = games; slots = slots; groups = groups; locations = held; spheres = spheres }
made worlds players joint joined number puts list name teams server games slots groups held spheres is_name are_teams is_room are_games are_slots are_groups are_held are_spheres = record {
  seed_name = is_name;
  teams = are_teams ∙ sym (joint_teams worlds players joint joined);
  server = is_room ∙ sym (joint_room worlds players joint joined);
  games = are_games;
  slots = are_slots;
  groups = are_groups;
  locations = are_held;
  spheres = are_spheres;
}

module _ (worlds : List World) (players : Players) (joint : Joint) (joined : joint_of worlds players ≡ Ok joint) (p : IsPlayers players) (kept : IsJoint joint) (number : ℕ) (small : number < 2 ^ 64)
    (puts : List Put) (spheres : List (List Spot)) (are : IsSpheres joint puts spheres) (seed : Seed) (file : SeedFile joint number puts spheres seed) (server : ServerKept seed.server) where
  pub made_kept : IsSeed seed
  made_kept =
      let slots = joint.slots in
      let teams : seed.teams ≡ players.teams = file.teams ∙ joint_teams worlds players joint joined in
      let names : NamesDiffer (all_names seed.slots) = subst (λ ss. NamesDiffer (all_names ss)) (sym file.slots) (names_differ_all worlds players joint joined p) in
      let shared_names : NamesDiffer (all_names seed.slots ++ map group_name (file_groups joint)) =
      subst (λ ns. NamesDiffer (all_names seed.slots ++ ns)) (sym (group_names slots joint.links)) (subst (λ ss. NamesDiffer (all_names ss ++ map joined_name joint.links)) (sym file.slots) (all_differ worlds players joint joined p)) in
      let many : length seed.slots ≡ length slots = ap length file.slots ∙ length-map slots file_slot in
      let found : All (IsFound seed.games) slots = all_found slots seed.games file.games (one_world_each worlds players joint joined kept) in
      let held = all_held joint (what_stands puts) in
      let of : All (IsOfSlot joint 1 slots) seed.locations = All-permutation (IsOfSlot joint 1 slots) held seed.locations file.locations.same (all_of joint (what_stands puts) 1 slots) in
      let spots : All (All (IsSpot slots)) spheres = spheres_are_spots joint (placement_table joint puts) [] spheres are in
      let some : All (λ s. 1 ≤ length s) spheres = sphere_some joint kept (placement_table joint puts) [] spheres are in
      let kept_spheres : All (SphereKept (length slots)) spheres = λ k d l. record {
        some = some k d l;
        each = λ i e m.
            let spot = spots k d l i e m in
            let at = slice_index_or (slice_index_or spheres k d) i e in
            spot_kept joint kept at.slot at.index spot.0 spot.1 spot.2;
      } in
      record {
        name_there = subst (λ s. 0 < length s) (sym file.seed_name) (decimal_nonempty number small);
        name_short = subst (λ s. length (chars s) ≤ 128) (sym file.seed_name) (name_short number small);
        some_team = omega (arith, teams, p.some_teams);
        few_teams = omega (arith, teams, p.few_teams);
        server = server;
        games = record { each = λ k d l. game_good slots (slice_index_or seed.games k d) kept.each (file.games.played k d l); ascend = file.games.ascend };
        slots = record {
          some = omega (arith, many, kept.some);
          few = omega (arith, many, kept.few);
          each = subst (All (SlotKept seed.teams seed.games)) (sym file.slots)
              (subst (λ n. All (SlotKept n seed.games) (map file_slot slots)) (sym file.teams) (slots_good joint.teams seed.games slots (names_good worlds players joint joined p) kept.each found));
          differ = names;
        };
        groups = record {
          few = subst (λ (gs : List Group). length seed.slots + length gs ≤ 1024) (sym file.groups) (omega (arith, many, length-map joint.links (file_group slots), kept.few_receivers));
          each = subst (All (GroupKept seed)) (sym file.groups) (groups_good seed joint file.slots found joint.links kept.links (links_good worlds players joint joined p));
          differ = subst (λ (gs : List Group). NamesDiffer (names_with seed gs)) (sym file.groups) shared_names;
        };
        locations = record {
          few = omega (arith, length_permutation held seed.locations file.locations.same, few_in_all joint (what_stands puts) 1 slots, kept.places);
          each = λ k d l. held_good seed joint file.slots file.groups found kept.each (slice_index_or seed.locations k d) (of k d l);
          ascend = file.locations.ascend;
        };
        spheres = subst (λ n. All (SphereKept n) seed.spheres) (sym many) (subst (All (SphereKept (length slots))) (sym file.spheres) kept_spheres);
      }
