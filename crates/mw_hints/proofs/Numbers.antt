-- Ids by name, how many locations a slot has, and numbers that fit.
use Rattle.std.proofs.Common.{◌≡◌, ℕ, ℤ, ◌+◌, ◌-◌, ◌*◌, ◌^◌, ◌<◌, ◌≤◌, ◌==◌, List, [], ◌∷◌, Bool, true, false, Option, Some, None, length, max, bytes_eq, refl, subst, cond, arith}
use Rattle.std.proofs.Math.Nat.{mul-le-mul_left}
use Rattle.std.proofs.lemmas.List.Elements.{All-head, All-tail}
use Rattle.std.proofs.lemmas.List.Recursion.{is_count_by}
use Rattle.std.specs.List.{count_by}
use Rattle.std.specs.Prelude.{All}
use Rattle.mw_model.specs.Seed.{Seed, Slot, Game, NamedId, Held, slot_of}
use Rattle.mw_multidata.specs.SeedKept.{IsSeed, IsId, EntryKept, GameKept}
use Rattle.mw_protocol.specs.Asked.{locations_among}
use Rattle.mw_protocol.specs.Hints.{id_named, game_named, game_played, item_in, item_named, location_in, location_named}

-- ---- names

named_id : (name : List ℕ) (ns : List NamedId) (id : ℤ) → All EntryKept ns → id_named name ns ≡ Some id → IsId id
named_id name [] id kept e = cc
named_id name (n ∷ ns) id kept e =
    (elim (bytes_eq n.name name) as (λ b. cond b (Some n.id) (id_named name ns) ≡ Some id → IsId id) [
      | true ↦ (λ is. let same : n.id ≡ id = cc in subst IsId same (All-head EntryKept n ns kept).id)
      | false ↦ (λ rest. named_id name ns id (All-tail EntryKept n ns kept) rest)
    ]) e

game_there : (name : List ℕ) (gs : List Game) (g : Game) → All GameKept gs → game_named name gs ≡ Some g → GameKept g
game_there name [] g kept e = cc
game_there name (x ∷ gs) g kept e =
    (elim (bytes_eq x.name name) as (λ b. cond b (Some x) (game_named name gs) ≡ Some g → GameKept g) [
      | true ↦ (λ is. let same : x ≡ g = cc in subst GameKept same (All-head GameKept x gs kept))
      | false ↦ (λ rest. game_there name gs g (All-tail GameKept x gs kept) rest)
    ]) e

id_in : (name : List ℕ) (gs : List Game) (o : Option Slot) (id : ℤ) → All GameKept gs → location_in name (game_played gs o) ≡ Some id → IsId id
id_in name gs None id kept e = cc
id_in name gs (Some s) id kept e =
    (elim (game_named s.game gs) as (λ g. game_named s.game gs ≡ g → location_in name g ≡ Some id → IsId id) [
      | None ↦ (λ is wrong. cc)
      | Some g ↦ (λ is found. named_id name g.location_name_to_id id (game_there s.game gs g kept is).locations.each found)
    ]) refl e

-- a location's name has an id
pub located_id : (seed : Seed) (slot : ℕ) (name : List ℕ) (id : ℤ) → IsSeed seed → location_named seed slot name ≡ Some id → IsId id
located_id seed slot name id kept e = id_in name seed.games (slot_of seed slot) id kept.games.each e

item_id_in : (name : List ℕ) (gs : List Game) (o : Option Slot) (id : ℤ) → All GameKept gs → item_in name (game_played gs o) ≡ Some id → IsId id
item_id_in name gs None id kept e = cc
item_id_in name gs (Some s) id kept e =
    (elim (game_named s.game gs) as (λ g. game_named s.game gs ≡ g → item_in name g ≡ Some id → IsId id) [
      | None ↦ (λ is wrong. cc)
      | Some g ↦ (λ is found. named_id name g.item_name_to_id id (game_there s.game gs g kept is).items.each found)
    ]) refl e

-- an item's name has an id
pub item_id : (seed : Seed) (slot : ℕ) (name : List ℕ) (id : ℤ) → IsSeed seed → item_named seed slot name ≡ Some id → IsId id
item_id seed slot name id kept e = item_id_in name seed.games (slot_of seed slot) id kept.games.each e

-- ---- costs

one_more : (b : Bool) (l : ℤ) (ls : List ℤ) → length (cond b (l ∷ ls) ls) ≡ cond b (1 + length ls) (length ls)
one_more true l ls = omega arith
one_more false l ls = refl

-- a slot has as many locations as are counted
pub sized : (slot : ℕ) (hs : List Held) → length (locations_among slot hs) ≡ count_by (λ h. h.slot == slot) hs
sized slot hs = is_count_by (λ xs. length (locations_among slot xs)) (λ h. h.slot == slot) refl (λ x xs. one_more (x.slot == slot) x.location (locations_among slot xs)) hs

pub price_is : (m n : ℕ) → m ≡ n → max m 1 ≡ max 1 n
price_is m n e = omega (arith, e)

-- what a slot's locations are worth fits
pub points_fit : (worth count spent : ℕ) → worth ≤ 1000000 → count < 2 ^ 32 → worth * count - spent < 2 ^ 64
points_fit worth count spent few low =
    let wide : worth * count ≤ worth * 4294967296 = mul-le-mul_left worth (omega arith) in
    omega (arith, wide)
