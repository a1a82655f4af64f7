-- A seed file that is written has its members in order and no numeral, and doesn't nest deep.
use Rattle.std.proofs.Common.{◌≡◌, ◌≤◌, ◌++◌, ℕ, List, [], ◌∷◌, Less, nat_cmp, map, arith, refl}
use Rattle.std.specs.Prelude.{codes}
use Rattle.std.specs.Cmp.Lexicographic.{slice_cmp}
use Rattle.mw_model.specs.Json.{Json, Members, no_members, member, depth, items_depth, members_depth, ComeAfter, IsOrdered, ItemsAreOrdered, MembersAreOrdered, IsPlain, ItemsArePlain, MembersArePlain}
use Rattle.mw_model.specs.Games.{game_json, ids_members}
use Rattle.mw_model.specs.Trees.{items_of, text_json}
use Rattle.mw_model.specs.Seed.{Seed, Slot, Group, Game, NamedId, Held, Spot}
use Rattle.mw_json.specs.View.{members_of}
use Rattle.mw_multidata.specs.Written.{number_json, group_json, groups_member, other_members, game_member, games_json, server_json, start_json, slot_json, held_json, spot_json, sphere_json, seed_json}
use Rattle.mw_multidata.proofs.Again.{members_in}

-- ---- order

items_ordered : {A : Type 0} (json : A → Json) → ((x : A) → IsOrdered (json x)) → (xs : List A) → ItemsAreOrdered (items_of (map json xs))
items_ordered json h [] = tt
items_ordered json h (x ∷ xs) = (h x, items_ordered json h xs)

slot_ordered : (s : Slot) → IsOrdered (slot_json s)
slot_ordered s = (tt, (refl, (refl, tt)), (items_ordered text_json (λ t. tt) s.names, (refl, tt), (items_ordered start_json (λ i. (tt, (tt, tt))) s.start, tt, tt)))

held_ordered : (h : Held) → IsOrdered (held_json h)
held_ordered h = (tt, (tt, (tt, (tt, (tt, tt)))))

sphere_ordered : (spots : List Spot) → IsOrdered (sphere_json spots)
sphere_ordered spots = items_ordered spot_json (λ s. (tt, (tt, tt))) spots

group_ordered : (g : Group) → IsOrdered (group_json g)
group_ordered g = (tt, (refl, (refl, tt)), (items_ordered number_json (λ n. tt) g.members, (refl, tt), (tt, tt, tt)))

-- the groups stand between what comes before them and after
come_groups : (name : List ℕ) (gs : List Group) (others : List (List ℕ × Json)) → slice_cmp nat_cmp name (codes "groups") ≡ Less → ComeAfter name (members_of others) → ComeAfter name (members_of (groups_member gs ++ others))
come_groups name [] others e h = h
come_groups name (g ∷ gs) others e h = (e, h)

groups_ordered : (gs : List Group) (others : List (List ℕ × Json)) → ComeAfter (codes "groups") (members_of others) → MembersAreOrdered (members_of others) → MembersAreOrdered (members_of (groups_member gs ++ others))
groups_ordered [] others come h = h
groups_ordered (g ∷ gs) others come h = (items_ordered group_json group_ordered (g ∷ gs), come, h)

others_ordered : (seed : Seed) → MembersAreOrdered (members_of (other_members seed))
others_ordered seed =
    let server : IsOrdered (server_json seed.server) =
    (tt, (refl, (refl, (refl, (refl, (refl, tt))))), (tt, (refl, (refl, (refl, (refl, tt)))), (tt, (refl, (refl, (refl, tt))), (tt, (refl, (refl, tt)), (tt, (refl, tt), (tt, tt, tt)))))) in (
      items_ordered held_json held_ordered seed.locations,
      (refl, (refl, (refl, (refl, (refl, tt))))),
      (
        tt,
        (refl, (refl, (refl, (refl, tt)))),
        (
          server,
          (refl, (refl, (refl, tt))),
          (
            items_ordered slot_json slot_ordered seed.slots,
            (refl, (refl, tt)),
            (items_ordered sphere_json sphere_ordered seed.spheres, (refl, tt), (tt, tt, tt)),
          ),
        ),
      ),
    )

-- where its games are
pub seed_ordered : (seed : Seed) → IsOrdered (games_json seed.games) → IsOrdered (seed_json seed)
seed_ordered seed games =
    let others = other_members seed in
    let come : (name : List ℕ) → slice_cmp nat_cmp name (codes "groups") ≡ Less → ComeAfter name (members_of others) → ComeAfter name (members_of (groups_member seed.groups ++ others)) = λ name. come_groups name seed.groups others in (
      tt,
      (refl, come (codes "format") refl (refl, (refl, (refl, (refl, (refl, (refl, tt))))))),
      (
        games,
        come (codes "games") refl (refl, (refl, (refl, (refl, (refl, (refl, tt)))))),
        groups_ordered seed.groups others (refl, (refl, (refl, (refl, (refl, (refl, tt)))))) (others_ordered seed),
      ),
    )

-- ---- numerals

items_plain : {A : Type 0} (json : A → Json) → ((x : A) → IsPlain (json x)) → (xs : List A) → ItemsArePlain (items_of (map json xs))
items_plain json h [] = tt
items_plain json h (x ∷ xs) = (h x, items_plain json h xs)

slot_plain : (s : Slot) → IsPlain (slot_json s)
slot_plain s = (tt, (items_plain text_json (λ t. tt) s.names, (items_plain start_json (λ i. (tt, (tt, tt))) s.start, tt)))

sphere_plain : (spots : List Spot) → IsPlain (sphere_json spots)
sphere_plain spots = items_plain spot_json (λ s. (tt, (tt, tt))) spots

ids_plain : (ns : List NamedId) → MembersArePlain (ids_members ns)
ids_plain [] = tt
ids_plain (n ∷ ns) = (tt, ids_plain ns)

games_plain : (gs : List Game) → MembersArePlain (members_of (map game_member gs))
games_plain [] = tt
games_plain (g ∷ gs) = ((ids_plain g.item_name_to_id, (ids_plain g.location_name_to_id, tt)), games_plain gs)

group_plain : (g : Group) → IsPlain (group_json g)
group_plain g = (tt, (items_plain number_json (λ n. tt) g.members, (tt, tt)))

groups_plain : (gs : List Group) (others : List (List ℕ × Json)) → MembersArePlain (members_of others) → MembersArePlain (members_of (groups_member gs ++ others))
groups_plain [] others h = h
groups_plain (g ∷ gs) others h = (items_plain group_json group_plain (g ∷ gs), h)

pub seed_plain : (seed : Seed) → IsPlain (seed_json seed)
seed_plain seed =
    let locations = items_plain held_json (λ h. (tt, (tt, (tt, (tt, (tt, tt)))))) seed.locations in
    let server : IsPlain (server_json seed.server) = (tt, (tt, (tt, (tt, (tt, (tt, tt)))))) in
    let slots = items_plain slot_json slot_plain seed.slots in
    let spheres = items_plain sphere_json sphere_plain seed.spheres in
    (tt, (games_plain seed.games, groups_plain seed.groups (other_members seed) (locations, (tt, (server, (slots, (spheres, (tt, tt))))))))

-- ---- depth

items_shallow : {A : Type 0} (json : A → Json) (n : ℕ) → ((x : A) → depth (json x) ≤ n) → (xs : List A) → items_depth (items_of (map json xs)) ≤ n
items_shallow json n h [] = omega arith
items_shallow json n h (x ∷ xs) = omega (arith, h x, items_shallow json n h xs)

-- no member is deeper than this
abbrev AreShallow : ℕ → Members → Type 0
AreShallow n no_members = Unit {0}
AreShallow n (member k j ms) = (depth j ≤ n) × AreShallow n ms

members_shallow : (n : ℕ) (ms : Members) → AreShallow n ms → members_depth ms ≤ n
members_shallow n no_members h = omega arith
members_shallow n (member k j ms) h = omega (arith, h.0, members_shallow n ms h.1)

ids_shallow : (ns : List NamedId) → members_depth (ids_members ns) ≤ 0
ids_shallow [] = omega arith
ids_shallow (n ∷ ns) = omega (arith, ids_shallow ns)

game_shallow : (g : Game) → depth (game_json g) ≤ 2
game_shallow g = omega (arith, ids_shallow g.item_name_to_id, ids_shallow g.location_name_to_id)

games_shallow : (gs : List Game) → members_depth (members_of (map game_member gs)) ≤ 2
games_shallow [] = omega arith
games_shallow (g ∷ gs) = omega (arith, game_shallow g, games_shallow gs)

slot_shallow : (s : Slot) → depth (slot_json s) ≤ 3
slot_shallow s = omega (arith, items_shallow text_json 0 (λ t. omega arith) s.names, items_shallow start_json 1 (λ i. omega arith) s.start)

sphere_shallow : (spots : List Spot) → depth (sphere_json spots) ≤ 2
sphere_shallow spots = omega (arith, items_shallow spot_json 1 (λ s. omega arith) spots)

group_shallow : (g : Group) → depth (group_json g) ≤ 2
group_shallow g = omega (arith, items_shallow number_json 0 (λ n. omega arith) g.members)

groups_shallow : (gs : List Group) (others : List (List ℕ × Json)) → AreShallow 4 (members_of others) → AreShallow 4 (members_of (groups_member gs ++ others))
groups_shallow [] others h = h
groups_shallow (g ∷ gs) others h = (omega (arith, items_shallow group_json 2 group_shallow (g ∷ gs)), h)

pub seed_shallow : (seed : Seed) → depth (seed_json seed) ≤ 5
seed_shallow seed =
    let ms = members_in (seed_json seed) in
    let others : AreShallow 4 (members_of (other_members seed)) = (
      omega (arith, items_shallow held_json 1 (λ h. omega arith) seed.locations),
      (
        omega arith,
        (
          omega arith,
          (
            omega (arith, items_shallow slot_json 3 slot_shallow seed.slots),
            (omega (arith, items_shallow sphere_json 2 sphere_shallow seed.spheres), (omega arith, tt)),
          ),
        ),
      ),
    ) in
    let all : AreShallow 4 ms = (omega arith, (omega (arith, games_shallow seed.games), groups_shallow seed.groups (other_members seed) others)) in
    omega (arith, members_shallow 4 ms all)
