-- A data package is written in order, as the seed's games are.
use Rattle.std.proofs.Common.{◌≡◌, ◌∷◌, ◌^◌, ℕ, ℤ, pos, negsuc, List, [], Bool, true, false, Option, map, refl, ap, arith, ltb→lt}
use Rattle.std.specs.Prelude.{All, ◌&&◌, if◌then◌else◌, ◌≤ℤ◌, ◌<ℤ◌}
use Rattle.std.specs.Ordering.{nat_cmp}
use Rattle.std.specs.Cmp.Lexicographic.{slice_cmp}
use Rattle.std.specs.declared.cmp.Ordering.TheVariants.{Less}
use Rattle.std.proofs.lemmas.List.Elements.{All-head, All-tail}
use Rattle.mw_model.specs.Json.{Json, Members, member, IsInRange, IsWritable, IsOrdered, MembersAreWritable, MembersAreOrdered, ComeAfter}
use Rattle.mw_model.specs.Games.{ids_members}
use Rattle.mw_model.specs.Seed.{Seed, Slot, Game, NamedId}
use Rattle.mw_protocol.specs.Packages.{data_json, data_members, is_wanted, package_json}
use Rattle.mw_protocol.specs.Players.{plays}
use Rattle.mw_json.specs.View.{members_of}
use Rattle.mw_model.specs.Ascending.{ComesBefore, NamesAscend}
use Rattle.mw_multidata.specs.SeedKept.{IsSeed, GameKept, EntryKept, game_name, entry_name}
use Rattle.mw_datapack.specs.Chosen.{chosen_members}

-- ---- the members, as a list and as members

abbrev members_if : Bool → Game → Members → Members
members_if b g ms = if b then member g.name (data_json g) ms else ms

abbrev list_if : Bool → Game → List (List ℕ × Json) → List (List ℕ × Json)
list_if b g ms = if b then (g.name, data_json g) ∷ ms else ms

same_if : (b : Bool) (g : Game) (ms : List (List ℕ × Json)) (ns : Members) → members_of ms ≡ ns → members_of (list_if b g ms) ≡ members_if b g ns
same_if true g ms ns e = ap (member g.name (data_json g)) e
same_if false g ms ns e = e

pub same_members : (slots : List Slot) (wanted : Option (List (List ℕ))) (games : List Game) → members_of (chosen_members slots wanted games) ≡ data_members slots wanted games
same_members slots wanted [] = refl
same_members slots wanted (g ∷ gs) =
    same_if (plays slots g.name && is_wanted wanted g.name) g (chosen_members slots wanted gs) (data_members slots wanted gs) (same_members slots wanted gs)

-- ---- what is written

id_in_range : (z : ℤ) → pos 1 ≤ℤ z → z <ℤ pos (2 ^ 53) → IsInRange z
id_in_range (pos n) low high = omega (arith, ltb→lt n (2 ^ 53) high.lt)
id_in_range (negsuc n) low high = absurd low.le

ids_writable : (ns : List NamedId) → All EntryKept ns → MembersAreWritable (ids_members ns)
ids_writable [] h = tt
ids_writable (n ∷ ns) h =
    let first = All-head EntryKept n ns h in
    (id_in_range n.id first.id.low first.id.high, ids_writable ns (All-tail EntryKept n ns h))

data_writable : (g : Game) → GameKept g → IsWritable (data_json g)
data_writable g h =
    let items = ids_writable g.item_name_to_id h.items.each in
    let locations = ids_writable g.location_name_to_id h.locations.each in
    (tt, (items, (locations, tt)))

writable_if : (b : Bool) (g : Game) (ms : Members) → GameKept g → MembersAreWritable ms → MembersAreWritable (members_if b g ms)
writable_if true g ms h rest = (data_writable g h, rest)
writable_if false g ms h rest = rest

games_writable : (slots : List Slot) (wanted : Option (List (List ℕ))) (games : List Game) → All GameKept games → MembersAreWritable (data_members slots wanted games)
games_writable slots wanted [] h = tt
games_writable slots wanted (g ∷ gs) h =
    writable_if (plays slots g.name && is_wanted wanted g.name) g (data_members slots wanted gs) (All-head GameKept g gs h) (games_writable slots wanted gs (All-tail GameKept g gs h))

pub package_writable : (seed : Seed) (wanted : Option (List (List ℕ))) → IsSeed seed → IsWritable (package_json seed wanted)
package_writable seed wanted h = (games_writable seed.slots wanted seed.games h.games.each, tt)

-- ---- its order

names_come : (name : List ℕ) (ns : List NamedId) → ComesBefore (slice_cmp nat_cmp) name (map entry_name ns) → ComeAfter name (ids_members ns)
names_come name [] h = tt
names_come name (n ∷ ns) h = (h.0, names_come name ns h.1)

ids_ordered : (ns : List NamedId) → NamesAscend (map entry_name ns) → MembersAreOrdered (ids_members ns)
ids_ordered [] h = tt
ids_ordered (n ∷ ns) h = (tt, names_come n.name ns h.0, ids_ordered ns h.1)

data_ordered : (g : Game) → GameKept g → IsOrdered (data_json g)
data_ordered g h =
    let items = ids_ordered g.item_name_to_id h.items.ascend in
    let locations = ids_ordered g.location_name_to_id h.locations.ascend in
    (tt, (refl, (refl, tt)), (items, (refl, tt), (locations, tt, tt)))

come_if : (b : Bool) (k : List ℕ) (g : Game) (ms : Members) → slice_cmp nat_cmp k g.name ≡ Less → ComeAfter k ms → ComeAfter k (members_if b g ms)
come_if true k g ms first rest = (first, rest)
come_if false k g ms first rest = rest

games_come : (k : List ℕ) (slots : List Slot) (wanted : Option (List (List ℕ))) (games : List Game) → ComesBefore (slice_cmp nat_cmp) k (map game_name games) → ComeAfter k (data_members slots wanted games)
games_come k slots wanted [] h = tt
games_come k slots wanted (g ∷ gs) h =
    come_if (plays slots g.name && is_wanted wanted g.name) k g (data_members slots wanted gs) h.0 (games_come k slots wanted gs h.1)

ordered_if : (b : Bool) (g : Game) (ms : Members) → GameKept g → ComeAfter g.name ms → MembersAreOrdered ms → MembersAreOrdered (members_if b g ms)
ordered_if true g ms h come rest = (data_ordered g h, come, rest)
ordered_if false g ms h come rest = rest

games_ordered : (slots : List Slot) (wanted : Option (List (List ℕ))) (games : List Game) → All GameKept games → NamesAscend (map game_name games) → MembersAreOrdered (data_members slots wanted games)
games_ordered slots wanted [] h ascend = tt
games_ordered slots wanted (g ∷ gs) h ascend =
    ordered_if (plays slots g.name && is_wanted wanted g.name) g (data_members slots wanted gs) (All-head GameKept g gs h) (games_come g.name slots wanted gs ascend.0)
    (games_ordered slots wanted gs (All-tail GameKept g gs h) ascend.1)

pub package_ordered : (seed : Seed) (wanted : Option (List (List ℕ))) → IsSeed seed → IsOrdered (package_json seed wanted)
package_ordered seed wanted h = (games_ordered seed.slots wanted seed.games h.games.each h.games.ascend, tt, tt)
