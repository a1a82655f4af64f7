-- The world of `stress` keeps what a world's tables keep.
use Rattle.std.proofs.Common.{◌≡◌, ℕ, List, Result, Ok, Err, refl, subst}
use Rattle.std.specs.Fmt.{digits}
use Rattle.std.specs.Str.{chars}
use Rattle.mw_model.specs.Json.{Json}
use Rattle.mw_json.specs.Grammar.{Breach, ◌>>=◌, name_at, list_up_to, field_at}
use Rattle.mw_json.specs.Parts.{id_at}
use Rattle.mw_json.specs.Readers.{list_of_at, field_or_at}
use Rattle.mw_rules.specs.Rule.{Rule}
use Rattle.mw_multi.specs.World.{Entrance, Location, Item, PoolEntry, World}
use Rattle.mw_multi.specs.WorldKept.{IsWorld}
use Rattle.mw_tables.specs.Raw.{RawWorld}
use Rattle.mw_tables.specs.WorldOf.{resolved, world_at}
use Rattle.mw_tables.specs.WorldShape.{format_at, class_word_at, class_at, item_at, entrance_at, kind_at, location_at, entry_at, pool_at, parts_in, rows_in, world_shape_at}
use Rattle.mw_tables.specs.RuleShape.{has_at, has_all_at, rule_at}
use Rattle.mw_tables.specs.RuleNames.{item_such, listed_item}
use Rattle.mw_tables.specs.WorldNames.{NamedWorld, item_named, entrance_named, location_once, location_named, entry_named, start_named, rows_named, world_names}
use Rattle.mw_tables.proofs.Accepted.{is_world}
use Rattle.mw_stress.specs.Stress as plain
use Rattle.mw_stress.proofs.WorldJson.{world_json}

accepted : world_at world_json ≡ Ok plain.world
unfolding world_at world_shape_at format_at class_word_at class_at item_at entrance_at kind_at location_at entry_at pool_at parts_in rows_in has_at has_all_at rule_at item_such listed_item item_named entrance_named location_once location_named entry_named start_named rows_named world_names name_at list_up_to field_at id_at list_of_at field_or_at chars digits
accepted = refl

resolved_is : (j : Json) (w : RawWorld) (world : World) (r : Result NamedWorld Breach) → world_shape_at j ≡ Ok w → world_names w ≡ r → (r >>= (λ n. Ok (resolved w n))) ≡ Ok world → IsWorld world
resolved_is j w world (Ok n) shape names is = let same : resolved w n ≡ world = cc in subst IsWorld same (is_world j w n shape names)
resolved_is j w world (Err b) shape names is = cc

shaped_is : (j : Json) (world : World) (r : Result RawWorld Breach) → world_shape_at j ≡ r → (r >>= (λ w. world_names w >>= (λ n. Ok (resolved w n)))) ≡ Ok world → IsWorld world
shaped_is j world (Ok w) shape is = resolved_is j w world (world_names w) shape refl is
shaped_is j world (Err b) shape is = cc

accepted_is : (j : Json) (world : World) → world_at j ≡ Ok world → IsWorld world
unfolding world_at
accepted_is j world is = shaped_is j world (world_shape_at j) refl is

pub is_stress : IsWorld plain.world
is_stress = accepted_is world_json plain.world accepted

-- tables that are those of a world are a world
pub kept_so : (w : World) (game : List ℕ) (regions : List (List ℕ)) (entrances : List Entrance) (locations : List Location) (items : List Item) (pool : List PoolEntry) (goal : Rule) → IsWorld w
    → game ≡ w.game → regions ≡ w.regions → entrances ≡ w.entrances → locations ≡ w.locations → items ≡ w.items → pool ≡ w.pool → goal ≡ w.goal
    → IsWorld record { game = game; origin = w.origin; regions = regions; entrances = entrances; locations = locations; items = items; pool = pool; filler = w.filler; goal = goal }
kept_so w game regions entrances locations items pool goal kept a b c d e f g =
    let made : World = record { game = game; origin = w.origin; regions = regions; entrances = entrances; locations = locations; items = items; pool = pool; filler = w.filler; goal = goal } in
    let whole : World = record { game = w.game; origin = w.origin; regions = w.regions; entrances = w.entrances; locations = w.locations; items = w.items; pool = w.pool; filler = w.filler; goal = w.goal } in
    let same : whole ≡ made = cc in
    subst IsWorld same kept
