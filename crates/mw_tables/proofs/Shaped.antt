-- What a world keeps that has its shape.
use Rattle.std.proofs.Common.{◌≡◌, ◌≤◌, ℕ, ℤ, ◌||◌, List, length, true, Option, Some, None, All, arith}
use Rattle.std.specs.Prelude.{IfOk, codes, nat_le, is_some, sum_by}
use Rattle.std.proofs.lemmas.Grind.{common_steps}
use Rattle.mw_model.specs.Json.{Json, null, flag, whole, not_whole, numeral, words, many, members, Members}
use Rattle.mw_json.specs.Grammar.{other_kind, number_at, name_at, list_at, object_at, field_at, items_length}
use Rattle.mw_json.specs.declared.refusal.Kind.TheVariants.{WrongKind, TooMany}
use Rattle.mw_json.specs.Parts.{id_at, null_or_at}
use Rattle.mw_json.specs.Readers.{each_from, list_of_at, field_or_at}
use Rattle.mw_multi.specs.Names.{IsName}
use Rattle.mw_multi.specs.RulesKept.{is_progression}
use Rattle.mw_multi.specs.WorldKept.{IsIdOrNone, ItemKept}
use Rattle.mw_multi.specs.declared.item.Class.{Class}
use Rattle.mw_tables.specs.Raw.{RawEntrance, RawLocation, RawEntry, RawWorld}
use Rattle.mw_tables.specs.RuleShape.{rule_at}
use Rattle.mw_tables.specs.Small.{IsSmall}
use Rattle.mw_tables.specs.WorldShape.{format_in, class_word_at, class_at, item_at, entrance_at, kind_at, event_in, location_at, entry_at, entry_count, pool_at, parts_in, rows_in, world_shape_at}
use Rattle.mw_tables.specs.declared.raw_parts.WorldParts.{WorldParts}
use Rattle.mw_tables.specs.declared.raw_parts.WorldRows.{WorldRows}
use Rattle.mw_json.proofs.Passing.{past, after, where_true, in_field}
use Rattle.mw_tables.proofs.RawKept.{RawRuleKept, rule_kept}
use Rattle.mw_json.proofs.Kept.{number_kept, in_field_or, each_kept, list_kept}
use Rattle.mw_tables.proofs.Read.{name_kept, id_or_null_kept}

-- ---- items

abbrev Fits : Option ℤ → Class → Type 0
Fits id class = (is_some id || is_progression class) ≡ true

class_kept : (id : Option ℤ) (j : Json) → IfOk (class_at id j) (Fits id)
unfolding class_at
class_kept id j =
    past (Fits id) (class_word_at j) _ (λ class. where_true (Fits id) (is_some id || is_progression class) class WrongKind (λ e. e))

item_kept : (j : Json) → IfOk (item_at j) ItemKept
unfolding item_at
item_kept j =
    past ItemKept (object_at j) _ (λ ms.
    after (IsName 128) ItemKept (field_at (codes "name") (name_at 128) ms) _ (in_field (IsName 128) (codes "name") (name_at 128) ms (name_kept 128)) (λ name n.
    after IsIdOrNone ItemKept (field_at (codes "id") (null_or_at id_at) ms) _ (in_field IsIdOrNone (codes "id") (null_or_at id_at) ms id_or_null_kept) (λ id i.
    after (Fits id) ItemKept (field_at (codes "class") (class_at id) ms) _ (in_field (Fits id) (codes "class") (class_at id) ms (class_kept id)) (λ class c.
    record { name = n; id = i; event = c }))))

-- ---- entrances

pub record RawEntranceKept (e : RawEntrance) : Type 0 where
  pub name : IsName 128 e.name
  pub rule : RawRuleKept e.rule

entrance_kept : (j : Json) → IfOk (entrance_at j) RawEntranceKept
unfolding entrance_at
entrance_kept j =
    past RawEntranceKept (object_at j) _ (λ ms.
    after (IsName 128) RawEntranceKept (field_at (codes "name") (name_at 128) ms) _ (in_field (IsName 128) (codes "name") (name_at 128) ms (name_kept 128)) (λ name n.
    past RawEntranceKept (field_at (codes "from") (name_at 128) ms) _ (λ from.
    past RawEntranceKept (field_at (codes "to") (name_at 128) ms) _ (λ to.
    after RawRuleKept RawEntranceKept (field_at (codes "rule") rule_at ms) _ (in_field RawRuleKept (codes "rule") rule_at ms rule_kept) (λ rule r.
    record { name = n; rule = r })))))

-- ---- locations

-- an event stands exactly where there is no id
abbrev pub EventStands : Option ℤ → Option (List ℕ) → Type 0
EventStands (Some id) None = Unit {0}
EventStands (Some id) (Some event) = ⊥
EventStands None None = ⊥
EventStands None (Some event) = Unit {0}

pub record RawLocationKept (l : RawLocation) : Type 0 where
  pub name : IsName 128 l.name
  pub id : IsIdOrNone l.id
  pub rule : RawRuleKept l.rule
  pub event : EventStands l.id l.event

none_there : (id : ℤ) (j : Json) → IfOk (other_kind {A = Option (List ℕ)} j) (EventStands (Some id))
none_there id null = tt
none_there id (flag b) = tt
none_there id (whole z) = tt
none_there id not_whole = tt
none_there id (numeral s) = tt
none_there id (words s) = tt
none_there id (many js) = tt
none_there id (members ms) = tt

event_kept : (id : Option ℤ) (ms : Members) → IfOk (event_in id ms) (EventStands id)
event_kept None ms = past (EventStands None) (field_at (codes "event") (name_at 128) ms) _ (λ name. tt)
event_kept (Some id) ms = in_field_or (EventStands (Some id)) (codes "event") None other_kind ms tt (none_there id)

location_kept : (j : Json) → IfOk (location_at j) RawLocationKept
unfolding location_at
location_kept j =
    past RawLocationKept (object_at j) _ (λ ms.
    after (IsName 128) RawLocationKept (field_at (codes "name") (name_at 128) ms) _ (in_field (IsName 128) (codes "name") (name_at 128) ms (name_kept 128)) (λ name n.
    after IsIdOrNone RawLocationKept (field_at (codes "id") (null_or_at id_at) ms) _ (in_field IsIdOrNone (codes "id") (null_or_at id_at) ms id_or_null_kept) (λ id i.
    past RawLocationKept (field_at (codes "region") (name_at 128) ms) _ (λ region.
    past RawLocationKept (field_or_at (codes "kind") _ kind_at ms) _ (λ kind.
    after RawRuleKept RawLocationKept (field_at (codes "rule") rule_at ms) _ (in_field RawRuleKept (codes "rule") rule_at ms rule_kept) (λ rule r.
    after (EventStands id) RawLocationKept (event_in id ms) _ (event_kept id ms) (λ event e.
    record { name = n; id = i; rule = r; event = e })))))))

-- ---- the pool

pub record RawEntryKept (p : RawEntry) : Type 0 where
  pub low : 1 ≤ p.count
  pub high : p.count ≤ 10000

abbrev IsCounted : ℕ → Type 0
IsCounted n = (1 ≤ n) × (n ≤ 10000)

entry_kept : (j : Json) → IfOk (entry_at j) RawEntryKept
unfolding entry_at
entry_kept j =
    past RawEntryKept (object_at j) _ (λ ms.
    past RawEntryKept (field_at (codes "item") (name_at 128) ms) _ (λ name.
    after IsCounted RawEntryKept (field_at (codes "count") (number_at 1 10000) ms) _ (in_field IsCounted (codes "count") (number_at 1 10000) ms (number_kept 1 10000)) (λ count h.
    record { low = h.0; high = h.1 })))

pub record RawPoolKept (ps : List RawEntry) : Type 0 where
  pub each : All RawEntryKept ps
  pub together : sum_by entry_count ps ≤ 10000

few : (n : ℕ) → nat_le n 10000 ≡ true → n ≤ 10000
few n h = grind (arith, common_steps)

pool_kept : (j : Json) → IfOk (pool_at j) RawPoolKept
unfolding pool_at
pool_kept j =
    past RawPoolKept (list_at j) _ (λ js.
    after (λ ps. (length ps ≡ items_length js) × All RawEntryKept ps) RawPoolKept (each_from entry_at 0 js) _ (each_kept RawEntryKept entry_at entry_kept 0 js) (λ ps h.
    where_true RawPoolKept (nat_le (sum_by entry_count ps) 10000) ps TooMany (λ e. record { each = h.1; together = few (sum_by entry_count ps) e })))

-- ---- the whole

abbrev IsLimited : {A : Type 0} → (A → Type 0) → ℕ → List A → Type 0
IsLimited P most xs = (length xs ≤ most) × All P xs

pub record IsShaped (w : RawWorld) : Type 0 where
  pub game : IsName 128 w.game
  pub regions : IsLimited (IsName 128) 5000 w.regions
  pub items : IsLimited ItemKept 10000 w.items
  pub entrances : IsLimited RawEntranceKept 10000 w.entrances
  pub locations : IsLimited RawLocationKept 10000 w.locations
  pub pool : RawPoolKept w.pool
  pub goal : RawRuleKept w.goal

record PartsShaped (p : WorldParts) : Type 0 where
  game : IsName 128 p.game
  regions : IsLimited (IsName 128) 5000 p.regions
  items : IsLimited ItemKept 10000 p.items

parts_shaped : (ms : Members) → IfOk (parts_in ms) PartsShaped
unfolding parts_in
parts_shaped ms =
    after (IsName 128) PartsShaped (field_at (codes "game") (name_at 128) ms) _ (in_field (IsName 128) (codes "game") (name_at 128) ms (name_kept 128)) (λ game g.
    past PartsShaped (field_or_at (codes "origin") (codes "Menu") (name_at 128) ms) _ (λ origin.
    after (IsLimited (IsName 128) 5000) PartsShaped (field_at (codes "regions") (list_of_at 5000 (name_at 128)) ms) _ (in_field (IsLimited (IsName 128) 5000) (codes "regions") (list_of_at 5000 (name_at 128)) ms (list_kept (IsName 128) (name_at 128) (name_kept 128) 5000)) (λ regions r.
    after (IsLimited ItemKept 10000) PartsShaped (field_at (codes "items") (list_of_at 10000 item_at) ms) _ (in_field (IsLimited ItemKept 10000) (codes "items") (list_of_at 10000 item_at) ms (list_kept ItemKept item_at item_kept 10000)) (λ items i.
    record { game = g; regions = r; items = i }))))

record RowsShaped (r : WorldRows) : Type 0 where
  entrances : IsLimited RawEntranceKept 10000 r.entrances
  locations : IsLimited RawLocationKept 10000 r.locations
  pool : RawPoolKept r.pool

rows_shaped : (ms : Members) → IfOk (rows_in ms) RowsShaped
unfolding rows_in
rows_shaped ms =
    after (IsLimited RawEntranceKept 10000) RowsShaped (field_at (codes "entrances") (list_of_at 10000 entrance_at) ms) _ (in_field (IsLimited RawEntranceKept 10000) (codes "entrances") (list_of_at 10000 entrance_at) ms (list_kept RawEntranceKept entrance_at entrance_kept 10000)) (λ entrances e.
    after (IsLimited RawLocationKept 10000) RowsShaped (field_at (codes "locations") (list_of_at 10000 location_at) ms) _ (in_field (IsLimited RawLocationKept 10000) (codes "locations") (list_of_at 10000 location_at) ms (list_kept RawLocationKept location_at location_kept 10000)) (λ locations l.
    after RawPoolKept RowsShaped (field_at (codes "pool") pool_at ms) _ (in_field RawPoolKept (codes "pool") pool_at ms pool_kept) (λ pool p.
    past RowsShaped (field_at (codes "filler") (name_at 128) ms) _ (λ filler.
    record { entrances = e; locations = l; pool = p }))))

pub world_shaped : (j : Json) → IfOk (world_shape_at j) IsShaped
unfolding world_shape_at
world_shaped j =
    past IsShaped (object_at j) _ (λ ms.
    past IsShaped (format_in (codes "mw-world-1") ms) _ (λ format.
    after PartsShaped IsShaped (parts_in ms) _ (parts_shaped ms) (λ parts p.
    after RowsShaped IsShaped (rows_in ms) _ (rows_shaped ms) (λ rows r.
    after RawRuleKept IsShaped (field_at (codes "goal") rule_at ms) _ (in_field RawRuleKept (codes "goal") rule_at ms rule_kept) (λ goal o.
    record { game = p.game; regions = p.regions; items = p.items; entrances = r.entrances; locations = r.locations; pool = r.pool; goal = o })))))

pub shaped_is_small : (w : RawWorld) → IsShaped w → IsSmall w
shaped_is_small w h = record { regions = omega (arith, h.regions.0); items = h.items.0; entrances = h.entrances.0; locations = h.locations.0 }
