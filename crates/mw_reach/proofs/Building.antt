-- Rows of a joint with one row more.
use Rattle.std.proofs.Common.{◌≡◌, ℕ, ◌+◌, ◌<◌, List, [], ◌∷◌, ◌++◌, Option, None, Some, length, get_or, map, All, refl, sym, ap, ◌∙◌, arith}
use Rattle.std.proofs.lemmas.List.{map_push, length_push, get_or_append_left, get_or_push}
use Rattle.std.proofs.lemmas.List.Elements.{All-push, All-weaker}
use Rattle.mw_rules.specs.Rule.{Rule, IsWithin}
use Rattle.mw_rules.specs.Names.{AreNames}
use Rattle.mw_rules.proofs.Naming.{names_lie_within}
use Rattle.mw_rules.specs.Ruling.{rule_at}
use Rattle.mw_multi.specs.Joint.{Joint, Slot, place_total, item_total}
use Rattle.mw_multi.specs.Steps.{Step, rule_list, step_into, origin_step, entrance_step, location_step}
use Rattle.mw_multi.specs.World.{Entrance, Location}
use Rattle.mw_reach.specs.Building.{SlotFits, StartsThere}
use Rattle.mw_reach.specs.Rows.{RowFits, StartFits, step_in, step_of, steps_in}
use Rattle.mw_reach.specs.Tables.{IsWatched}
use Rattle.mw_reach.specs.Worklist.{no_row, IsOrigin, AreRows}
use Rattle.mw_reach.specs.declared.row.Row.{Row}
use Rattle.mw_reach.specs.declared.row.Start.{Start}
use Rattle.mw_reach.specs.declared.row.Rows.{Rows}
use Rattle.mw_reach.proofs.Among.{among_at}

origin_stays : (rows : List Row) (row : Row) (n : ℕ) → IsOrigin rows n → IsOrigin (rows ++ row ∷ []) n
origin_stays rows row n o =
    (omega (arith, o.0, length_push rows row), ap (λ r. r.start) (get_or_append_left rows (row ∷ []) no_row n o.0) ∙ o.1)

origin_new : (rows : List Row) (row : Row) → row.start ≡ None → IsOrigin (rows ++ row ∷ []) (length rows)
origin_new rows row e = (omega (arith, length_push rows row), ap (λ r. r.start) (get_or_push rows row no_row (length rows) refl) ∙ e)

pub rows_grow : (joint : Joint) (old new : Rows) (row : Row) → new.rows ≡ old.rows ++ row ∷ [] → steps_in joint new ≡ steps_in joint old ++ step_of joint row ∷ []
rows_grow joint old new row more = ap (map (step_of joint)) more ∙ map_push (step_of joint) old.rows row

module _ (joint : Joint) (places items : ℕ) (old new : Rows) (row : Row) (before : AreRows joint places items old) (fits : RowFits joint places items row)
    (more : new.rows ≡ old.rows ++ row ∷ []) (same_places : length new.by_place ≡ length old.by_place) (same_items : length new.by_item ≡ length old.by_item)
    (watched : IsWatched (steps_in joint old ++ step_of joint row ∷ []) new.origins new.by_place new.by_item) where
  pub one_row_more : new.origins ≡ old.origins → AreRows joint places items new
  one_row_more same = record {
    fit = rw more (All-push (RowFits joint places items) old.rows row before.fit fits);
    origins_fit = rw (same, more) (All-weaker (IsOrigin old.rows) (IsOrigin (old.rows ++ row ∷ [])) (origin_stays old.rows row) old.origins before.origins_fit);
    places_fit = same_places ∙ before.places_fit;
    items_fit = same_items ∙ before.items_fit;
    watched = rw (rows_grow joint old new row more) watched;
  }

  pub one_origin_more : row.start ≡ None → new.origins ≡ old.origins ++ length old.rows ∷ [] → AreRows joint places items new
  one_origin_more start grown = record {
    fit = rw more (All-push (RowFits joint places items) old.rows row before.fit fits);
    origins_fit = rw (grown, more) (All-push (IsOrigin (old.rows ++ row ∷ [])) old.origins (length old.rows)
        (All-weaker (IsOrigin old.rows) (IsOrigin (old.rows ++ row ∷ [])) (origin_stays old.rows row) old.origins before.origins_fit) (origin_new old.rows row start));
    places_fit = same_places ∙ before.places_fit;
    items_fit = same_items ∙ before.items_fit;
    watched = rw (rows_grow joint old new row more) watched;
  }

-- what a rule names is within the numbers that the rule is within
pub named_within : (rule : Rule) (items places : ℕ) (named_items named_places : List ℕ) → IsWithin items places rule → AreNames rule named_items named_places
    → All (λ i. i < items) named_items × All (λ p. p < places) named_places
named_within rule items places named_items named_places within names =
    let inside = names_lie_within rule items places within in (
      λ k d h. inside.0 (get_or named_items k d) (sym (names.items_named (get_or named_items k d)) ∙ among_at named_items k d h),
      λ k d h. inside.1 (get_or named_places k d) (sym (names.places_named (get_or named_places k d)) ∙ among_at named_places k d h),
    )

-- a row of a slot
module _ (joint : Joint) (index : ℕ) (slot : Slot) (s : SlotFits joint index slot) where
  pub start_row_fits : (start : Start) (to : ℕ) → to < place_total joint.slots → StartFits (rule_list joint) slot (place_total joint.slots) start
      → RowFits joint (place_total joint.slots) (item_total joint.slots) record { slot = index; start = Some start; to = to }
  start_row_fits start to h fits = record {
    slot_fits = s.within;
    places_fit = rw s.there s.places;
    items_fit = rw s.there s.items;
    to_fits = h;
    start_fits = rw s.there fits;
  }

  pub origin_row_fits : (to : ℕ) → to < place_total joint.slots → RowFits joint (place_total joint.slots) (item_total joint.slots) record { slot = index; start = None; to = to }
  origin_row_fits to h = record {
    slot_fits = s.within;
    places_fit = rw s.there s.places;
    items_fit = rw s.there s.items;
    to_fits = h;
    start_fits = tt;
  }

  pub starts_there : (start : Start) (to first_place first_item : ℕ) (items places : List ℕ) → first_place ≡ slot.first_place → first_item ≡ slot.first_item
      → AreNames (rule_at (rule_list joint) start.rule) items places
      → StartsThere start.from first_place first_item items places (step_of joint record { slot = index; start = Some start; to = to })
  starts_there start to first_place first_item items places place_is item_is names = record {
    from_is = refl;
    place_is = ap (λ t. t.first_place) s.there ∙ sym place_is;
    item_is = ap (λ t. t.first_item) s.there ∙ sym item_is;
    names = names;
  }

  -- the step that a row of the slot stands for
  pub step_of_slot : (start : Option Start) (to : ℕ) → step_of joint record { slot = index; start = start; to = to } ≡ step_in (rule_list joint) slot record { slot = index; start = start; to = to }
  step_of_slot start to = ap (λ t. step_in (rule_list joint) t record { slot = index; start = start; to = to }) s.there

  pub origin_is : (to : ℕ) → to ≡ slot.first_place + slot.world.origin → step_of joint record { slot = index; start = None; to = to } ≡ origin_step slot
  origin_is to is = step_of_slot None to ∙ ap (λ t. step_in (rule_list joint) slot record { slot = index; start = None; to = t }) is

  make : ℕ → ℕ → Rule → Step
  make f t r = record { from = Some f; to = t; rule = r; first_place = slot.first_place; first_item = slot.first_item }

  -- the step of a row, by its parts
  step_is : (start : Start) (to : ℕ) (from : ℕ) (into : ℕ) (rule : Rule) → start.from ≡ from → to ≡ slot.first_place + into → rule_at (rule_list joint) start.rule ≡ rule
      → step_of joint record { slot = index; start = Some start; to = to } ≡ step_into slot (Some from) into rule
  unfolding make
  step_is start to from into rule from_is to_is rule_is =
      step_of_slot (Some start) to
      ∙ ap (λ f. make f to (rule_at (rule_list joint) start.rule)) from_is
      ∙ ap (λ t. make from t (rule_at (rule_list joint) start.rule)) to_is
      ∙ ap (λ r. make from (slot.first_place + into) r) rule_is

  pub entrance_is : (e : Entrance) (start : Start) (to : ℕ) → start.from ≡ slot.first_place + e.from → to ≡ slot.first_place + e.to → rule_at (rule_list joint) start.rule ≡ e.rule
      → step_of joint record { slot = index; start = Some start; to = to } ≡ entrance_step slot e
  entrance_is e start to from_is to_is rule_is = step_is start to (slot.first_place + e.from) e.to e.rule from_is to_is rule_is

  pub location_is : (l : Location) (k : ℕ) (start : Start) (to : ℕ) → start.from ≡ slot.first_place + l.region → to ≡ slot.first_place + (length slot.world.regions + k) → rule_at (rule_list joint) start.rule ≡ l.rule
      → step_of joint record { slot = index; start = Some start; to = to } ≡ location_step slot k l
  location_is l k start to from_is to_is rule_is = step_is start to (slot.first_place + l.region) (length slot.world.regions + k) l.rule from_is to_is rule_is
