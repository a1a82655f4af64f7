-- Masks that keep each item.
use Rattle.std.proofs.Common.{◌≡◌, ℕ, ◌/◌, ◌%◌, ◌==◌, List, [], ◌∷◌, Bool, true, false, cond, length, map, refl, sym, ap, ◌∙◌}
use Rattle.mw_model.specs.Items.{NetItem}
use Rattle.mw_model.specs.Seed.{Held}
use Rattle.mw_protocol.specs.Checks.{found_item, keeps}
use Rattle.mw_checks.specs.Rows.{AllBelow, standing}
use Rattle.mw_checks.specs.Views.{asked_of}
use Rattle.mw_checks.specs.declared.handling.Handling.{Handling}
use Rattle.mw_checks.proofs.Keeping.{shown_all}

pub keeps_each : (mask slot : ℕ) (item : NetItem) → (mask / 4 % 2 == 1) ≡ true → (mask / 2 % 2 == 1) ≡ true → (mask % 2 == 1) ≡ true → keeps mask slot item ≡ true
keeps_each mask slot item four two one =
    elim (item.player == 0) as (λ b. cond b (mask / 4 % 2 == 1) (cond (item.player == slot) (mask / 2 % 2 == 1) (mask % 2 == 1)) ≡ true) [
      | true ↦ four
      | false ↦ elim (item.player == slot) as (λ b. cond b (mask / 2 % 2 == 1) (mask % 2 == 1) ≡ true) [ true ↦ two | false ↦ one ]
    ]

asked_all : (handling : Handling) (items : List NetItem) → ((item : NetItem) → keeps handling.mask handling.slot item ≡ true) → asked_of handling items ≡ items
asked_all handling [] all = refl
asked_all handling (item ∷ items) all =
    ap (λ (b : Bool). cond b (item ∷ asked_of handling items) (asked_of handling items)) (all item)
    ∙ ap (λ (is : List NetItem). item ∷ is) (asked_all handling items all)

-- as many are asked for as there are numbers
pub counted_all : (handling : Handling) (hs : List Held) (ns : List ℕ) → AllBelow (length hs) ns → ((item : NetItem) → keeps handling.mask handling.slot item ≡ true)
    → length ns ≡ length (asked_of handling (map found_item (standing hs ns)))
counted_all handling hs ns few all =
    sym (ap length (asked_all handling (map found_item (standing hs ns)) all) ∙ shown_all found_item hs ns (map found_item (standing hs ns)) few refl)
