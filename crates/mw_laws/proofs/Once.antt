-- Each check of a journal stands once, and so does what it gives.
use Rattle.std.proofs.Common.{◌≡◌, ℕ, ℤ, ◌==◌, ◌&&◌, List, true, false, cond, ◌∷◌, [], ◌++◌, Option, Some, None, refl, sym, ap, ◌∙◌, true≢false, eqb-true, eq-eqb}
use Rattle.std.specs.Ordering.{int_eq}
use Rattle.std.proofs.lemmas.Bool.{or_parts, and_parts, and_from}
use Rattle.std.proofs.lemmas.Bool.Decides.{Decides-int_eq}
use Rattle.mw_model.specs.Items.{NetItem}
use Rattle.mw_model.specs.Seed.{Seed, Held, held_at, held_among, is_owner}
use Rattle.mw_protocol.specs.Asked.{asked, checked}
use Rattle.mw_protocol.specs.Checks.{Check, same_check, has_check, unseen, found_item, item_for, items_found}
use Rattle.mw_laws.specs.Items.{AreDifferent, IsElsewhere, ItemsComeOnce}
use Rattle.mw_laws.proofs.Each.{Each, each_weaker, some_same, none_some}
use Rattle.mw_laws.proofs.Journal.{has_check_append}
use Rattle.mw_laws.proofs.Pairs.{Pairs, pairs_at, each_append, pairs_append}

-- ---- checks

-- what is neither among the seen ones nor the same as one more
parts_unseen : (seen : List Check) (c d : Check) → has_check (seen ++ c ∷ []) d ≡ false → (has_check seen d ≡ false) × (same_check c d ≡ false)
parts_unseen seen c d h =
    let parts = or_parts (has_check seen d) (has_check (c ∷ []) d) (sym (has_check_append seen (c ∷ []) d) ∙ h) in
    (parts.0, (or_parts (same_check c d) false parts.1).0)

unseen_new : (seen xs : List Check) → Each (λ d. has_check seen d ≡ false) (unseen seen xs)
unseen_new seen [] = tt
unseen_new seen (c ∷ xs) =
    elim (has_check seen c) as (λ b. has_check seen c ≡ b → Each (λ d. has_check seen d ≡ false) (cond b (unseen seen xs) (c ∷ unseen (seen ++ c ∷ []) xs))) [
      | true ↦ λ _. unseen_new seen xs
      | false ↦ λ new.
          (new, each_weaker (λ d. has_check (seen ++ c ∷ []) d ≡ false) (λ d. has_check seen d ≡ false) (λ d h. (parts_unseen seen c d h).0) (unseen (seen ++ c ∷ []) xs) (unseen_new (seen ++ c ∷ []) xs))
    ] refl

unseen_once : (seen xs : List Check) → Pairs AreDifferent (unseen seen xs)
unseen_once seen [] = tt
unseen_once seen (c ∷ xs) =
    elim (has_check seen c) as (λ b. Pairs AreDifferent (cond b (unseen seen xs) (c ∷ unseen (seen ++ c ∷ []) xs))) [
      | true ↦ unseen_once seen xs
      | false ↦ (
        each_weaker (λ d. has_check (seen ++ c ∷ []) d ≡ false) (AreDifferent c) (λ d h. (parts_unseen seen c d h).1) (unseen (seen ++ c ∷ []) xs) (unseen_new (seen ++ c ∷ []) xs),
        unseen_once (seen ++ c ∷ []) xs,
      )
    ]

-- ---- items

-- what stands at a location of a slot names both
pub held_place : (hs : List Held) (slot : ℕ) (location : ℤ) (h : Held) → held_among hs slot location ≡ Some h → (h.slot ≡ slot) × (h.location ≡ location)
held_place [] slot location h e = absurd (none_some h e)
held_place (g ∷ gs) slot location h e =
    elim ((g.slot == slot) && int_eq g.location location) as (λ b. ((g.slot == slot) && int_eq g.location location) ≡ b → cond b (Some g) (held_among gs slot location) ≡ Some h → (h.slot ≡ slot) × (h.location ≡ location)) [
      | true ↦ λ at same.
          let parts = and_parts (g.slot == slot) (int_eq g.location location) at in
          (ap (λ k. k.slot) (sym (some_same g h same)) ∙ eqb-true g.slot slot parts.0, ap (λ k. k.location) (sym (some_same g h same)) ∙ (Decides-int_eq g.location location).0 parts.1)
      | false ↦ λ _ later. held_place gs slot location h later
    ] refl e

-- an item that a check gives in a team
abbrev pub IsFrom : ℕ → Check → NetItem → Type 0
IsFrom team c i = (c.team ≡ team) × (i.player ≡ c.slot) × (i.location ≡ c.location)

given_from : (seed : Seed) (team slot : ℕ) (c : Check) (o : Option Held) → ((h : Held) → o ≡ Some h → (h.slot ≡ c.slot) × (h.location ≡ c.location)) → Each (IsFrom team c) (item_for seed team slot c o)
given_from seed team slot c None place = tt
given_from seed team slot c (Some h) place =
    elim ((c.team == team) && is_owner seed h.receiver slot) as (λ b. ((c.team == team) && is_owner seed h.receiver slot) ≡ b → Each (IsFrom team c) (cond b (found_item h ∷ []) [])) [
      | true ↦ λ for. ((eqb-true c.team team (and_parts (c.team == team) (is_owner seed h.receiver slot) for).0, (place h refl).0, (place h refl).1), tt)
      | false ↦ λ _. tt
    ] refl

given_once : (R : NetItem → NetItem → Type 0) (seed : Seed) (team slot : ℕ) (c : Check) (o : Option Held) → Pairs R (item_for seed team slot c o)
given_once R seed team slot c None = tt
given_once R seed team slot c (Some h) = elim ((c.team == team) && is_owner seed h.receiver slot) as (λ b. Pairs R (cond b (found_item h ∷ []) [])) [ true ↦ (tt, tt) | false ↦ tt ]

abbrev pub given : Seed → ℕ → ℕ → Check → List NetItem
given seed team slot c = item_for seed team slot c (held_at seed c.slot c.location)

pub from : (seed : Seed) (team slot : ℕ) (c : Check) → Each (IsFrom team c) (given seed team slot c)
from seed team slot c = given_from seed team slot c (held_at seed c.slot c.location) (held_place seed.locations c.slot c.location)

-- items of different checks are elsewhere
apart : (team : ℕ) (c d : Check) (i j : NetItem) → IsFrom team c i → IsFrom team d j → same_check c d ≡ false → IsElsewhere i j
apart team c d i j of_c of_d different same =
    let teams = eq-eqb c.team d.team (of_c.0 ∙ sym of_d.0) in
    let slots = eq-eqb c.slot d.slot (sym of_c.1 ∙ same.0 ∙ of_d.1) in
    let locations = (Decides-int_eq c.location d.location).1 (sym of_c.2 ∙ same.1 ∙ of_d.2) in
    let all : same_check c d ≡ true = and_from ((c.team == d.team) && (c.slot == d.slot)) (int_eq c.location d.location) (and_from (c.team == d.team) (c.slot == d.slot) teams slots) locations in
    true≢false (sym all ∙ different)

later_apart : (seed : Seed) (team slot : ℕ) (c : Check) (i : NetItem) → IsFrom team c i → (ds : List Check) → Each (AreDifferent c) ds → Each (IsElsewhere i) (items_found seed team slot ds)
later_apart seed team slot c i of_c [] h = tt
later_apart seed team slot c i of_c (d ∷ ds) h =
    each_append (IsElsewhere i) (given seed team slot d) (items_found seed team slot ds)
    (each_weaker (IsFrom team d) (IsElsewhere i) (λ j of_d. apart team c d i j of_c of_d h.0) (given seed team slot d) (from seed team slot d))
    (later_apart seed team slot c i of_c ds h.1)

items_once : (seed : Seed) (team slot : ℕ) (cs : List Check) → Pairs AreDifferent cs → Pairs IsElsewhere (items_found seed team slot cs)
items_once seed team slot [] h = tt
items_once seed team slot (c ∷ cs) h =
    pairs_append IsElsewhere (given seed team slot c) (items_found seed team slot cs)
    (given_once IsElsewhere seed team slot c (held_at seed c.slot c.location)) (items_once seed team slot cs h.1)
    (each_weaker (IsFrom team c) (λ i. Each (IsElsewhere i) (items_found seed team slot cs)) (λ i of_c. later_apart seed team slot c i of_c cs h.0) (given seed team slot c) (from seed team slot c))

pub items_come_once : ItemsComeOnce
items_come_once seed journal =
    let once = unseen_once [] (asked seed journal) in
    record {
      checks = pairs_at AreDifferent (checked seed journal) once;
      items = λ team slot. pairs_at IsElsewhere (items_found seed team slot (checked seed journal)) (items_once seed team slot (checked seed journal) once);
      received = λ team slot. refl;
    }
