-- Checks that are among others.
use Rattle.std.proofs.Common.{◌≡◌, ℕ, ℤ, pos, ◌&&◌, ◌||◌, ◌==◌, List, true, false, cond, ◌∷◌, [], ◌++◌, Option, Some, None, Contains, map, refl, sym, ap, ap₂, subst, ◌∙◌, append_assoc, true≢false, eq-eqb, eqb-true, int_le, suc, arith}
use Rattle.std.specs.Ordering.{int_eq}
use Rattle.std.proofs.lemmas.Bool.{and_parts, and_from, or_left, or_right}
use Rattle.std.proofs.lemmas.Bool.Decides.{Decides-int_eq}
use Rattle.mw_model.specs.Items.{NetItem}
use Rattle.mw_model.specs.Seed.{Seed, Slot, StartItem, slot_of}
use Rattle.mw_protocol.specs.Asked.{asked}
use Rattle.mw_protocol.specs.Checks.{Check, same_check, has_check, checks_at, unseen, locations_in, keeps, start_item, start_items, items_found, received_in, view_in}
use Rattle.mw_protocol.specs.Locations.{location_of}
use Rattle.mw_protocol.specs.Records.{Record}
use Rattle.mw_protocol.specs.Shown.{item_check, at_locations}
use Rattle.mw_protocol.specs.Standing.{Standing, steps}
use Rattle.mw_laws.proofs.Each.{Each, each_weaker}
use Rattle.mw_laws.proofs.Journal.{has_check_append, steps_checked}
use Rattle.mw_laws.proofs.Once.{IsFrom, given, from}
use Rattle.mw_laws.proofs.Pairs.{each_append, each_filter}

abbrev pub Among : List Check → Check → Type 0
Among cs c = has_check cs c ≡ true

same_self : (c : Check) → same_check c c ≡ true
same_self c = and_from ((c.team == c.team) && (c.slot == c.slot)) (int_eq c.location c.location) (and_from (c.team == c.team) (c.slot == c.slot) (eq-eqb c.team c.team refl) (eq-eqb c.slot c.slot refl)) ((Decides-int_eq c.location c.location).1 refl)

abbrev check_at : ℕ → ℕ → ℤ → Check
check_at team slot location = record { team = team; slot = slot; location = location }

by_parts : (c : Check) (team slot : ℕ) (location : ℤ) → c.team ≡ team → c.slot ≡ slot → c.location ≡ location → c ≡ check_at team slot location
by_parts c team slot location t s l = ap (λ n. check_at n c.slot c.location) t ∙ ap (λ n. check_at team n c.location) s ∙ ap (check_at team slot) l

same_is : (c d : Check) → same_check c d ≡ true → c ≡ d
same_is c d h =
    let parts = and_parts ((c.team == d.team) && (c.slot == d.slot)) (int_eq c.location d.location) h in
    let place = and_parts (c.team == d.team) (c.slot == d.slot) parts.0 in
    by_parts c d.team d.slot d.location (eqb-true c.team d.team place.0) (eqb-true c.slot d.slot place.1) ((Decides-int_eq c.location d.location).0 parts.1)

pub among_left : (xs ys : List Check) (c : Check) → Among xs c → Among (xs ++ ys) c
among_left xs ys c h = has_check_append xs ys c ∙ or_left (has_check xs c) (has_check ys c) h

pub among_right : (xs ys : List Check) (c : Check) → Among ys c → Among (xs ++ ys) c
among_right xs ys c h = has_check_append xs ys c ∙ or_right (has_check xs c) (has_check ys c) h

pub among_self : (cs : List Check) → Each (Among cs) cs
among_self [] = tt
among_self (c ∷ cs) = (or_left (same_check c c) (has_check cs c) (same_self c), each_weaker (Among cs) (Among (c ∷ cs)) (λ d h. or_right (same_check c d) (has_check cs d) h) cs (among_self cs))

pub among_contains : (cs : List Check) (c : Check) → Among cs c → Contains cs c
among_contains [] c h = absurd (true≢false (sym h))
among_contains (d ∷ cs) c h =
    elim (same_check d c) as (λ b. same_check d c ≡ b → (b || has_check cs c) ≡ true → Contains (d ∷ cs) c) [
      | true ↦ λ same _. (0, omega arith, same_is d c same)
      | false ↦ λ _ later. let rest = among_contains cs c later in (suc rest.0, omega arith, rest.2)
    ] refl h

-- ---- what is unseen

pub unseen_each : (P : Check → Type 0) (seen xs : List Check) → Each P xs → Each P (unseen seen xs)
unseen_each P seen [] h = tt
unseen_each P seen (c ∷ xs) h =
    elim (has_check seen c) as (λ b. Each P (cond b (unseen seen xs) (c ∷ unseen (seen ++ c ∷ []) xs))) [
      | true ↦ unseen_each P seen xs h.1
      | false ↦ (h.0, unseen_each P (seen ++ c ∷ []) xs h.1)
    ]

-- what is among a list is among the seen ones and those that are unseen in it
unseen_among : (seen xs : List Check) (c : Check) → Among xs c → Among (seen ++ unseen seen xs) c
unseen_among seen [] c h = absurd (true≢false (sym h))
unseen_among seen (x ∷ xs) c h =
    elim (has_check seen x) as (λ b. has_check seen x ≡ b → Among (seen ++ cond b (unseen seen xs) (x ∷ unseen (seen ++ x ∷ []) xs)) c) [
      | true ↦ λ was.
          elim (same_check x c) as (λ b. same_check x c ≡ b → (b || has_check xs c) ≡ true → Among (seen ++ unseen seen xs) c) [
            | true ↦ λ same _. among_left seen (unseen seen xs) c (subst (Among seen) (same_is x c same) was)
            | false ↦ λ _ later. unseen_among seen xs c later
          ] refl h
      | false ↦ λ _.
          subst (λ cs. Among cs c) (append_assoc seen (x ∷ []) (unseen (seen ++ x ∷ []) xs))
          (elim (same_check x c) as (λ b. same_check x c ≡ b → (b || has_check xs c) ≡ true → Among (seen ++ x ∷ [] ++ unseen (seen ++ x ∷ []) xs) c) [
            | true ↦ λ same _. among_left (seen ++ x ∷ []) (unseen (seen ++ x ∷ []) xs) c (among_right seen (x ∷ []) c (or_left (same_check x c) false same))
            | false ↦ λ _ later. unseen_among (seen ++ x ∷ []) xs c later
          ] refl h)
    ] refl

-- more records check what was checked, and what they ask for
pub still_among : (seed : Seed) (now : Standing) (records : List Record) (c : Check) → Among now.checked c → Among (steps seed now records).checked c
still_among seed now records c h = subst (λ cs. Among cs c) (sym (steps_checked seed now records)) (among_left now.checked (unseen now.checked (asked seed records)) c h)

pub asked_among : (seed : Seed) (now : Standing) (records : List Record) (c : Check) → Among (asked seed records) c → Among (steps seed now records).checked c
asked_among seed now records c h = subst (λ cs. Among cs c) (sym (steps_checked seed now records)) (unseen_among now.checked (asked seed records) c h)

-- ---- checks of a slot

abbrev IsOf : ℕ → ℕ → Check → Type 0
IsOf team slot c = (c.team ≡ team) × (c.slot ≡ slot)

at_of : (team slot : ℕ) (ls : List ℤ) → Each (IsOf team slot) (checks_at team slot ls)
at_of team slot [] = tt
at_of team slot (l ∷ ls) = ((refl, refl), at_of team slot ls)

again_at : (team slot : ℕ) (cs : List Check) → Each (IsOf team slot) cs → checks_at team slot (map location_of cs) ≡ cs
again_at team slot [] h = refl
again_at team slot (c ∷ cs) h =
    ap₂ (λ d ds. d ∷ ds) (sym (by_parts c team slot c.location h.0.0 h.0.1 refl)) (again_at team slot cs h.1)

-- the unseen ones of a slot's locations are those of their own locations
pub unseen_again : (seen : List Check) (team slot : ℕ) (ls : List ℤ) → checks_at team slot (map location_of (unseen seen (checks_at team slot ls))) ≡ unseen seen (checks_at team slot ls)
unseen_again seen team slot ls = again_at team slot (unseen seen (checks_at team slot ls)) (unseen_each (IsOf team slot) seen (checks_at team slot ls) (at_of team slot ls))

-- a location of a slot that is among the checks
abbrev pub LocationAmong : List Check → ℕ → ℕ → ℤ → Type 0
LocationAmong cs team slot location = Among cs record { team = team; slot = slot; location = location }

pub at_among : (cs : List Check) (team slot : ℕ) (ls : List ℤ) → Each (LocationAmong cs team slot) ls → Each (Among cs) (checks_at team slot ls)
at_among cs team slot [] h = tt
at_among cs team slot (l ∷ ls) h = (h.0, at_among cs team slot ls h.1)

in_among : (all : List Check) (team slot : ℕ) (cs : List Check) → Each (Among all) cs → Each (LocationAmong all team slot) (locations_in team slot cs)
in_among all team slot [] h = tt
in_among all team slot (c ∷ cs) h =
    elim ((c.team == team) && (c.slot == slot)) as (λ b. ((c.team == team) && (c.slot == slot)) ≡ b → Each (LocationAmong all team slot) (cond b (c.location ∷ locations_in team slot cs) (locations_in team slot cs))) [
      | true ↦ λ is.
          let parts = and_parts (c.team == team) (c.slot == slot) is in
          (subst (λ t. LocationAmong all t slot c.location) (eqb-true c.team team parts.0) (subst (λ n. LocationAmong all c.team n c.location) (eqb-true c.slot slot parts.1) h.0), in_among all team slot cs h.1)
      | false ↦ λ _. in_among all team slot cs h.1
    ] refl

pub locations_among : (cs : List Check) (team slot : ℕ) → Each (LocationAmong cs team slot) (locations_in team slot cs)
locations_among cs team slot = in_among cs team slot cs (among_self cs)

-- ---- items

-- if an item is at a location, that is among the checks
abbrev pub ItemAmong : List Check → ℕ → NetItem → Type 0
ItemAmong cs team i = int_le (pos 1) i.location ≡ true → Among cs (item_check team i)

pub items_among : (cs : List Check) (team : ℕ) (is : List NetItem) → Each (ItemAmong cs team) is → Each (Among cs) (at_locations (map (item_check team) is))
items_among cs team [] h = tt
items_among cs team (i ∷ is) h =
    let rest = at_locations (map (item_check team) is) in
    elim (int_le (pos 1) i.location) as (λ b. int_le (pos 1) i.location ≡ b → Each (Among cs) (cond b (item_check team i ∷ rest) rest)) [
      | true ↦ λ at. (h.0 at, items_among cs team is h.1)
      | false ↦ λ _. items_among cs team is h.1
    ] refl

start_among : (cs : List Check) (team : ℕ) (slot : Option Slot) → Each (ItemAmong cs team) (start_items slot)
start_among cs team None = tt
start_among cs team (Some slot) = all slot.start
  where
    all : (is : List StartItem) → Each (ItemAmong cs team) (map start_item is)
    all [] = tt
    all (i ∷ is) = (λ at. absurd (true≢false (sym at)), all is)

from_among : (cs : List Check) (team : ℕ) (c : Check) (i : NetItem) → Among cs c → IsFrom team c i → ItemAmong cs team i
from_among cs team c i h is _ =
    subst (λ t. Among cs record { team = t; slot = i.player; location = i.location }) is.0
    (subst (λ n. Among cs record { team = c.team; slot = n; location = i.location }) (sym is.1) (subst (λ l. Among cs record { team = c.team; slot = c.slot; location = l }) (sym is.2) h))

found_among : (seed : Seed) (all : List Check) (team slot : ℕ) (cs : List Check) → Each (Among all) cs → Each (ItemAmong all team) (items_found seed team slot cs)
found_among seed all team slot [] h = tt
found_among seed all team slot (c ∷ cs) h =
    each_append (ItemAmong all team) (given seed team slot c) (items_found seed team slot cs)
    (each_weaker (IsFrom team c) (ItemAmong all team) (λ i is. from_among all team c i h.0 is) (given seed team slot c) (from seed team slot c)) (found_among seed all team slot cs h.1)

pub view_among : (seed : Seed) (mask team slot : ℕ) (cs : List Check) → Each (ItemAmong cs team) (view_in seed mask team slot cs)
view_among seed mask team slot cs =
    each_filter (ItemAmong cs team) (keeps mask slot) (received_in seed team slot cs)
    (each_append (ItemAmong cs team) (start_items (slot_of seed slot)) (items_found seed team slot cs) (start_among cs team (slot_of seed slot)) (found_among seed cs team slot cs (among_self cs)))
