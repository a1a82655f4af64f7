-- The status of a slot at its place.
use Rattle.std.proofs.Common.{◌≡◌, ℕ, zero, suc, ◌==◌, ◌&&◌, ◌<◌, ◌≤◌, List, [], ◌∷◌, ◌++◌, true, false, cond, length, set, refl, sym, ap, ◌∙◌, arith}
use Rattle.std.proofs.lemmas.Bool.Decides.{Decides-and, Decides-eqb}
use Rattle.mw_protocol.specs.Statuses.{SlotStatus, set_status}
use Rattle.mw_effects.specs.Parts.{place_of_status}

-- where it stands
pub set_there : (ss : List SlotStatus) (n : SlotStatus) → place_of_status n.team n.slot ss < length ss → set ss (place_of_status n.team n.slot ss) n ≡ set_status n.team n.slot n.status ss
set_there [] n h = absurd (omega arith)
set_there (s ∷ ss) n h =
    let later = place_of_status n.team n.slot ss in
    let rest = set_status n.team n.slot n.status ss in
    (elim ((s.team == n.team) && (s.slot == n.slot)) as (λ b. ((s.team == n.team) && (s.slot == n.slot)) ≡ b → cond b zero (suc later) < suc (length ss)
    → set (s ∷ ss) (cond b zero (suc later)) n ≡ cond b (record { team = s.team; slot = s.slot; status = n.status } ∷ ss) (s ∷ rest)) [
      | true ↦ (λ is within.
          let same = (Decides-and (s.team == n.team) (s.slot == n.slot) (Decides-eqb s.team n.team) (Decides-eqb s.slot n.slot)).0 is in
          sym (ap (λ (t : ℕ). record { team = t; slot = s.slot; status = n.status } ∷ ss) same.0
          ∙ ap (λ (k : ℕ). record { team = n.team; slot = k; status = n.status } ∷ ss) same.1))
      | false ↦ (λ other within. ap (λ (xs : List SlotStatus). s ∷ xs) (set_there ss n (omega arith)))
    ]) refl h

-- or at the end
pub set_last : (ss : List SlotStatus) (n : SlotStatus) → length ss ≤ place_of_status n.team n.slot ss → ss ++ n ∷ [] ≡ set_status n.team n.slot n.status ss
set_last [] n h = refl
set_last (s ∷ ss) n h =
    let later = place_of_status n.team n.slot ss in
    let rest = set_status n.team n.slot n.status ss in
    (elim ((s.team == n.team) && (s.slot == n.slot)) as (λ b. suc (length ss) ≤ cond b zero (suc later) → s ∷ ss ++ n ∷ [] ≡ cond b (record { team = s.team; slot = s.slot; status = n.status } ∷ ss) (s ∷ rest)) [
      | true ↦ (λ past. absurd (omega arith))
      | false ↦ (λ past. ap (λ (xs : List SlotStatus). s ∷ xs) (set_last ss n (omega arith)))
    ]) h
