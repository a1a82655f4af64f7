-- What pairs give to a slot once they are checked.
use Rattle.std.proofs.Common.{◌≡◌, ℕ, ℤ, ◌&&◌, List, [], ◌∷◌, ◌++◌, Bool, Option, Some, None, Result, Ok, Err, IfOk, refl, sym, ap, ap₂, ◌∙◌, cond}
use Rattle.std.specs.List.{filter}
use Rattle.std.proofs.lemmas.Bool.{eq-eqb}
use Rattle.mw_model.specs.Items.{NetItem}
use Rattle.mw_model.specs.Seed.{Seed, Held, held_at, is_owner}
use Rattle.mw_protocol.specs.Checks.{found_item, item_for, items_found, keeps}
use Rattle.mw_checks.specs.Log.{check_of, checks_of}
use Rattle.mw_checks.specs.Views.{given_at, given_to}

given_for : (seed : Seed) (team slot : ℕ) (pair : ℕ × ℤ) (o : Option Held) → given_at seed slot o ≡ item_for seed team slot (check_of team pair) o
given_for seed team slot pair None = refl
given_for seed team slot pair (Some h) = ap (λ (b : Bool). cond (b && is_owner seed h.receiver slot) (found_item h ∷ []) []) (sym (eq-eqb team team refl))

given_is : (seed : Seed) (team slot : ℕ) (pairs : List (ℕ × ℤ)) → given_to seed slot pairs ≡ items_found seed team slot (checks_of team pairs)
given_is seed team slot [] = refl
given_is seed team slot (p ∷ ps) = ap₂ (λ (xs ys : List NetItem). xs ++ ys) (given_for seed team slot p (held_at seed p.0 p.1)) (given_is seed team slot ps)

pub results_given : {E : Type 0} (seed : Seed) (mask team slot : ℕ) (pairs : List (ℕ × ℤ)) (r : Result (List NetItem) E) → IfOk r (λ is. is ≡ filter (keeps mask slot) (given_to seed slot pairs))
    → IfOk r (λ is. is ≡ filter (keeps mask slot) (items_found seed team slot (checks_of team pairs)))
results_given seed mask team slot pairs (Ok is) e = e ∙ ap (filter (keeps mask slot)) (given_is seed team slot pairs)
results_given seed mask team slot pairs (Err x) e = tt
