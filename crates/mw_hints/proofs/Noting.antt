-- Known locations among numbers that are looked at one by one.
use Rattle.std.proofs.Common.{◌≡◌, ℕ, ℤ, ◌==◌, ◌&&◌, ◌||◌, List, [], ◌∷◌, ◌++◌, Bool, true, false, refl, sym, ap, ap₂, ◌∙◌, append_assoc, cond}
use Rattle.std.specs.List.{list_any}
use Rattle.std.specs.Option.{is_some}
use Rattle.std.specs.Ordering.{int_eq}
use Rattle.std.proofs.lemmas.Bool.Decides.{Decides-eqb, Decides-int_eq}
use Rattle.mw_model.specs.Seed.{Seed, held_at}
use Rattle.mw_protocol.specs.Checks.{Check, has_check, checks_at, unseen}
use Rattle.mw_protocol.specs.Locations.{known}
use Rattle.mw_hints.specs.Scouted.{found_with}

bools_same : (a b : Bool) → (a ≡ true → b ≡ true) → (b ≡ true → a ≡ true) → a ≡ b
bools_same true b f g = sym (f refl)
bools_same false true f g = g refl
bools_same false false f g = refl

-- a location is among others where its check is
is_among : (team slot : ℕ) (l : ℤ) (ls : List ℤ) → has_check (checks_at team slot ls) record { team = team; slot = slot; location = l } ≡ list_any (int_eq l) ls
is_among team slot l [] = refl
is_among team slot l (x ∷ ls) =
    let either : int_eq x l ≡ int_eq l x =
    bools_same (int_eq x l) (int_eq l x) (λ h. (Decides-int_eq l x).1 (sym ((Decides-int_eq x l).0 h))) (λ h. (Decides-int_eq x l).1 (sym ((Decides-int_eq l x).0 h))) in
    let same : ((team == team) && (slot == slot) && int_eq x l) ≡ int_eq l x =
    ap₂ (λ (a b : Bool). a && b && int_eq x l) ((Decides-eqb team team).1 refl) ((Decides-eqb slot slot).1 refl) ∙ either in
    ap₂ (λ (a b : Bool). a || b) same (is_among team slot l ls)

checks_at-append : (team slot : ℕ) (xs ys : List ℤ) → checks_at team slot (xs ++ ys) ≡ checks_at team slot xs ++ checks_at team slot ys
checks_at-append team slot [] ys = refl
checks_at-append team slot (x ∷ xs) ys = ap (λ cs. record { team = team; slot = slot; location = x } ∷ cs) (checks_at-append team slot xs ys)

pub none_noted : (seed : Seed) (team slot : ℕ) (l : ℤ) (found others : List ℤ) → is_some (held_at seed slot l) ≡ false → found_with seed team slot found others ≡ found_with seed team slot found (l ∷ others)
none_noted seed team slot l found others unknown =
    ap (λ (b : Bool). checks_at team slot found ++ unseen (checks_at team slot found) (checks_at team slot (cond b (l ∷ known seed slot others) (known seed slot others)))) (sym unknown)

pub one_noted : (seed : Seed) (team slot : ℕ) (l : ℤ) (old new others : List ℤ) → is_some (held_at seed slot l) ≡ true → new ≡ cond (list_any (int_eq l) old) old (old ++ l ∷ [])
    → found_with seed team slot new others ≡ found_with seed team slot old (l ∷ others)
one_noted seed team slot l old new others there is =
    let c : Check = record { team = team; slot = slot; location = l } in
    let seen = checks_at team slot old in
    let rest = checks_at team slot (known seed slot others) in
    let taken : unseen seen (checks_at team slot (known seed slot (l ∷ others))) ≡ cond (list_any (int_eq l) old) (unseen seen rest) (c ∷ unseen (seen ++ c ∷ []) rest) =
    ap (λ (b : Bool). unseen seen (checks_at team slot (cond b (l ∷ known seed slot others) (known seed slot others)))) there
    ∙ ap (λ (b : Bool). cond b (unseen seen rest) (c ∷ unseen (seen ++ c ∷ []) rest)) (is_among team slot l old) in
    ap (λ ls. found_with seed team slot ls others) is
    ∙ elim (list_any (int_eq l) old) as (λ b. found_with seed team slot (cond b old (old ++ l ∷ [])) others ≡ seen ++ cond b (unseen seen rest) (c ∷ unseen (seen ++ c ∷ []) rest)) [
      | true ↦ refl
      | false ↦
          ap (λ cs. cs ++ unseen cs rest) (checks_at-append team slot old (l ∷ []))
          ∙ append_assoc seen (c ∷ []) (unseen (seen ++ c ∷ []) rest)
    ]
    ∙ ap (λ cs. seen ++ cs) (sym taken)
