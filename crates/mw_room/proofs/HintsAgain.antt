-- Hints that a scouting tells again.
use Rattle.std.proofs.Common.{◌≡◌, ℕ, ℤ, ◌&&◌, ◌||◌, true, false, not, cond, List, [], ◌∷◌, ◌++◌, Bool, Option, Some, None, is_some, map, refl, sym, ap, ap₂, ◌∙◌, subst, append_assoc, append-nil, true≢false}
use Rattle.std.specs.Option.{unwrap_or}
use Rattle.std.specs.Ordering.{int_eq}
use Rattle.std.proofs.lemmas.Bool.Decides.{Decides-and, Decides-eqb, Decides-int_eq}
use Rattle.mw_model.specs.Seed.{Seed, held_at}
use Rattle.mw_protocol.specs.Checks.{Check, CheckedAt, checks_at}
use Rattle.mw_protocol.specs.HintList.{is_at, hint_at, made, hinted_all}
use Rattle.mw_protocol.specs.Hints.{scouted_among, scouted_hint}
use Rattle.mw_protocol.specs.Locating.{hint_list, hint_told, hints_at, hints_told}
use Rattle.mw_protocol.specs.Records.{Hint, hint}
use Rattle.mw_protocol.specs.Standing as plain
use Rattle.mw_protocol.specs.Standing.{is_checked}
use Rattle.mw_room.specs.Hinting.{all_told, is_told, told_at, told_if, told_where}
use Rattle.mw_room.proofs.HintsMade.{told_same}

-- one of the checks is of the location
abbrev has_location : List Check → ℤ → Bool
has_location [] l = false
has_location (c ∷ cs) l = int_eq c.location l || has_location cs l

or_nothing : (b : Bool) → b ≡ (b || false)
or_nothing true = refl
or_nothing false = refl

or_true : (b : Bool) → (b || true) ≡ true
or_true true = refl
or_true false = refl

and_nothing : (b : Bool) → (b && false) ≡ false
and_nothing true = refl
and_nothing false = refl

there_more : (hs : List Hint) (h : Hint) (t f : ℕ) (l : ℤ) → is_some (hint_at (hs ++ h ∷ []) t f l) ≡ (is_some (hint_at hs t f l) || is_at t f l h)
there_more [] h t f l = elim (is_at t f l h) as (λ b. is_some (cond b (Some h) None) ≡ (false || b)) [ true ↦ refl | false ↦ refl ]
there_more (x ∷ hs) h t f l =
    elim (is_at t f l x) as (λ b. is_some (cond b (Some x) (hint_at (hs ++ h ∷ []) t f l)) ≡ (is_some (cond b (Some x) (hint_at hs t f l)) || is_at t f l h)) [
      | true ↦ refl
      | false ↦ there_more hs h t f l
    ]

scouted_is_at : (t s : ℕ) (l : ℤ) (c : Check) → is_at t s l (scouted_hint t s c) ≡ int_eq c.location l
scouted_is_at t s l c = ap₂ (λ (a b : Bool). a && b && int_eq c.location l) ((Decides-eqb t t).1 refl) ((Decides-eqb s s).1 refl)

-- where a hint of the location is there already
covered : (ks : List Hint) (t s : ℕ) (l : ℤ) (c : Check) → is_some (hint_at ks t s c.location) ≡ true → is_some (hint_at ks t s l) ≡ (is_some (hint_at ks t s l) || int_eq c.location l)
covered ks t s l c e =
    let x = is_some (hint_at ks t s l) in
    (elim (int_eq c.location l) as (λ b. int_eq c.location l ≡ b → x ≡ (x || b)) [
      | true ↦ (λ same.
          let there : x ≡ true = subst (λ (z : ℤ). is_some (hint_at ks t s z) ≡ true) ((Decides-int_eq c.location l).0 same) e in
          there ∙ sym (or_true x))
      | false ↦ (λ other. or_nothing x)
    ]) refl

made_there : (ks : List Hint) (t s : ℕ) (l : ℤ) (c : Check) → is_some (hint_at (made ks (scouted_hint t s c)) t s l) ≡ (is_some (hint_at ks t s l) || int_eq c.location l)
made_there ks t s l c =
    let h = scouted_hint t s c in
    (elim (is_some (hint_at ks t s c.location)) as (λ b. is_some (hint_at ks t s c.location) ≡ b → is_some (hint_at (cond b ks (ks ++ h ∷ [])) t s l) ≡ (is_some (hint_at ks t s l) || int_eq c.location l)) [
      | true ↦ covered ks t s l c
      | false ↦ (λ none. there_more ks h t s l ∙ ap (λ (b : Bool). is_some (hint_at ks t s l) || b) (scouted_is_at t s l c))
    ]) refl

-- it is checked or has a hint, so a scouting makes none of it
abbrev is_spent : CheckedAt → List Hint → ℕ → ℕ → ℤ → Bool
is_spent found gs t s l = found t s l || is_some (hint_at gs t s l)

spent_same : (found : CheckedAt) (gs : List Hint) (t s : ℕ) (c : Check) (rest : Bool) (l : ℤ) → is_spent found gs t s c.location ≡ true
    → (rest && not (is_spent found gs t s l)) ≡ ((int_eq c.location l || rest) && not (is_spent found gs t s l))
spent_same found gs t s c rest l e =
    (elim (int_eq c.location l) as (λ b. int_eq c.location l ≡ b → (rest && not (is_spent found gs t s l)) ≡ ((b || rest) && not (is_spent found gs t s l))) [
      | true ↦ (λ same.
          let spent : is_spent found gs t s l ≡ true = subst (λ (z : ℤ). is_spent found gs t s z ≡ true) ((Decides-int_eq c.location l).0 same) e in
          ap (λ (b : Bool). rest && not b) spent ∙ and_nothing rest ∙ sym (ap (λ (b : Bool). not b) spent))
      | false ↦ (λ other. refl)
    ]) refl

open_regrouped : (x i h e : Bool) → (i ≡ true → e ≡ false) → ((x || i) || (h && not e)) ≡ (x || ((i || h) && not e))
open_regrouped true i h e f = refl
open_regrouped false true h e f = sym (ap (λ (b : Bool). not b) (f refl))
open_regrouped false false h e f = refl

-- which locations have a hint once a scouting has made its own
news_there : (found : CheckedAt) (gs ks : List Hint) (t s : ℕ) (cs : List Check) (l : ℤ)
    → is_some (hint_at (hinted_all ks (map hint (scouted_among found gs t s cs))) t s l) ≡ (is_some (hint_at ks t s l) || (has_location cs l && not (is_spent found gs t s l)))
news_there found gs ks t s [] l = or_nothing (is_some (hint_at ks t s l))
news_there found gs ks t s (c ∷ cs) l =
    let rest = scouted_among found gs t s cs in
    let h = scouted_hint t s c in
    let x = is_some (hint_at ks t s l) in
    (elim (is_spent found gs t s c.location) as (λ b. is_spent found gs t s c.location ≡ b
    → is_some (hint_at (hinted_all ks (map hint (cond b rest (h ∷ rest)))) t s l) ≡ (x || ((int_eq c.location l || has_location cs l) && not (is_spent found gs t s l)))) [
      | true ↦ (λ e. news_there found gs ks t s cs l ∙ ap (λ (b : Bool). x || b) (spent_same found gs t s c (has_location cs l) l e))
      | false ↦ (λ e.
          let fresh : int_eq c.location l ≡ true → is_spent found gs t s l ≡ false = λ same. subst (λ (z : ℤ). is_spent found gs t s z ≡ false) ((Decides-int_eq c.location l).0 same) e in
          news_there found gs (made ks h) t s cs l
          ∙ ap (λ (b : Bool). b || (has_location cs l && not (is_spent found gs t s l))) (made_there ks t s l c)
          ∙ open_regrouped x (int_eq c.location l) (has_location cs l) (is_spent found gs t s l) fresh)
    ]) refl

-- ---- what is told of them

found_is_at : (hs : List Hint) (t f : ℕ) (l : ℤ) (h : Hint) → hint_at hs t f l ≡ Some h → is_at t f l h ≡ true
found_is_at [] t f l h e = absurd (true≢false (sym (ap is_some e)))
found_is_at (x ∷ hs) t f l h e =
    (elim (is_at t f l x) as (λ b. is_at t f l x ≡ b → cond b (Some x) (hint_at hs t f l) ≡ Some h → is_at t f l h ≡ true) [
      | true ↦ (λ is some. subst (λ (z : Hint). is_at t f l z ≡ true) (ap (λ (y : Option Hint). unwrap_or y x) some) is)
      | false ↦ (λ is later. found_is_at hs t f l h later)
    ]) refl e

hints_told-append : (seed : Seed) (now : plain.Standing) (xs ys : List Hint) → hints_told seed now (xs ++ ys) ≡ hints_told seed now xs ++ hints_told seed now ys
hints_told-append seed now [] ys = refl
hints_told-append seed now (x ∷ xs) ys =
    let first = hint_told now x (held_at seed x.finder x.location) in
    ap (λ zs. first ++ zs) (hints_told-append seed now xs ys) ∙ sym (append_assoc first (hints_told seed now xs) (hints_told seed now ys))

-- it is at the place exactly where team, finder and location are these
place_is : (t f : ℕ) (l : ℤ) (h : Hint) → is_at t f l h ≡ true → (h.team ≡ t) × (h.finder ≡ f) × (h.location ≡ l)
place_is t f l h is =
    let all = (Decides-and _ _ (Decides-and _ _ (Decides-eqb h.team t) (Decides-eqb h.finder f)) (Decides-int_eq h.location l)).0 is in
    (all.0.0, all.0.1, all.1)

-- told of the hint that is there, as of its place
told_there : (seed : Seed) (now : plain.Standing) (t f : ℕ) (l : ℤ) (h : Hint) → is_at t f l h ≡ true → hint_told now h (held_at seed h.finder h.location) ≡ told_at now t f l (held_at seed f l)
told_there seed now t f l h is =
    let parts = place_is t f l h is in
    told_same now h (held_at seed h.finder h.location)
    ∙ ap (λ (n : ℕ). told_at now n h.finder h.location (held_at seed h.finder h.location)) parts.0
    ∙ ap₂ (λ (n : ℕ) (z : ℤ). told_at now t n z (held_at seed n z)) parts.1 parts.2

one_told : (seed : Seed) (now : plain.Standing) (t s : ℕ) (l : ℤ) (o : Option Hint) → is_some o ≡ is_told now t s true l → ((h : Hint) → o ≡ Some h → is_at t s l h ≡ true)
    → hints_told seed now (hint_list o) ≡ told_if seed now t s true l
one_told seed now t s l None is at = ap (λ (b : Bool). cond b (told_at now t s l (held_at seed s l)) []) is
one_told seed now t s l (Some h) is at =
    append-nil (hint_told now h (held_at seed h.finder h.location))
    ∙ told_there seed now t s l h (at h refl)
    ∙ ap (λ (b : Bool). cond b (told_at now t s l (held_at seed s l)) []) is

told_by : (o : Option Hint) (found : Bool) → (is_some o || (true && not (found || is_some o))) ≡ told_where o true found
told_by None true = refl
told_by None false = refl
told_by (Some h) found = refl

-- those of all scouted locations, once the new ones are made
again_among : (seed : Seed) (now : plain.Standing) (t s : ℕ) (all ls : List ℤ) → ((l : ℤ) → has_location (checks_at t s ls) l ≡ true → has_location (checks_at t s all) l ≡ true)
    → hints_told seed now (hints_at (hinted_all now.hints (map hint (scouted_among (is_checked now) now.hints t s (checks_at t s all)))) t s (checks_at t s ls)) ≡ all_told seed now t s true ls
again_among seed now t s all [] within = refl
again_among seed now t s all (x ∷ ls) within =
    let after = hinted_all now.hints (map hint (scouted_among (is_checked now) now.hints t s (checks_at t s all))) in
    let o = hint_at after t s x in
    let here : has_location (checks_at t s all) x ≡ true = within x (ap (λ (b : Bool). b || has_location (checks_at t s ls) x) ((Decides-int_eq x x).1 refl)) in
    let is : is_some o ≡ is_told now t s true x =
    news_there (is_checked now) now.hints now.hints t s (checks_at t s all) x
    ∙ ap (λ (b : Bool). is_some (hint_at now.hints t s x) || (b && not (is_spent (is_checked now) now.hints t s x))) here
    ∙ told_by (hint_at now.hints t s x) (is_checked now t s x) in
    hints_told-append seed now (hint_list o) (hints_at after t s (checks_at t s ls))
    ∙ ap₂ (λ xs ys. xs ++ ys) (one_told seed now t s x o is (found_is_at after t s x))
    (again_among seed now t s all ls (λ l h. within l (ap (λ (b : Bool). int_eq x l || b) h ∙ or_true (int_eq x l))))

pub again_told : (seed : Seed) (now : plain.Standing) (t s : ℕ) (ls : List ℤ)
    → hints_told seed now (hints_at (hinted_all now.hints (map hint (scouted_among (is_checked now) now.hints t s (checks_at t s ls)))) t s (checks_at t s ls)) ≡ all_told seed now t s true ls
again_told seed now t s ls = again_among seed now t s ls ls (λ l h. h)
