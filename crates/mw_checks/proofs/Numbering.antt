-- What stands at the number of a location.
use Rattle.std.proofs.Common.{◌≡◌, ℕ, ℤ, pos, ◌≤ℤ◌, ◌<ℤ◌, ◌^◌, zero, suc, ◌+◌, ◌-◌, ◌<◌, ◌≤◌, ◌==◌, ◌&&◌, List, [], ◌∷◌, true, false, Option, Some, None, length, refl, sym, ap, ap₂, ◌∙◌, subst, arith, cond}
use Rattle.std.specs.Prelude.{slice_get}
use Rattle.std.specs.Option.{is_some, IfSome}
use Rattle.std.specs.Ordering.{int_eq}
use Rattle.std.proofs.lemmas.Bool.Decides.{Decides-and, Decides-eqb, Decides-int_eq}
use Rattle.mw_model.specs.Seed.{Seed, Held, held_among, held_at}
use Rattle.mw_checks.specs.Numbers.{number_among, number_of, AllIds}

-- what has this number
abbrev pub at_number : ℕ → List Held → Option ℕ → Option Held
at_number n hs None = None
at_number n hs (Some k) = slice_get hs (k - n)

from_here : (n : ℕ) (hs : List Held) (slot : ℕ) (location : ℤ) (k : ℕ) → number_among n hs slot location ≡ Some k → n ≤ k
from_here n [] slot location k e = cc
from_here n (h ∷ hs) slot location k e =
    (elim ((h.slot == slot) && int_eq h.location location) as (λ b. cond b (Some n) (number_among (n + 1) hs slot location) ≡ Some k → n ≤ k) [
      | true ↦ (λ is. let same : n ≡ k = cc in omega (arith, same))
      | false ↦ (λ is. omega (arith, from_here (n + 1) hs slot location k is))
    ]) e

next_at : (n : ℕ) (h : Held) (hs : List Held) (slot : ℕ) (location : ℤ) (o : Option ℕ) → number_among (n + 1) hs slot location ≡ o → at_number (n + 1) hs o ≡ at_number n (h ∷ hs) o
next_at n h hs slot location None e = refl
next_at n h hs slot location (Some k) e =
    let after : n + 1 ≤ k = from_here (n + 1) hs slot location k e in
    let one : k - n ≡ suc (k - (n + 1)) = omega arith in
    ap (slice_get (h ∷ hs)) (sym one)

held_among_numbered : (n : ℕ) (hs : List Held) (slot : ℕ) (location : ℤ) → held_among hs slot location ≡ at_number n hs (number_among n hs slot location)
held_among_numbered n [] slot location = refl
held_among_numbered n (h ∷ hs) slot location =
    let none : n - n ≡ zero = omega arith in
    elim ((h.slot == slot) && int_eq h.location location) as (λ b. cond b (Some h) (held_among hs slot location) ≡ at_number n (h ∷ hs) (cond b (Some n) (number_among (n + 1) hs slot location))) [
      | true ↦ ap (slice_get (h ∷ hs)) (sym none)
      | false ↦ held_among_numbered (n + 1) hs slot location ∙ next_at n h hs slot location (number_among (n + 1) hs slot location) refl
    ]

abbrev pub standing_at : List Held → Option ℕ → Option Held
standing_at hs None = None
standing_at hs (Some k) = slice_get hs k

from_first : (hs : List Held) (o : Option ℕ) → standing_at hs o ≡ at_number 0 hs o
from_first hs None = refl
from_first hs (Some k) = let all : k ≡ k - 0 = omega arith in ap (slice_get hs) all

-- what stands at the number of a location
pub held_numbered : (seed : Seed) (slot : ℕ) (location : ℤ) (o : Option ℕ) → o ≡ number_of seed slot location → standing_at seed.locations o ≡ held_at seed slot location
held_numbered seed slot location o e = from_first seed.locations o ∙ ap (at_number 0 seed.locations) e ∙ sym (held_among_numbered 0 seed.locations slot location)

-- what is no id is no location
pub none_held : (hs : List Held) (slot : ℕ) (number : ℤ) → AllIds hs → ((pos 1 ≤ℤ number) → (number <ℤ pos (2 ^ 53)) → ⊥) → held_among hs slot number ≡ None
none_held [] slot number ids out = refl
none_held (h ∷ hs) slot number ids out =
    (elim ((h.slot == slot) && int_eq h.location number) as (λ b. ((h.slot == slot) && int_eq h.location number) ≡ b → cond b (Some h) (held_among hs slot number) ≡ None) [
      | true ↦ (λ test.
          let same : h.location ≡ number = ((Decides-and (h.slot == slot) (int_eq h.location number) (Decides-eqb h.slot slot) (Decides-int_eq h.location number)).0 test).1 in
          absurd (subst (λ (l : ℤ). (pos 1 ≤ℤ l) → (l <ℤ pos (2 ^ 53)) → ⊥) (sym same) out ids.0.0 ids.0.1))
      | false ↦ (λ test. none_held hs slot number ids.1 out)
    ]) refl

-- one location more is entered
pub entered : (at n : ℕ) (h : Held) (rest all : List Held) (slot : ℕ) (location : ℤ) (old : Option ℕ) (s : ℕ) (q : ℤ)
    → all ≡ h ∷ rest → at + 1 ≡ n → slot ≡ h.slot → location ≡ h.location → old ≡ number_among n rest s q
    → cond ((slot == s) && int_eq location q) (Some at) old ≡ number_among at all s q
entered at n h rest all slot location old s q e next is_slot is_location was =
    let later : old ≡ number_among (at + 1) rest s q = was ∙ ap (λ m. number_among m rest s q) (sym next) in
    ap₂ (λ (x : ℕ) (y : ℤ). cond ((x == s) && int_eq y q) (Some at) old) is_slot is_location
    ∙ ap (cond ((h.slot == s) && int_eq h.location q) (Some at)) later
    ∙ ap (λ hs. number_among at hs s q) (sym e)

-- a number counts within the list
number_below : (n : ℕ) (hs : List Held) (slot : ℕ) (location : ℤ) (k : ℕ) → number_among n hs slot location ≡ Some k → k < n + length hs
number_below n [] slot location k e = cc
number_below n (h ∷ hs) slot location k e =
    (elim ((h.slot == slot) && int_eq h.location location) as (λ b. cond b (Some n) (number_among (n + 1) hs slot location) ≡ Some k → k < n + suc (length hs)) [
      | true ↦ (λ is. let same : n ≡ k = cc in omega (arith, same))
      | false ↦ (λ is. omega (arith, number_below (n + 1) hs slot location k is))
    ]) e

pub numbers_within : (seed : Seed) (slot : ℕ) (location : ℤ) (o : Option ℕ) → o ≡ number_of seed slot location → IfSome o (λ n. n < length seed.locations)
numbers_within seed slot location None e = tt
numbers_within seed slot location (Some k) e = omega (arith, number_below 0 seed.locations slot location k (sym e))

known_among : (n : ℕ) (hs : List Held) (slot : ℕ) (location : ℤ) → is_some (number_among n hs slot location) ≡ is_some (held_among hs slot location)
known_among n [] slot location = refl
known_among n (h ∷ hs) slot location =
    elim ((h.slot == slot) && int_eq h.location location) as (λ b. is_some (cond b (Some n) (number_among (n + 1) hs slot location)) ≡ is_some (cond b (Some h) (held_among hs slot location))) [
      | true ↦ refl
      | false ↦ known_among (n + 1) hs slot location
    ]

-- what has a number is known
pub known_numbered : (seed : Seed) (slot : ℕ) (location : ℤ) (o : Option ℕ) → o ≡ number_of seed slot location → is_some o ≡ is_some (held_at seed slot location)
known_numbered seed slot location o e = ap (λ (x : Option ℕ). is_some x) e ∙ known_among 0 seed.locations slot location
