-- The rules of `Clockwork` by number.
use Rattle.std.proofs.Common.{◌≡◌, ◌<◌, ◌≤◌, ◌+◌, ◌-◌, ◌*◌, ℕ, zero, suc, List, [], ◌∷◌, length, refl, sym, ap, ◌∙◌, arith}
use Rattle.mw_rules.specs.Rule.{Rule, always, has, can_reach}
use Rattle.mw_rules.specs.Ruling.{rule_at}
use Rattle.mw_clock.specs.Clockwork.{IsSize, clock_rules}
use Rattle.mw_clock.proofs.Twenty.{UpTo, each}

-- so many stairs, the first of which takes one gear more than this, and then these rules
abbrev stairs_then : ℕ → ℕ → List Rule → List Rule
stairs_then m zero rest = rest
stairs_then m (suc n) rest = has 0 (suc m) ∷ stairs_then (suc m) n rest

-- so many rules that always hold, and then these
abbrev open_then : ℕ → List Rule → List Rule
open_then zero rest = rest
open_then (suc n) rest = always ∷ open_then n rest

abbrev laid_out : ℕ → List Rule
laid_out gears = stairs_then 0 gears (open_then (2 * gears + 1) (can_reach (3 * gears + 1) ∷ []))

abbrev IsLaidOut : ℕ → Type 0
IsLaidOut gears = clock_rules gears ≡ laid_out gears

all_laid_out : UpTo IsLaidOut 20
all_laid_out = ((((((((((((((((((((tt, refl), refl), refl), refl), refl), refl), refl), refl), refl), refl), refl), refl), refl), refl), refl), refl), refl), refl), refl), refl)

is_laid_out : (gears : ℕ) → IsSize gears → clock_rules gears ≡ laid_out gears
is_laid_out gears size = each IsLaidOut gears all_laid_out size

-- ---- the rule with a number

stair_at : (m n k : ℕ) (rest : List Rule) → k < n → rule_at (stairs_then m n rest) k ≡ has 0 (m + k + 1)
stair_at m zero k rest h = absurd (omega arith)
stair_at m (suc n) zero rest h = ap (has 0) (omega arith)
stair_at m (suc n) (suc k) rest h = stair_at (suc m) n k rest (omega arith) ∙ ap (has 0) (omega arith)

past_stairs : (m n k : ℕ) (rest : List Rule) → rule_at (stairs_then m n rest) (n + k) ≡ rule_at rest k
past_stairs m zero k rest = ap (rule_at rest) (omega arith)
past_stairs m (suc n) k rest =
    let next : suc n + k ≡ suc (n + k) = omega arith in
    ap (rule_at (stairs_then m (suc n) rest)) next ∙ past_stairs (suc m) n k rest

open_at : (n k : ℕ) (rest : List Rule) → k < n → rule_at (open_then n rest) k ≡ always
open_at zero k rest h = absurd (omega arith)
open_at (suc n) zero rest h = refl
open_at (suc n) (suc k) rest h = open_at n k rest (omega arith)

past_open : (n k : ℕ) (rest : List Rule) → rule_at (open_then n rest) (n + k) ≡ rule_at rest k
past_open zero k rest = ap (rule_at rest) (omega arith)
past_open (suc n) k rest =
    let next : suc n + k ≡ suc (n + k) = omega arith in
    ap (rule_at (open_then (suc n) rest)) next ∙ past_open n k rest

-- the stair to the floor after this number takes as many gears as that
pub is_stair : (gears k : ℕ) → IsSize gears → k < gears → rule_at (clock_rules gears) k ≡ has 0 (k + 1)
is_stair gears k size h =
    let same : 0 + k + 1 ≡ k + 1 = omega arith in
    ap (λ rules. rule_at rules k) (is_laid_out gears size) ∙ stair_at 0 gears k (open_then (2 * gears + 1) (can_reach (3 * gears + 1) ∷ [])) h ∙ ap (has 0) same

-- each location is open
pub is_open : (gears k : ℕ) → IsSize gears → gears ≤ k → k ≤ 3 * gears → rule_at (clock_rules gears) k ≡ always
is_open gears k size low high =
    let same : k ≡ gears + (k - gears) = omega arith in
    let goal = can_reach (3 * gears + 1) ∷ [] in
    ap (λ rules. rule_at rules k) (is_laid_out gears size) ∙ ap (rule_at (laid_out gears)) same ∙ past_stairs 0 gears (k - gears) (open_then (2 * gears + 1) goal)
    ∙ open_at (2 * gears + 1) (k - gears) goal (omega arith)

-- the goal is the last
pub is_goal : (gears k : ℕ) → IsSize gears → k ≡ 3 * gears + 1 → rule_at (clock_rules gears) k ≡ can_reach k
is_goal gears k size is =
    let same : k ≡ gears + (2 * gears + 1 + 0) = omega arith in
    let goal = can_reach (3 * gears + 1) ∷ [] in
    ap (λ rules. rule_at rules k) (is_laid_out gears size) ∙ ap (rule_at (laid_out gears)) same ∙ past_stairs 0 gears (2 * gears + 1 + 0) (open_then (2 * gears + 1) goal)
    ∙ past_open (2 * gears + 1) 0 goal ∙ ap can_reach (sym is)

abbrev HasRules : ℕ → Type 0
HasRules gears = length (clock_rules gears) ≡ 3 * gears + 2

all_counted : UpTo HasRules 20
all_counted = ((((((((((((((((((((tt, refl), refl), refl), refl), refl), refl), refl), refl), refl), refl), refl), refl), refl), refl), refl), refl), refl), refl), refl), refl)

pub how_many : (gears : ℕ) → IsSize gears → length (clock_rules gears) ≡ 3 * gears + 2
how_many gears size = each HasRules gears all_counted size
