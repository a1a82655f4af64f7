-- Hints stand, show what is found, and cost once.
use Rattle.std.specs.Prelude.{◌≡◌, ℕ, ℤ, ◌+◌, ◌*◌, ◌≤◌, ◌++◌, ◌∷◌, [], List, Option, Some, IsTrue, IsSomeAnd, All, AllPairs, length}
use Rattle.mw_model.specs.Seed.{Seed, Held}
use Rattle.mw_protocol.specs.HintList.{hint_at, with_status, bought_by}
use Rattle.mw_protocol.specs.Hints.{ToldHint, told_hint}
use Rattle.mw_protocol.specs.Records.{Record, Hint, hint}
use Rattle.mw_protocol.specs.Standing.{Standing, standing, is_checked, checked_of, cost, points}
use Rattle.mw_laws.specs.Turns.{Turn, room_after, now}

-- ---- what is found stays found

abbrev pub IsShownFound : ToldHint → Type 0
IsShownFound t = IsTrue t.found × (t.status ≡ 40)

-- in every longer journal a checked location stays checked, and a hint of it shows that it is found; and a hint stands for its location, with another status at most
pub record FoundStays (seed : Seed) (journal more : List Record) : Type 0 where
  pub checked : (team slot : ℕ) (location : ℤ)
      → IsTrue (is_checked (standing seed journal) team slot location)
      → IsTrue (is_checked (standing seed (journal ++ more)) team slot location)
  pub shown : (h : Hint) (at : Option Held)
      → IsTrue (is_checked (standing seed journal) h.team h.finder h.location)
      → All IsShownFound (told_hint (is_checked (standing seed (journal ++ more))) h at)
  pub stands : (team finder : ℕ) (location : ℤ) (h : Hint)
      → hint_at (standing seed journal).hints team finder location ≡ Some h
      → IsSomeAnd (hint_at (standing seed (journal ++ more)).hints team finder location)
      (λ k. k ≡ with_status k.status h)

abbrev pub HintsStand : Type 0
HintsStand = (seed : Seed) (journal more : List Record) → FoundStays seed journal more

-- ---- a hint is paid once

abbrev pub AreApart : Hint → Hint → Type 0
AreApart a b = (a.team ≡ b.team) × (a.finder ≡ b.finder) × (a.location ≡ b.location) → ⊥

-- no two hints of a journal are of one location of one slot in one team, none of those that a slot paid for; and to make one again changes nothing
pub record PaidOnce (seed : Seed) (journal : List Record) : Type 0 where
  pub hints : AllPairs AreApart (standing seed journal).hints
  pub bought : (team slot : ℕ)
      → AllPairs AreApart (bought_by (standing seed journal).hints team slot)
  pub again : (h k : Hint)
      → hint_at (standing seed journal).hints h.team h.finder h.location ≡ Some k
      → standing seed (journal ++ hint h ∷ []) ≡ standing seed journal

abbrev pub HintsCostOnce : Type 0
HintsCostOnce = (seed : Seed) (journal : List Record) → PaidOnce seed journal

-- ---- points

-- what a slot's checked locations are worth, and what the hints cost that it paid for
abbrev pub worth : Seed → Standing → ℕ → ℕ → ℕ
worth seed s team slot = seed.server.location_check_points * length (checked_of s team slot)

abbrev pub spent : Seed → Standing → ℕ → ℕ → ℕ
spent seed s team slot = cost seed slot * length (bought_by s.hints team slot)

-- after any turns no slot paid more than its checks are worth, so its points are what they are worth, less what it paid
pub record NeverOwes (seed : Seed) (s : Standing) (team slot : ℕ) : Type 0 where
  pub covered : spent seed s team slot ≤ worth seed s team slot
  pub points : points seed s team slot + spent seed s team slot ≡ worth seed s team slot

abbrev pub SlotsNeverOwe : Type 0
SlotsNeverOwe =
    (seed : Seed) (turns : List Turn) (team slot : ℕ)
    → NeverOwes seed (now (room_after seed turns)) team slot
