-- What a crash may leave of a disk: a set of images, each the bytes that are there afterwards.
use Rattle.std.specs.Prelude.{◌≡◌, ◌⊎◌, ℕ, ◌+◌, ◌≤◌, min, max, List, length, take, drop, Option, Some}

-- a write of so many bytes at a place that a crash cuts short: any bytes in the range and past the
-- old end, the others stay
pub record Torn (at count : ℕ) (before after : List ℕ) : Type 0 where
  pub front : take (min at (length before)) after ≡ take at before
  pub back : drop (at + count) after ≡ drop (at + count) before
  pub no_shorter : length before ≤ length after
  pub no_longer : length after ≤ max (length before) (at + count)

-- a cut to a length that a crash cuts short: some length from there on
abbrev pub CutShort : ℕ → List ℕ → List ℕ → Type 0
CutShort len before after = (kept : ℕ) × (len ≤ kept) × (after ≡ take kept before)

-- each image after a call is an image before it, changed as the call may change it
abbrev pub Follows : (List ℕ → List ℕ → Type 0) → (List ℕ → Type 0) → (List ℕ → Type 0) → Type 0
Follows step before after = (c : List ℕ) → after c → (d : List ℕ) × before d × step d c

-- each image after a call is one before it
abbrev pub Stays : (List ℕ → Type 0) → (List ℕ → Type 0) → Type 0
Stays before after = (c : List ℕ) → after c → before c

-- a crash leaves what a read gives
abbrev pub OnlyTold : Option (List ℕ) → (List ℕ → Type 0) → Type 0
OnlyTold told images = (c : List ℕ) → images c → told ≡ Some c

-- Time goes on: what a crash since an earlier moment may have left is what it might have left
-- before the call, or what it may leave now.
pub record Elapses (before now : ℕ) (past since : ℕ → List ℕ → Type 0) (images : List ℕ → Type 0)
    : Type 0 where
  pub later : before ≤ now
  pub nothing_else : (t : ℕ) (c : List ℕ) → t ≤ before → since t c → past t c ⊎ images c
  pub keeps : (t : ℕ) (c : List ℕ) → t ≤ before → past t c → since t c

-- what a write of so many bytes at a place may make of an image
abbrev pub IsTorn : (List ℕ → Type 0) → ℕ → ℕ → List ℕ → Type 0
IsTorn images at count c = (d : List ℕ) × images d × Torn at count d c

-- at each moment since the start of a call, a crash leaves what has P
pub record LeavesOnly {D : Type 0} (moment : D → ℕ) (left_since : D → ℕ → List ℕ → Type 0)
    (before after : D) (P : List ℕ → Type 0) : Type 0 where
  pub later : moment before ≤ moment after
  pub each : (c : List ℕ) → left_since after (moment before) c → P c
  -- for a run of calls that began earlier
  pub earlier : (t : ℕ) (c : List ℕ) → t ≤ moment before → left_since after t c
      → left_since before t c ⊎ P c
