-- What workers are given from the gate that they share.
use Rattle.std.specs.Prelude.{◌≡◌, ◌⊎◌, ℕ, ◌+◌, ◌≤◌, List, length, Option, None, Some, Bool, false, true, min, nat_le}
use Rattle.mw_session.specs.declared.desk.Next.{Next}
use Rattle.mw_session.specs.declared.desk.Next.TheVariants.{Line, Over, Memory}

-- what a link that was given counts in a worker's share, beside 1 for the answer that none is left
abbrev pub link_weight : ℕ
link_weight = 4294967296

-- what a worker's share grows by
abbrev pub weight_of : {T : Type 0} → Next T → ℕ
weight_of (Line l) = link_weight
weight_of Over = 1
weight_of Memory = 0

-- a property of a link that was given
abbrev pub IfLine : {T : Type 0} → Next T → (T → Type 0) → Type 0
IfLine (Line l) P = P l
IfLine Over P = Unit {0}
IfLine Memory P = Unit {0}

-- the lesser of a limit, where there is one, and a number
abbrev pub lesser : Option ℕ → ℕ → ℕ
lesser None n = n
lesser (Some limit) n = min limit n

-- no more than a limit allows
abbrev pub IsWithin : Option ℕ → ℕ → Type 0
IsWithin limit n = n ≤ lesser limit n

-- a limit is reached
abbrev pub is_reached : Option ℕ → ℕ → Bool
is_reached None n = false
is_reached (Some limit) n = nat_le limit n

-- how many links a gate tells that it has left
abbrev pub left_count : {T : Type 0} → Option (List T) → ℕ
left_count None = 0
left_count (Some ls) = length ls

-- a gate has answered that it gives no more, and tells of none that it has left
abbrev pub HasNone : {T : Type 0} → Option (List T) → Bool → Type 0
HasNone left ended = (left_count left ≡ 0) × (ended ≡ true)

-- so many links are as many as a limit allows or, where the gate has answered that it gives no more,
-- all that there were
abbrev pub AreAll : {T : Type 0} → Option ℕ → ℕ → Option (List T) → Bool → Type 0
AreAll limit n left ended =
    (n ≡ lesser limit (n + left_count left)) × ((is_reached limit n ≡ true) ⊎ (ended ≡ true))
