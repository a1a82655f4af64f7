-- What callers see of a hint book, and what it keeps.
use Rattle.std.specs.Prelude.{◌≡◌, ℕ, ℤ, ◌==◌, ◌&&◌, List, Option, Some, None, length}
use Rattle.indexmap.specs.IndexMap.{IndexMap, get_by}
use Rattle.mw_protocol.specs.HintList.{bought_by}
use Rattle.mw_protocol.specs.Records.{Hint}
use Rattle.mw_hints.specs.declared.kept.Kept.{Kept}

-- the hints in the order in which they were made, and how many more find their place with no memory; how many slots bought one, and how many more of those do
pub record Book : Type 0 where
  pub hints : List Hint
  pub space : ℕ
  pub buyers : ℕ
  pub buyer_space : ℕ

-- the hint of a team, a finder and a location
abbrev pub hint_of : (ℕ × ℕ × ℤ) × Kept → Hint
hint_of e =
    record {
      team = e.0.0;
      finder = e.0.1;
      location = e.0.2;
      bought = e.1.bought;
      buyer = e.1.buyer;
      status = e.1.status;
    }

abbrev pub count_or_none : Option ℕ → ℕ
count_or_none None = 0
count_or_none (Some n) = n

-- how many hints a slot of a team bought, as it is counted
abbrev pub counted : {S : Type 0} → IndexMap (ℕ × ℕ) ℕ S → ℕ → ℕ → ℕ
counted counts team slot = count_or_none (get_by (λ k. (team == k.0) && (slot == k.1)) counts)

-- each slot's bought hints are counted
abbrev pub AreCounted : {S : Type 0} → List Hint → IndexMap (ℕ × ℕ) ℕ S → Type 0
AreCounted hints counts =
    (team slot : ℕ) → counted counts team slot ≡ length (bought_by hints team slot)
