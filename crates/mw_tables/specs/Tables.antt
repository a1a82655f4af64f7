-- What the indexes of a world's tables say: the first place of each name and id.
use denote.Ref.{Bor}
use Rattle.std.specs.Prelude.{◌≡◌, ℕ, ℤ, List, Option, bytes_eq}
use Rattle.std.specs.Ordering.{int_eq}
use Rattle.std.specs.HashMap.{HashMap, get_by, get}
use Rattle.mw_multi.specs.Indexes.{index_of_name, index_of_id}

abbrev pub IndexesNames : {S : Type 0} → HashMap (Bor (List ℕ)) ℕ S → List (List ℕ) → Type 0
IndexesNames index names =
    (q : List ℕ) → get_by (λ k. bytes_eq q k.now) index ≡ index_of_name names q

abbrev pub IndexesIds : {S : Type 0} → HashMap ℤ ℕ S → List (Option ℤ) → Type 0
IndexesIds index ids = (q : ℤ) → get int_eq index q ≡ index_of_id ids q
