-- What a store keeps, and its room for more.
use Rattle.std.specs.Prelude.{◌≡◌, ◌≤◌, ◌+◌, ℕ, List, [], ◌∷◌, Option, String, string_bytes, IfSome, MatchOption, length}
use Rattle.std.specs.declared.alloc.Global.{Global}
use Rattle.indexmap.specs.IndexMap.{IsEmpty, spare}
use Rattle.mw_model.specs.Json.{Json, depth, IsWritable, IsOrdered}
use Rattle.mw_json.specs.Reading.{max_depth}
use Rattle.mw_json.specs.View.{view}
use Rattle.mw_json.specs.declared.tree.Tree.{Tree}
use Rattle.mw_protocol.specs.Storage.{Kept, bytes_kept}
use Rattle.mw_storage.specs.declared.growth.StoreGrowth.{StoreGrowth}

-- keys with their values, and how many more keys find their place with no memory
pub record Stored : Type 0 where
  pub kept : List Kept
  pub room : ℕ

abbrev pub entry_view : String Global × Tree → Kept
entry_view e = record { key = string_bytes e.0; value = view e.1 }

-- it can be written, with objects in order, and nests no deeper than what is read
pub record IsKeepable (j : Json) : Type 0 where
  pub writable : IsWritable j
  pub ordered : IsOrdered j
  pub shallow : depth j ≤ max_depth

-- each value can be kept
abbrev pub AreKept : List Kept → Type 0
AreKept [] = Unit {0}
AreKept (k ∷ ks) = IsKeepable k.value × AreKept ks

-- the count, where a u64 has it, is of what is kept
pub record IsStore (kept : List Kept) (bytes : Option ℕ) : Type 0 where
  pub counted : IfSome bytes (λ n. n ≡ bytes_kept kept)
  pub valid : AreKept kept

-- this many more keys have their place, here or in the wider map
abbrev pub HasStoreRoom : Stored → StoreGrowth → ℕ → Type 0
HasStoreRoom store growth more =
    MatchOption growth.wide (more ≤ store.room)
    (λ m. IsEmpty m × (length store.kept + more ≤ spare m))
