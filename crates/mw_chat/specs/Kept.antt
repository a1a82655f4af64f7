-- What can be printed.
use Rattle.std.specs.Prelude.{ℕ, List, []}
use Rattle.mw_model.specs.Json.{Json, Members, ItemsAreWritable, ItemsAreOrdered}
use Rattle.mw_model.specs.Trees.{items_of}
use Rattle.mw_packets_out.specs.Kept.{IsPrint}

-- a print of this kind may have these members further
abbrev pub CanPrint : List ℕ → Members → Type 0
CanPrint kind further = IsPrint record { kind = kind; further = further; content = [] }

-- they are written, and read again as they stand
pub record AreSound (js : List Json) : Type 0 where
  pub writable : ItemsAreWritable (items_of js)
  pub ordered : ItemsAreOrdered (items_of js)
