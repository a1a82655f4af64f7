-- An item as the protocol shows it.
use Rattle.std.specs.Prelude.{ℕ, ℤ}

-- the item, where it was found, the slot whose world held it, and its class
pub record NetItem : Type 0 where
  pub item : ℤ
  pub location : ℤ
  pub player : ℕ
  pub flags : ℕ
