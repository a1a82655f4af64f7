-- The room that a growth takes.
use Rattle.std.specs.Prelude.{ℕ, length}
use Rattle.mw_hints.specs.Book.{Book}
use Rattle.mw_hints.specs.Widening.{IsWide}
use Rattle.mw_hints.specs.declared.growth.HintGrowth.{HintGrowth}

-- the growth was made of this book, for this many more records
pub record HasHintRoom (book : Book) (growth : HintGrowth) (more : ℕ) : Type 0 where
  pub hints : IsWide growth.hints.wide (length book.hints) book.space more
  pub buyers : IsWide growth.buyers.wide book.buyers book.buyer_space more
