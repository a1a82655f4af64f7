-- One file of a folder, opened as a disk and closed.
use Rattle.std.specs.Prelude.{◌≡◌, ◌≢◌, ℕ, List, Bool, true, false, Option}
use Rattle.mw_pair.specs.Folders.{IsClosed, IsOpened, IsOpenedAtMost, IsUnmoved}

module _ {F : Type 0} (holds : F → List ℕ → Option (Option (List ℕ)))
    (images : F → List ℕ → List ℕ → Type 0) (is_open : F → List ℕ → Bool) (before after : F)
    (name : List ℕ) where
  -- all files but this one are as they were
  abbrev pub OthersUnmoved : Type 0
  OthersUnmoved = (n : List ℕ) → n ≢ name
      → IsUnmoved (holds before n) (holds after n) (images before n) (images after n)
      (is_open before n) (is_open after n)

  -- it wasn't opened
  pub record Unopens : Type 0 where
    pub own : IsOpenedAtMost (holds before name) (holds after name) (images before name)
        (images after name) (is_open before name) (is_open after name)
    pub others : OthersUnmoved

  module _ {D : Type 0} (told : D → Option (List ℕ)) (may_leave : D → List ℕ → Type 0) where
    -- it was opened, as this disk
    pub record Opens (faults : D → ℕ) (disk : D) : Type 0 where
      pub opened : IsOpened told may_leave faults (holds before name) (images before name) disk
      pub was_shut : is_open before name ≡ false
      pub is_now : is_open after name ≡ true
      pub others : OthersUnmoved

    -- this disk was closed
    pub record Closes (disk : D) : Type 0 where
      pub closed : IsClosed told may_leave (holds after name) (images after name)
          (is_open after name) disk
      pub others : OthersUnmoved
