-- What a contract says of a pass, and what each call does to it.
use Rattle.std.specs.Prelude.{◌≡◌, ◌≢◌, ℕ, ◌+◌, length, List, [], ◌∷◌, ◌++◌}
use mathlib.Core.List.{IsPrefix}
use Rattle.atomic_table.specs.Seated.{TableId}
use Rattle.mw_lock.specs.declared.view.Entry.{Entry}
use Rattle.mw_lock.specs.History.{entry, events, calls_by, IsLegal}
use Rattle.mw_lock.specs.Rule.{Apart, Each, Has}

-- What a contract says of a pass: its lock, its number, the entries that it has seen, its own calls, the passes that met in it, each with its number and its calls, and the base of the lock's value.
-- `counts` tells how many numbers the lock had given, each time that this pass counted them, the last first.
pub record Known (C R B : Type 0) : Type 0 where
  pub lock : TableId
  pub number : ℕ
  pub seen : List (Entry C R)
  pub own : List (C × R)
  pub ended : List (ℕ × List (C × R))
  pub base : B
  pub counts : List ℕ

-- the numbers that the pass stands for, each with its calls: its own, and those of the passes that met in it
abbrev pub numbers : {C R B : Type 0} → Known C R B → List (ℕ × List (C × R))
numbers v = (v.number, v.own) ∷ v.ended

-- the first pass of a lock
abbrev pub first_pass : {C R B : Type 0} → TableId → B → Known C R B
first_pass lock b =
    record { lock = lock; number = 0; seen = []; own = []; ended = []; base = b; counts = [] }

module _ {C R B : Type 0} where
  -- a pass with a new number, no calls and no ended passes, which has seen what v has
  abbrev pub IsNewBeside : Known C R B → Known C R B → Type 0
  IsNewBeside v w = (w ≡ record v { number = w.number; own = []; ended = []; counts = [] })
      × Each (λ x. w.number ≢ x.0) (numbers v)

  -- the pass v after the pass o met in it
  abbrev pub Meets : Known C R B → Known C R B → Known C R B → Type 0
  Meets v o w = (w ≡ record v { seen = w.seen; ended = numbers o ++ v.ended })
      × IsPrefix v.seen w.seen × IsPrefix o.seen w.seen

  -- The pass counted all numbers that were given, of which `out` are none of those that it stands for. Else it is as before.
  abbrev pub Counts : Known C R B → Known C R B → ℕ → Type 0
  Counts v w out = (given : ℕ) × (w ≡ record v { counts = given ∷ v.counts })
      × (out + length (numbers v) ≡ given)

  -- the numbers that the pass stands for all differ, and what it has seen has under each of them just its calls
  abbrev pub KnowsCalls : Known C R B → Type 0
  KnowsCalls v = Apart (numbers v) × Each (λ x. calls_by x.0 v.seen ≡ x.1) (numbers v)

  -- what the pass has seen are the calls of the numbers that it stands for, each once, and no others
  abbrev pub IsWhole : Known C R B → Type 0
  IsWhole v = Each (λ e. Has e.by (numbers v)) v.seen × KnowsCalls v

module _ {C R B : Type 0} (replies : B → List (C × R) → C → R → Type 0) where
  -- what was seen is legal, and has just the pass's own calls under its number
  abbrev pub IsTrueTo : Known C R B → Type 0
  IsTrueTo v = IsLegal (replies v.base) v.seen × (calls_by v.number v.seen ≡ v.own)

  -- After what was seen, and then `between`, the reply is one that may be given. The call ends what is now seen, and the pass's own calls.
  abbrev pub Extends : Known C R B → C → R → Known C R B → Type 0
  Extends v c r w = (between : List (Entry C R)) × replies v.base (events (v.seen ++ between)) c r
      × (w ≡ record v {
        seen = (v.seen ++ between) ++ entry v.number (c, r) ∷ [];
        own = v.own ++ (c, r) ∷ [];
      })
