-- Memory that was taken before it is needed.
use Rattle.std.specs.Prelude.{◌≡◌, ◌≤◌, ◌+◌, ℕ, [], Vec, vec_len, vec_capacity, MatchOption}
use Rattle.std.specs.declared.alloc.Global.{Global}
use Rattle.mw_base.specs.declared.growth.Growth.{Growth}

-- these elements and this many more have their place, here or in the new buffer
abbrev pub HasSpace : {T : Type 0} → Vec T Global → Growth T → ℕ → Type 0
HasSpace items growth more =
    MatchOption growth.buffer (vec_len items + more ≤ vec_capacity items)
    (λ b. (b.items ≡ []) × (vec_len items + more ≤ vec_capacity b))
