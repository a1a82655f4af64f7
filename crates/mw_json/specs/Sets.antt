-- What a change of the data storage keeps.
use Rattle.std.specs.Prelude.{ℕ, List, [], ◌∷◌, All, codes}
use Rattle.mw_model.specs.Passed.{IsPassed, AreFurther}
use Rattle.mw_model.specs.Sets.{Operation, SetPacket}

-- its operand may be kept as it stands
abbrev pub IsOperation : Operation → Type 0
IsOperation operation = IsPassed operation.value

-- the members that the packet of a change has of its own
abbrev pub set_names : List (List ℕ)
set_names =
    codes "cmd" ∷ codes "key" ∷ codes "default" ∷ codes "want_reply" ∷ codes "operations" ∷ []

-- each value in it may be kept as it stands
pub record IsSet (set : SetPacket) : Type 0 where
  pub fallback : IsPassed set.fallback
  pub operations : All IsOperation set.operations
  pub further : AreFurther set_names set.further
