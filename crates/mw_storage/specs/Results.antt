-- The answer of an operation beside what it is by definition.
use Rattle.std.specs.Prelude.{◌≡◌, Result, Ok, Err}
use Rattle.mw_model.specs.Json.{Json}
use Rattle.mw_json.specs.View.{view}
use Rattle.mw_json.specs.declared.tree.Tree.{Tree}
use Rattle.mw_protocol.specs.Operations as plain
use Rattle.mw_storage.specs.declared.fault.Fault.{Fault}
use Rattle.mw_storage.specs.declared.fault.Fault.TheVariants.{Bad, OutOfRange, Memory}

-- the value, or why there is none, unless memory ran out
abbrev pub IsResultOf : Result Tree Fault → Result Json plain.Fault → Type 0
IsResultOf (Ok tree) made = made ≡ Ok (view tree)
IsResultOf (Err Bad) made = made ≡ Err plain.bad_operation
IsResultOf (Err OutOfRange) made = made ≡ Err plain.out_of_range
IsResultOf (Err Memory) made = Unit {0}
