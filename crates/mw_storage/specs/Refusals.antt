-- The answer to a change beside what it is by definition.
use Rattle.std.specs.Prelude.{◌≡◌, Result, Ok, Err}
use Rattle.mw_protocol.specs.Storage.{Refused, private_key, bad_operation_at, out_of_range_at, store_full}
use Rattle.mw_protocol.specs.Storage as plain
use Rattle.mw_json.specs.View.{view}
use Rattle.mw_storage.specs.declared.apply.Changed.{Changed}
use Rattle.mw_storage.specs.declared.refusal.StoreRefusal.{StoreRefusal}
use Rattle.mw_storage.specs.declared.refusal.StoreRefusal.TheVariants.{PrivateKey, BadOperation, OutOfRange, StoreFull, Memory}

-- the answer, seen by view, or the same refusal, unless memory ran out
abbrev pub GivesBy : {X A : Type 0} → (X → A) → Result X StoreRefusal → Result A Refused → Type 0
GivesBy view (Ok x) made = made ≡ Ok (view x)
GivesBy view (Err PrivateKey) made = made ≡ Err private_key
GivesBy view (Err (BadOperation place)) made = made ≡ Err (bad_operation_at place)
GivesBy view (Err (OutOfRange place)) made = made ≡ Err (out_of_range_at place)
GivesBy view (Err (StoreFull bytes keys)) made = made ≡ Err (store_full bytes keys)
GivesBy view (Err Memory) made = Unit {0}

-- a change, seen by its values
abbrev pub changed_view : Changed → plain.Changed
changed_view c = record { old = view c.old; new = view c.new }
