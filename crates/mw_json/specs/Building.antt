-- What the fields of a new object hold.
use Rattle.std.specs.Prelude.{◌≡◌, ℕ, List, [], ◌∷◌, IfOk, pos}
use Rattle.mw_model.specs.Json.{Json, IsWritable, Members, no_members, member, flag, whole, words}
use Rattle.mw_json.specs.declared.build.Field as code
use Rattle.mw_json.specs.declared.build.Field.TheVariants.{Built, Flag, Id, Number, Words}
use Rattle.mw_json.specs.View.{view}

-- a field holds this value, if any
abbrev pub FieldHolds : code.Field → Json → Type 0
FieldHolds (Flag b) j = flag b ≡ j
FieldHolds (Id n) j = whole n ≡ j
FieldHolds (Number n) j = whole (pos n) ≡ j
FieldHolds (Words text) j = words text.now ≡ j
FieldHolds (Built made) j = IfOk made (λ t. view t ≡ j)

-- these names with their fields hold these members, one by one
abbrev pub FieldsHold : List (List ℕ × code.Field) → Members → Type 0
FieldsHold [] no_members = Unit {0}
FieldsHold [] (member k j ms) = ⊥
FieldsHold (f ∷ fs) no_members = ⊥
FieldsHold (f ∷ fs) (member k j ms) = (f.0 ≡ k) × FieldHolds f.1 j × FieldsHold fs ms

-- a value that is built can be written, as any other can
abbrev pub FieldIsWritable : code.Field → Type 0
FieldIsWritable (Flag b) = Unit {0}
FieldIsWritable (Id n) = Unit {0}
FieldIsWritable (Number n) = Unit {0}
FieldIsWritable (Words text) = Unit {0}
FieldIsWritable (Built made) = IfOk made (λ t. IsWritable (view t))

abbrev pub FieldsAreWritable : List code.Field → Type 0
FieldsAreWritable [] = Unit {0}
FieldsAreWritable (f ∷ fs) = FieldIsWritable f × FieldsAreWritable fs
