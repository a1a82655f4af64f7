-- What a buyer is answered, beside what it is by definition.
use Rattle.std.specs.Prelude.{◌≡◌}
use Rattle.mw_protocol.specs.Hints as plain
use Rattle.mw_protocol.specs.Records.{Hint, hint}
use Rattle.mw_records.specs.Records.{hint_view}
use Rattle.mw_hints.specs.declared.answer.HintAnswer.{HintAnswer}
use Rattle.mw_hints.specs.declared.answer.HintAnswer.TheVariants.{Bought, NoSuchName, Nothing, TooDear}
use Rattle.mw_hints.specs.declared.answer.Wanted.{Wanted}
use Rattle.mw_hints.specs.declared.answer.Wanted.TheVariants.{Item, Location}

abbrev pub wanted_view : Wanted → plain.Wanted
wanted_view (Item name) = plain.item_wanted name
wanted_view (Location name) = plain.location_wanted name

-- the same answer, with the hint as it is recorded
abbrev pub IsAnswer : HintAnswer → plain.Answer → Type 0
IsAnswer (Bought entry) made = (h : Hint) × ((made ≡ plain.bought h) × (hint_view entry ≡ hint h))
IsAnswer NoSuchName made = made ≡ plain.no_such_name
IsAnswer Nothing made = made ≡ plain.nothing_to_hint
IsAnswer (TooDear cost points) made = made ≡ plain.too_dear cost points
