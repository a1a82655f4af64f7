use Rattle.std.proofs.Common.{◌≡◌, ◌++◌, List, drop, map}
use Rattle.mw_model.specs.Items.{NetItem}
use Rattle.mw_protocol.specs.Checks.{found_item}
use Rattle.mw_checks.specs.Rows.{standing}
use Rattle.mw_checks.specs.Views.{tail_of}
use Rattle.mw_checks.proofs.tail.Tail.offer_all.Given as goal

-- with those that are left it makes what it made at first of all
abbrev pub invariant-loop-number : goal.invariant-loop-number
invariant-loop-number l = (others : List NetItem)
    → tail_of l.handling l.self (map found_item (standing l.places.locations (drop l.number-index l.numbers)) ++ others)
    ≡ tail_of l.handling l.initial.self (map found_item (standing l.places.locations l.numbers) ++ others)
