use Rattle.std.proofs.Common.{◌≡◌, ◌++◌, List, drop, map}
use Rattle.mw_model.specs.Items.{NetItem}
use Rattle.mw_protocol.specs.Checks.{start_item}
use Rattle.mw_checks.specs.Views.{tail_of}
use Rattle.mw_checks.proofs.tail.Tail.offer_starts.Given as goal

-- with those that are left it makes what it made at first of all
abbrev pub invariant-loop-start : goal.invariant-loop-start
invariant-loop-start l = (others : List NetItem)
    → tail_of l.handling l.self (map start_item (drop l.start-index l.starts) ++ others)
    ≡ tail_of l.handling l.initial.self (map start_item l.starts ++ others)
