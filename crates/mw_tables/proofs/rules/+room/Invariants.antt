use Rattle.std.proofs.Common.{◌≡◌, drop}
use Rattle.mw_tables.specs.Raw.{nodes_of}
use Rattle.mw_tables.specs.RawView.{raw_rules_view}
use Rattle.mw_tables.specs.Sizes.{room_left}
use Rattle.mw_tables.proofs.rules.+room.Given as goal

-- what the rules that are left leave of what is left
abbrev pub invariant-room_after_all-loop-rule : goal.invariant-room_after_all-loop-rule
invariant-room_after_all-loop-rule l = room_left l.left (nodes_of (raw_rules_view (drop l.rule-index l.rules))) ≡ room_left l.room (nodes_of (raw_rules_view l.rules))
