-- The rules of the caves, in the order of their numbers. The items are the sword, the shield, the lamp and the boat.
use Rattle.std.specs.Prelude.{List, [], ◌∷◌}
use Rattle.mw_rules.specs.Rule.{Rule, always, has, all_of, some_of, no_rules, a_rule}

-- sword and shield, or the lamp
abbrev pub cave_rule : Rule
cave_rule =
    some_of (a_rule (all_of (a_rule (has 0 1) (a_rule (has 1 1) no_rules)))
    (a_rule (has 2 1) no_rules))

-- the lamp, and shield or sword
abbrev pub lake_rule : Rule
lake_rule =
    all_of (a_rule (has 2 1)
    (a_rule (some_of (a_rule (has 1 1) (a_rule (has 0 1) no_rules))) no_rules))

-- the boat, and the lamp or sword and shield
abbrev pub vault_rule : Rule
vault_rule =
    some_of (a_rule (all_of (a_rule (has 3 1) (a_rule (has 2 1) no_rules)))
    (a_rule (all_of (a_rule (has 3 1) (a_rule (has 0 1) (a_rule (has 1 1) no_rules)))) no_rules))

-- the meadow, the cave, the lake, the vault and the goal
abbrev pub our_rules : List Rule
our_rules = always ∷ cave_rule ∷ lake_rule ∷ vault_rule ∷ has 3 1 ∷ []
