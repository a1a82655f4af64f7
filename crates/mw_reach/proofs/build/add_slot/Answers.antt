use Rattle.std.proofs.Common.{◌≡◌, ◌+◌, ◌∷◌, ◌++◌, [], length, map, ap, subst, sym, ◌∙◌}
use Rattle.std.proofs.lemmas.List.{length-map}
use Rattle.mw_multi.specs.Steps.{entrance_rule, location_rule, rule_list}
use Rattle.mw_reach.specs.Building.{HasRules}
use Rattle.mw_reach.proofs.Slots.{rules_front, rules_back}
use Rattle.mw_reach.proofs.build.add_slot.Goals as goal

pub add_entrances-requires-clause-numbers : goal.add_entrances-requires-clause-numbers
add_entrances-requires-clause-numbers g c =
    let world = c.args.slot.now.world in
    rules_front (rule_list c.args.joint.now) c.args.first_rule (map entrance_rule world.entrances) (map location_rule world.locations ++ world.goal ∷ []) c.requires.numbers

pub add_locations-requires-clause-numbers : goal.add_locations-requires-clause-numbers
add_locations-requires-clause-numbers g c =
    let rules = rule_list c.args.joint.now in
    let world = c.args.slot.now.world in
    let back = rules_back rules c.args.first_rule (map entrance_rule world.entrances) (map location_rule world.locations ++ world.goal ∷ []) c.requires.numbers in
    let many : length (map entrance_rule world.entrances) ≡ c.len.result =
    length-map world.entrances entrance_rule ∙ sym (c.len.ensures ∙ ap (λ w. length w.entrances) c.world.view_is ∙ ap (λ s. length s.world.entrances) c.slot.view_is) in
    rules_front rules (c.args.first_rule + c.len.result) (map location_rule world.locations) (world.goal ∷ [])
    (subst (λ n. HasRules rules (c.args.first_rule + n) (map location_rule world.locations ++ world.goal ∷ [])) many back)
