use Rattle.std.proofs.Common.{◌≡◌, map, take}
use Rattle.mw_protocol.specs.Commands.{name_among, remaining_items}
use Rattle.mw_answers.proofs.locations.names_left.Given as goal

abbrev pub invariant-loop-held : goal.invariant-loop-held
invariant-loop-held g l =
    map (λ n. n.now) l.found ≡ map (λ id. name_among id l.names) (remaining_items (g.C.Checks.seed l.log) (g.C.Checks.is_found l.log) l.team l.slot (take l.held-index l.locations))
