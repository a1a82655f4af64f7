use Rattle.std.proofs.Common.{◌≡◌, map, take}
use Rattle.mw_protocol.specs.Commands.{name_among}
use Rattle.mw_answers.specs.Names.{is_as}
use Rattle.mw_answers.proofs.Named.{names_where}
use Rattle.mw_answers.proofs.locations.names_where.Given as goal

abbrev pub invariant-loop-held : goal.invariant-loop-held
invariant-loop-held g l =
    map (λ n. n.now) l.found ≡ names_where (λ id. name_among id l.names) (λ id. is_as l.checked (g.C.Checks.is_found l.log l.team l.slot id)) l.slot (take l.held-index l.locations)
