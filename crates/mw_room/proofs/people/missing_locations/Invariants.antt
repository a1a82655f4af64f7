use Rattle.std.proofs.Common.{◌≡◌, ◌++◌, drop, map, not}
use Rattle.std.specs.List.{filter}
use Rattle.mw_model.specs.Seed.{Held}
use Rattle.mw_protocol.specs.Standing.{is_checked}
use Rattle.mw_effects.specs.Parts.{standing_of}
use Rattle.mw_room.proofs.people.missing_locations.Given as goal

abbrev pub invariant-loop-held : goal.invariant-loop-held
invariant-loop-held l =
    l.found ++ filter (λ x. not (is_checked (standing_of l.standing) l.member.team l.member.slot x)) (map (λ (h : Held). h.location) (drop l.held-index l.locations))
    ≡ filter (λ x. not (is_checked (standing_of l.standing) l.member.team l.member.slot x)) (map (λ (h : Held). h.location) l.locations)
