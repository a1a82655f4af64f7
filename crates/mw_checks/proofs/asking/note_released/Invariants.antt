use Rattle.std.proofs.Common.{◌≡◌, ◌++◌, List, drop, map}
use Rattle.mw_model.specs.Seed.{Held}
use Rattle.mw_protocol.specs.Checks.{Check, checks_at}
use Rattle.mw_checks.specs.Fresh.{looked}
use Rattle.mw_checks.proofs.asking.note_released.Given as goal

-- what is found, with what is new of those that are left, is what is new of all
abbrev pub invariant-loop-held : goal.invariant-loop-held
invariant-loop-held l = (others : List Check)
    → looked l.log.seed l.log.checked l.team l.found.keys (checks_at l.team l.slot (map (λ (h : Held). h.location) (drop l.held-index l.held-items)) ++ others)
    ≡ looked l.log.seed l.log.checked l.team l.initial.found.keys (checks_at l.team l.slot (map (λ (h : Held). h.location) l.held-items) ++ others)
