use Rattle.std.proofs.Common.{◌≡◌, drop}
use Rattle.mw_protocol.specs.Statuses.{status_of}
use Rattle.mw_effects.proofs.status.status_among.Given as goal

abbrev pub invariant-loop-stated : goal.invariant-loop-stated
invariant-loop-stated l = status_of l.statuses l.team l.slot ≡ status_of (drop l.stated-index l.statuses) l.team l.slot
