use Rattle.std.proofs.Common.{◌≡◌, drop}
use Rattle.mw_owed.specs.Receivers.{owns_one}
use Rattle.mw_owed.proofs.receivers.owns_one.Given as goal

abbrev pub invariant-loop-receiver : goal.invariant-loop-receiver
invariant-loop-receiver l = owns_one l.seed l.receivers l.slot ≡ owns_one l.seed (drop l.receiver-index l.receivers) l.slot
