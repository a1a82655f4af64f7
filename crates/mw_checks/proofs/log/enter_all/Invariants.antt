use Rattle.std.proofs.Common.{◌≡◌, ◌≤◌, ◌<◌, ◌++◌, length, drop}
use Rattle.std.specs.Prelude.{vec_len, vec_capacity}
use Rattle.mw_checks.specs.Log.{AreFresh, checks_of}
use Rattle.mw_checks.specs.Kept.{KeptIn}
use Rattle.mw_checks.proofs.log.enter_all.Given as goal

-- what is listed is kept, and what is left is fresh after it
abbrev pub invariant-loop-slot : goal.invariant-loop-slot
invariant-loop-slot l = record {
  listed : l.checks.items ++ checks_of l.team (drop l.slot-index l.fresh) ≡ checks_of l.team l.fresh;
  kept : KeptIn l.places (l.order ++ l.checks.items) l.rows;
  fresh : AreFresh l.places (l.order ++ l.checks.items) l.team (drop l.slot-index l.fresh);
  many : vec_len l.checks ≡ l.slot-index;
  room : length l.fresh ≤ vec_capacity l.checks;
  team : l.team < 8;
}
