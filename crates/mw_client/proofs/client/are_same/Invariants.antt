use Rattle.std.proofs.Common.{◌≡◌, ◌↔◌, drop, length}
use Rattle.mw_client.proofs.client.are_same.Given as goal

-- the lists are the same where their rests are
abbrev pub invariant-loop-i : goal.invariant-loop-i
invariant-loop-i l = ((l.items ≡ l.others) ↔ (drop l.i l.items ≡ drop l.i l.others)) × (length l.items ≡ length l.others)
