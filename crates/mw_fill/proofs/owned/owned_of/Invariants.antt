use Rattle.std.proofs.Common.{◌≡◌, ℕ, ◌+◌, ◌≤◌, length, get_or, take}
use Rattle.mw_fill.specs.Copies.{all_numbers}
use Rattle.mw_fill.proofs.owned.owned_of.Given as goal

abbrev pub invariant-loop-copy : goal.invariant-loop-copy
invariant-loop-copy l = record {
  numbers : l.numbers ≡ all_numbers l.joint (take l.copy-index l.copies);
  size : length l.begins ≡ l.copy-index + 1;
  each : (k d : ℕ) → k ≤ l.copy-index → get_or l.begins k d ≡ length (all_numbers l.joint (take k l.copies));
}
