use Rattle.std.proofs.Common.{◌≡◌, ◌+◌, length, drop}
use Rattle.json.specs.Print.{escape}
use Rattle.mw_storage.specs.Sizes.{quoted_size}
use Rattle.mw_storage.proofs.size.quoted_size.Given as goal

abbrev pub invariant-loop-byte : goal.invariant-loop-byte
invariant-loop-byte l = l.total + length (escape (drop l.byte-index l.text)) ≡ quoted_size l.text
