-- How many bytes a name may have.
use Rattle.std.proofs.Common.{ℕ, zero, suc, ◌+◌, ◌-◌, ◌*◌, ◌≤◌, List, [], ◌∷◌, length, arith}
use Rattle.std.specs.Str.{chars, chars_after, continuation_len, lead_bits}
use Rattle.mw_multi.specs.Names.{IsName}
use Rattle.mw_multi.specs.JointOf.{name_text}

-- a character has at most three bytes after its first
few_more : (b : ℕ) → continuation_len b ≤ 3
few_more b = grind arith

four_each : (n c : ℕ) (bytes : List ℕ) → n ≤ 3 → length bytes + 4 ≤ 4 * length (chars_after n c bytes) + 3 + n
four_each zero c [] h = omega arith
four_each zero c (b ∷ bytes) h = let more = four_each (continuation_len b) (lead_bits b) bytes (few_more b) in omega (arith, few_more b)
four_each (suc n) c [] h = omega arith
four_each (suc n) c (b ∷ bytes) h = let more = four_each n (c * 64 + (b - 128)) bytes (omega arith) in omega arith

few_bytes : (name : List ℕ) → length name ≤ 4 * length (chars name) + 3
unfolding chars
few_bytes [] = omega arith
few_bytes (b ∷ bytes) = let more = four_each (continuation_len b) (lead_bits b) bytes (few_more b) in omega (arith, few_more b)

pub name_text_bound : (name : List ℕ) → IsName 128 name → name_text name ≤ 539
name_text_bound name kept = omega (arith, few_bytes name, kept.short)
