-- What a reader of numbers accepts is in its range.
use Rattle.std.proofs.Common.{◌≡◌, ◌≤◌, ℕ, pos, negsuc, Ok, arith}
use Rattle.std.proofs.lemmas.Grind.{common_steps}
use Rattle.mw_model.specs.Json.{Json, null, flag, whole, not_whole, numeral, words, many, members}
use Rattle.mw_json.specs.Grammar.{number_at}

pub number_in_range : (low high : ℕ) (j : Json) (n : ℕ) → number_at low high j ≡ Ok n → (low ≤ n) × (n ≤ high)
number_in_range low high (whole (pos m)) n e = grind (arith, common_steps)
number_in_range low high (whole (negsuc m)) n e = cc
number_in_range low high not_whole n e = cc
number_in_range low high (numeral s) n e = cc
number_in_range low high null n e = cc
number_in_range low high (flag b) n e = cc
number_in_range low high (words s) n e = cc
number_in_range low high (many js) n e = cc
number_in_range low high (members ms) n e = cc
