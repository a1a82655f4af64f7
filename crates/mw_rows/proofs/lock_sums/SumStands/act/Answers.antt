use Rattle.std.proofs.Common.{arith, ◌≡◌, ℕ, ◌+◌, ◌%◌, ◌^◌, ◌∙◌, ap, List, [], ◌∷◌, ◌++◌}
use Rattle.std.specs.List.{sum_by}
use Rattle.std.proofs.Math.Nat.{mod-add-mod}
use Rattle.std.proofs.lemmas.List.Sums.{sum_by-append}
use Rattle.mw_rows.proofs.lock_sums.SumStands.act.Goals as goal

abbrev call_of : ℕ × ℕ → ℕ
call_of x = x.0

-- the total after one call more
total_more : (b t : ℕ) (past : List (ℕ × ℕ)) (c r : ℕ) → t ≡ (b + sum_by call_of past) % 2 ^ 64 → (t + c) % 2 ^ 64 ≡ (b + sum_by call_of (past ++ (c, r) ∷ [])) % 2 ^ 64
total_more b t past c r stood = let more : sum_by call_of (past ++ (c, r) ∷ []) ≡ sum_by call_of past + (0 + c) = sum_by-append call_of past ((c, r) ∷ []) in
    let same : (b + sum_by call_of past) + c ≡ b + sum_by call_of (past ++ (c, r) ∷ []) = omega arith in
    ap (λ n. (n + c) % 2 ^ 64) stood ∙ (mod-add-mod (b + sum_by call_of past) (2 ^ 64) c ∙ ap (λ n. n % 2 ^ 64) same)

pub returns-clause-reply : goal.returns-clause-reply
returns-clause-reply c = λ past stood. ap (λ t. (t + c.args.call) % 2 ^ 64) stood ∙ mod-add-mod (c.args.self.now.start + sum_by call_of past) (2 ^ 64) c.args.call

pub returns-clause-stands : goal.returns-clause-stands
returns-clause-stands c = λ past stood. total_more c.args.self.now.start c.args.self.now.total past c.args.call _ stood
