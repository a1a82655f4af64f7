-- A script with commands is within its limit.
use Rattle.std.proofs.Common.{◌≡◌, ◌≤◌, ℕ, List, false, length, take, Ok, Err, cond, inl, inr, sym, ap, ◌∙◌}
use Rattle.std.proofs.lemmas.Bool.Decides.{leb_tells}
use Rattle.std.specs.Prelude.{nat_le}
use Rattle.mw_script.specs.Commands.{Command}
use Rattle.mw_script.specs.Script.{script_of, max_script, judged, first_refused, too_long as too_long_at}
use Rattle.mw_script.specs.Lines.{lines_of, ended_lines}

-- one that is longer has none
too_long : (bytes : List ℕ) (cs : List Command) → nat_le (length bytes) max_script ≡ false → script_of bytes ≡ Ok cs → ⊥
too_long bytes cs h e =
    let answer : script_of bytes ≡ Err (too_long_at (ended_lines (take max_script bytes))) =
    ap (λ b. cond b (judged (lines_of bytes) (first_refused 1 (lines_of bytes))) (Err (too_long_at (ended_lines (take max_script bytes))))) h in
    let clash : Ok cs ≡ Err (too_long_at (ended_lines (take max_script bytes))) = sym e ∙ answer in
    cc

pub accepted_within : (bytes : List ℕ) (cs : List Command) → script_of bytes ≡ Ok cs → length bytes ≤ max_script
accepted_within bytes cs e =
    elim (leb_tells (length bytes) max_script) [
      | inl h ↦ h.1
      | inr h ↦ absurd (too_long bytes cs h.0 e)
    ]
