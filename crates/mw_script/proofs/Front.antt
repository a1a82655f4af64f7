-- A script that is too long is known by its front.
use Rattle.std.proofs.Common.{◌≡◌, ◌<◌, ◌≤◌, ℕ, List, length, take, Bool, true, false, cond, nat_le, Err, refl, ap, sym, ◌∙◌, arith}
use Rattle.std.proofs.lemmas.List.{length-take, take_all, take-take}
use Rattle.mw_script.specs.Lines.{lines_of, ended_lines}
use Rattle.mw_script.specs.Script.{first_refused, judged, too_long, max_script, script_of}

-- what a long one comes to
long_of : (bytes : List ℕ) → nat_le (length bytes) max_script ≡ false → script_of bytes ≡ Err (too_long (ended_lines (take max_script bytes)))
long_of bytes long =
    ap (λ b. cond b (judged (lines_of bytes) (first_refused 1 (lines_of bytes))) (Err (too_long (ended_lines (take max_script bytes))))) long

by_length : (bytes : List ℕ) (n : ℕ) (b : Bool) → nat_le (length bytes) max_script ≡ b → max_script < n → script_of (take n bytes) ≡ script_of bytes
by_length bytes n true short past =
    let fits : length bytes ≤ max_script = grind (arith, short) in
    ap (script_of) (take_all n bytes (omega (arith, fits, past)))
by_length bytes n false long past =
    let much : max_script < length bytes = grind (arith, long) in
    let left : max_script < length (take n bytes) = omega (arith, much, past, length-take n bytes) in
    let still : nat_le (length (take n bytes)) max_script ≡ false = grind (arith, left) in
    long_of (take n bytes) still ∙ ap (λ front. Err (too_long (ended_lines front))) (take-take max_script n bytes (omega (arith, past))) ∙ sym (long_of bytes long)

-- one byte past the limit is enough to read
pub front_is_enough : (bytes : List ℕ) (n : ℕ) → max_script < n → script_of (take n bytes) ≡ script_of bytes
front_is_enough bytes n past = by_length bytes n (nat_le (length bytes) max_script) refl past
