-- Bytes that are text, and bytes that are none.
use Rattle.std.proofs.Common.{◌≡◌, ℕ, List, None, Bool, true, false, cond, refl, ap}
use Rattle.std.specs.Str.{IsUtf8, is_utf8}
use Rattle.std.proofs.lemmas.Str.{IsUtf8-from_is_utf8, is_utf8-from_IsUtf8}
use Rattle.mw_script.specs.Lines.{line_in, line_of}

pub line_of_text : (bs : List ℕ) → IsUtf8 bs → line_of bs ≡ line_in bs
line_of_text bs utf8 = ap (λ b. cond b (line_in bs) None) (is_utf8-from_IsUtf8 bs utf8)

fails : (b : Bool) → ¬ (b ≡ true) → b ≡ false
fails true h = absurd (h refl)
fails false h = refl

pub no_line : (bs : List ℕ) → ¬ (IsUtf8 bs) → line_of bs ≡ None
no_line bs none = ap (λ b. cond b (line_in bs) None) (fails (is_utf8 bs) (λ e. none (IsUtf8-from_is_utf8 bs e)))

pub ruleset texts = (line_of_text, no_line)
