-- A script's lines are judged one after another.
use Rattle.std.proofs.Common.{◌≡◌, ◌<◌, ◌+◌, ℕ, List, ◌∷◌, ◌++◌, length, Some, true, false, cond, ap, sym, ◌∙◌, arith, append_assoc}
use Rattle.std.specs.List.{position_or_len, before_first, after_first}
use Rattle.std.specs.Option.{is_some, unwrap_or}
use Rattle.mw_script.specs.Commands.{Command}
use Rattle.mw_script.specs.Lines.{is_end, line_of, lines_of, ended_lines}
use Rattle.mw_script.specs.Script.{asked_by, commands_in, first_refused}
use Rattle.mw_script.proofs.Walks.{lines_step, ended_step, ended_none}

-- ---- the first line that the grammar refuses

first_is : (number : ℕ) (line : List ℕ) (lines : List (List ℕ)) → is_some (line_of line) ≡ false → first_refused number (line ∷ lines) ≡ Some number
first_is number line lines bad = ap (λ b. cond b (first_refused (number + 1) lines) (Some number)) bad

first_is_later : (number : ℕ) (line : List ℕ) (lines : List (List ℕ)) → is_some (line_of line) ≡ true → first_refused number (line ∷ lines) ≡ first_refused (number + 1) lines
first_is_later number line lines is = ap (λ b. cond b (first_refused (number + 1) lines) (Some number)) is

pub refused_here : (number : ℕ) (bs line : List ℕ) → 0 < length bs → line ≡ before_first is_end bs → is_some (line_of line) ≡ false → first_refused number (lines_of bs) ≡ Some number
refused_here number bs line some is bad =
    ap (first_refused number) (lines_step bs some) ∙ first_is number (before_first is_end bs) (lines_of (after_first is_end bs)) (ap (λ l. is_some (line_of l)) (sym is) ∙ bad)

pub refused_later : (number : ℕ) (bs line rest : List ℕ) → 0 < length bs → line ≡ before_first is_end bs → rest ≡ after_first is_end bs → is_some (line_of line) ≡ true
    → first_refused (number + 1) (lines_of rest) ≡ first_refused number (lines_of bs)
refused_later number bs line rest some is after ok =
    ap (λ r. first_refused (number + 1) (lines_of r)) after
    ∙ sym (first_is_later number (before_first is_end bs) (lines_of (after_first is_end bs)) (ap (λ l. is_some (line_of l)) (sym is) ∙ ok))
    ∙ ap (first_refused number) (sym (lines_step bs some))

-- ---- that line, or the one after them all

abbrev pub refused_or_next : ℕ → List (List ℕ) → ℕ
refused_or_next number lines = unwrap_or (first_refused number lines) (number + length lines)

next_is_later : (number : ℕ) (line : List ℕ) (lines : List (List ℕ)) → is_some (line_of line) ≡ true → refused_or_next number (line ∷ lines) ≡ refused_or_next (number + 1) lines
next_is_later number line lines is =
    ap (λ r. unwrap_or r (number + length (line ∷ lines))) (first_is_later number line lines is) ∙ ap (unwrap_or (first_refused (number + 1) lines)) {y = number + 1 + length lines} (omega arith)

pub too_long_here : (number : ℕ) (bs line : List ℕ) → position_or_len is_end bs < length bs → line ≡ before_first is_end bs → is_some (line_of line) ≡ false → refused_or_next number (ended_lines bs) ≡ number
too_long_here number bs line some is bad =
    ap (refused_or_next number) (ended_step bs some)
    ∙ ap (λ r. unwrap_or r (number + length (before_first is_end bs ∷ ended_lines (after_first is_end bs)))) (first_is number (before_first is_end bs) (ended_lines (after_first is_end bs)) (ap (λ l. is_some (line_of l)) (sym is) ∙ bad))

pub too_long_later : (number : ℕ) (bs line rest : List ℕ) → position_or_len is_end bs < length bs → line ≡ before_first is_end bs → rest ≡ after_first is_end bs → is_some (line_of line) ≡ true
    → refused_or_next (number + 1) (ended_lines rest) ≡ refused_or_next number (ended_lines bs)
too_long_later number bs line rest some is after ok =
    ap (λ r. refused_or_next (number + 1) (ended_lines r)) after
    ∙ sym (next_is_later number (before_first is_end bs) (ended_lines (after_first is_end bs)) (ap (λ l. is_some (line_of l)) (sym is) ∙ ok))
    ∙ ap (refused_or_next number) (sym (ended_step bs some))

pub too_long_next : (number : ℕ) (bs : List ℕ) → position_or_len is_end bs ≡ length bs → refused_or_next number (ended_lines bs) ≡ number
too_long_next number bs none = ap (refused_or_next number) (ended_none bs none) ∙ omega arith

-- ---- the commands

-- those of the first line stand before those of the others
pub commands_step : (bs line rest : List ℕ) → 0 < length bs → line ≡ before_first is_end bs → rest ≡ after_first is_end bs
    → commands_in (lines_of bs) ≡ asked_by (line_of line) ++ commands_in (lines_of rest)
commands_step bs line rest some is after =
    ap commands_in (lines_step bs some)
    ∙ ap (λ l. asked_by (line_of l) ++ commands_in (lines_of (after_first is_end bs))) (sym is)
    ∙ ap (λ r. asked_by (line_of line) ++ commands_in (lines_of r)) (sym after)

pub goes_later : (found next all : List Command) (bs line rest : List ℕ) → 0 < length bs → line ≡ before_first is_end bs → rest ≡ after_first is_end bs
    → next ≡ found ++ asked_by (line_of line) → found ++ commands_in (lines_of bs) ≡ all → next ++ commands_in (lines_of rest) ≡ all
goes_later found next all bs line rest some is after added whole =
    ap (λ (n : List Command). n ++ commands_in (lines_of rest)) added
    ∙ append_assoc found (asked_by (line_of line)) (commands_in (lines_of rest))
    ∙ ap (λ (c : List Command). found ++ c) (sym (commands_step bs line rest some is after))
    ∙ whole
