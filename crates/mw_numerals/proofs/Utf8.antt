-- A text stays UTF-8 when it is marked.
use Rattle.std.proofs.Common.{◌≡◌, ℕ, ◌+◌, ◌-◌, ◌<◌, true, List, [], ◌∷◌, ◌++◌, length, map, take, drop, get_or, refl, sym, ap, ◌∙◌, subst, arith, append_assoc, length-append}
use Rattle.std.proofs.lemmas.Bool.{and_parts, false≢true}
use Rattle.std.proofs.lemmas.List.{take_at, drop_at, get_or-append_right}
use Rattle.std.proofs.lemmas.Str.{IsUtf8-append, IsUtf8-take, IsUtf8-drop, IsUtf8-from_ascii, IsCharBoundary-before_ascii, IsCharBoundary-after_ascii}
use Rattle.std.proofs.lemmas.Str.Ascii.{IsAscii-nil, IsAscii-cons}
use Rattle.std.specs.List.{list_all}
use Rattle.std.specs.Str.{IsUtf8}
use Rattle.mw_numerals.specs.Laws.{StaysText}
use Rattle.mw_numerals.specs.Marks.{marked}
use Rattle.mw_numerals.specs.Numerals.{is_numeral_byte, is_kept}
use Rattle.mw_numerals.specs.Pieces.{Piece, quoted, cut, run, other, piece_text, text_of, ArePieces}
use Rattle.mw_numerals.proofs.Numerals.{ascii_byte, ascii_run}
use Rattle.mw_numerals.proofs.Undone.{after_quote, by_kept, nothing_marked}

-- text before an ASCII character, and after it
record Parts (a b : List ℕ) : Type 0 where
  before : IsUtf8 a
  after : IsUtf8 b

split : (a : List ℕ) (c : ℕ) (b : List ℕ) → c < 128 → IsUtf8 (a ++ c ∷ b) → Parts a b
split a c b small h =
    let whole = a ++ c ∷ b in
    let n = length a in
    let within : n < length whole = omega (arith, length-append a (c ∷ b)) in
    let here : n - n ≡ 0 = omega arith in
    let read : get_or whole n 0 ≡ c = get_or-append_right a (c ∷ b) n n 0 refl (omega arith) ∙ ap (λ k. get_or (c ∷ b) k 0) here in
    let ascii : get_or whole n 0 < 128 = omega arith in
    let front : take n whole ≡ a = take_at a (c ∷ b) n refl in
    let rest : drop (n + 1) whole ≡ b =
    ap (drop (n + 1)) (sym (append_assoc a (c ∷ []) b)) ∙ drop_at (a ++ c ∷ []) b (n + 1) (length-append a (c ∷ [])) in
    record {
      before = subst IsUtf8 front (IsUtf8-take whole n h (IsCharBoundary-before_ascii whole n within ascii));
      after = subst IsUtf8 rest (IsUtf8-drop whole (n + 1) h (IsCharBoundary-after_ascii whole n h within ascii));
    }

-- what follows ASCII characters
past_ascii : (s t : List ℕ) → list_all is_numeral_byte s ≡ true → IsUtf8 (s ++ t) → IsUtf8 t
past_ascii [] t all h = h
past_ascii (x ∷ s) t all h =
    let parts = and_parts (is_numeral_byte x) _ all in
    past_ascii s t parts.1 (split [] x (s ++ t) (ascii_byte x parts.0) h).after

quoted_text : (c : ℕ) (s : List ℕ) → c < 128 → IsUtf8 s → IsUtf8 (piece_text (quoted (c ∷ s)))
quoted_text c s small h =
    IsUtf8-append (34 ∷ c ∷ []) (s ++ 34 ∷ []) (IsUtf8-from_ascii _ (IsAscii-cons 34 (c ∷ []) (omega arith) (IsAscii-cons c [] small IsAscii-nil)))
    (IsUtf8-append s (34 ∷ []) h (IsUtf8-from_ascii _ (IsAscii-cons 34 [] (omega arith) IsAscii-nil)))

marks_ascii : IsUtf8 (34 ∷ 115 ∷ [])
marks_ascii = IsUtf8-from_ascii _ (IsAscii-cons 34 (115 ∷ []) (omega arith) (IsAscii-cons 115 [] (omega arith) IsAscii-nil))

abbrev Stays : List Piece → Type 0
Stays ps = (a : List ℕ) → IsUtf8 (a ++ text_of ps) → IsUtf8 (a ++ text_of (map marked ps))

run_text : (s : List ℕ) → list_all is_numeral_byte s ≡ true → IsUtf8 (piece_text (marked (run s)))
run_text s all = by_kept (λ p. IsUtf8 (piece_text p)) s (is_kept s) (quoted_text 110 s (omega arith) text) text
  where
    text : IsUtf8 s
    text = IsUtf8-from_ascii s (ascii_run s all)

all_stay : (ps : List Piece) → ArePieces ps → Stays ps
all_stay [] are a h = h
all_stay (quoted s ∷ ps) are a h =
    let first = split a 34 (s ++ 34 ∷ text_of ps) (omega arith) (subst (λ t. IsUtf8 (a ++ t)) (after_quote s (text_of ps)) h) in
    let second = split s 34 (text_of ps) (omega arith) first.after in
    IsUtf8-append a _ first.before (IsUtf8-append (piece_text (quoted (115 ∷ s))) (text_of (map marked ps)) (quoted_text 115 s (omega arith) second.before) (all_stay ps are.2 [] second.after))
all_stay (cut s ∷ ps) are a h =
    let first = split a 34 (s ++ text_of ps) (omega arith) h in
    IsUtf8-append a _ first.before (IsUtf8-append (34 ∷ 115 ∷ []) (s ++ text_of (map marked ps)) marks_ascii
    (subst (λ t. IsUtf8 (s ++ t)) (are.1 ∙ sym (nothing_marked ps are.2 are.1)) first.after))
all_stay (run [] ∷ ps) are a h = absurd (false≢true are.0.0)
all_stay (run (x ∷ s) ∷ ps) are a h =
    let all = are.0.1 in
    let first = split a x (s ++ text_of ps) (ascii_byte x are.0.0) h in
    let rest = past_ascii s (text_of ps) (and_parts (is_numeral_byte x) _ all).1 first.after in
    IsUtf8-append a _ first.before (IsUtf8-append (piece_text (marked (run (x ∷ s)))) (text_of (map marked ps)) (run_text (x ∷ s) all) (all_stay ps are.2 [] rest))
all_stay (other x ∷ ps) are a h =
    subst IsUtf8 (append_assoc a (x ∷ []) (text_of (map marked ps))) (all_stay ps are.2 (a ++ x ∷ []) (subst IsUtf8 (sym (append_assoc a (x ∷ []) (text_of ps))) h))

pub stays_text : StaysText
stays_text text result m h =
    subst IsUtf8 m.after_is (all_stay m.pieces m.are [] (subst IsUtf8 (sym m.before_is) h))
