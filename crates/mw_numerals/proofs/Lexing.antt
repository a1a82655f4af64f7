-- The lexemes of a marked text are those of the text, marked, where none of these is bad.
use Rattle.std.proofs.Common.{◌≡◌, ℕ, zero, suc, ◌<◌, Bool, true, false, cond, ◌&&◌, ◌||◌, ◌==◌, nat_lt, List, [], ◌∷◌, ◌++◌, length, map, Option, Some, None, inl, inr, refl, sym, ap, ap₂, ◌∙◌, subst, arith, append_assoc}
use Rattle.std.proofs.lemmas.Bool.{true≢false, false≢true, and_parts, or_parts, agree_below_at}
use Rattle.std.specs.List.{list_all}
use Rattle.json.specs.Ascii.{true_text, false_text, null_text}
use Rattle.json.specs.Lex.{Lexeme, token, comma, colon, Class, quote, backslash, operator, space, class, operator_lexeme, string_token, lex, lex_byte, between, in_word}
use Rattle.json.specs.Print.{IsNumber}
use Rattle.json.specs.Text.{content, plain, prepend}
use Rattle.json.specs.Token.{Token}
use Rattle.json.specs.Word.{is_operator, is_space, ends_word, after_number, word}
use Rattle.json.proofs.Printed.Numbers.{in_word-ended, lex-number}
use Rattle.mw_numerals.specs.Numerals.{is_numeral_byte, is_kept}
use Rattle.mw_numerals.specs.Pieces.{Piece, quoted, cut, run, other, piece_text, text_of, has_no_end, escaped_after, begins_run, IsPiece, EndsBefore, ArePieces}
use Rattle.mw_numerals.specs.Marks.{marked, IsMarked}
use Rattle.mw_numerals.proofs.Undone.{same_first, not_empty, after_quote}
use Rattle.mw_numerals.proofs.Numerals.{ascii_byte}
use Rattle.mw_numerals.proofs.Runs.{differs, run_inside}
use Rattle.mw_numerals.proofs.Strings.{same_content, no_content, lex_string}
use Rattle.mw_numerals.proofs.Taken.{is_good, no_end, ends_run, number_word, literal_word, IsOneLiteral}

-- ---- marked tokens

abbrev pub mark_token : Token → Token
mark_token Token.begin_object = Token.begin_object
mark_token Token.end_object = Token.end_object
mark_token Token.begin_array = Token.begin_array
mark_token Token.end_array = Token.end_array
mark_token (Token.key s) = Token.key (115 ∷ s)
mark_token (Token.string s) = Token.string (115 ∷ s)
mark_token (Token.number s) = cond (is_kept s) (Token.string (110 ∷ s)) (Token.number s)
mark_token (Token.boolean b) = Token.boolean b
mark_token Token.null = Token.null
mark_token Token.bad = Token.bad

abbrev pub mark_lexeme : Lexeme → Lexeme
mark_lexeme (token t) = token (mark_token t)
mark_lexeme comma = comma
mark_lexeme colon = colon

abbrev pub is_good_lexeme : Lexeme → Bool
is_good_lexeme (token t) = is_good t
is_good_lexeme comma = true
is_good_lexeme colon = true

abbrev pub AreGood : List Lexeme → Type 0
AreGood ls = list_all is_good_lexeme ls ≡ true

-- what is so of a text that has this marked text
abbrev Marks : List ℕ → List ℕ → Type 0
Marks t m = lex between m ≡ map mark_lexeme (lex between t)

-- one lexeme more
more : (l : Lexeme) (t m t' m' : List ℕ) → lex between t ≡ l ∷ lex between t' → lex between m ≡ mark_lexeme l ∷ lex between m' → (AreGood (lex between t') → Marks t' m')
    → AreGood (lex between t) → Marks t m
more l t m t' m' e f h good =
    let others = (and_parts (is_good_lexeme l) _ (sym (ap (list_all is_good_lexeme) e) ∙ good)).1 in
    f ∙ (ap (λ ls. mark_lexeme l ∷ ls) (h others) ∙ ap (map mark_lexeme) (sym e))

-- ---- strings

lex_quoted : (s t : List ℕ) → has_no_end false s ≡ true → escaped_after false s ≡ false
    → lex between (piece_text (quoted s) ++ t) ≡ token (string_token (content plain (s ++ 34 ∷ t))) ∷ lex between t
unfolding lex
lex_quoted s t h k = ap (lex between) (after_quote s t) ∙ ap (λ ls. token (string_token (content plain (s ++ 34 ∷ t))) ∷ ls) (lex_string s t h k)

string_marked : (o : Option (List ℕ)) → is_good (string_token o) ≡ true → string_token (prepend (115 ∷ []) o) ≡ mark_token (string_token o)
string_marked None h = absurd (false≢true h)
string_marked (Some s) h = refl

with_letter : (c : ℕ) (s t : List ℕ) → (c == 34) ≡ false → (c == 92) ≡ false → nat_lt c 32 ≡ false → content plain (c ∷ s ++ 34 ∷ t) ≡ prepend (c ∷ []) (content plain (s ++ 34 ∷ t))
unfolding content
with_letter c s t q b l = rw (q, b, l) refl

quoted_marked : (s t m : List ℕ) → IsPiece (quoted s) → (AreGood (lex between t) → Marks t m) → AreGood (lex between (piece_text (quoted s) ++ t)) → Marks (piece_text (quoted s) ++ t) (piece_text (quoted (115 ∷ s)) ++ m)
quoted_marked s t m h ih good =
    let o = content plain (s ++ 34 ∷ t) in
    let e = lex_quoted s t h.0 h.1 in
    let first : is_good (string_token o) ≡ true = (and_parts (is_good (string_token o)) _ (sym (ap (list_all is_good_lexeme) e) ∙ good)).0 in
    let found : string_token (content plain (115 ∷ s ++ 34 ∷ m)) ≡ mark_token (string_token o) =
    ap string_token (with_letter 115 s m refl refl refl ∙ ap (prepend (115 ∷ [])) (same_content s m t h.0 h.1)) ∙ string_marked o first in
    more (token (string_token o)) (piece_text (quoted s) ++ t) (piece_text (quoted (115 ∷ s)) ++ m) t m e (lex_quoted (115 ∷ s) m h.0 h.1 ∙ ap (λ k. token k ∷ lex between m) found) ih good

-- a string that isn't closed is bad
cut_is_bad : (s t : List ℕ) → has_no_end false s ≡ true → t ≡ [] → AreGood (lex between (piece_text (cut s) ++ t)) → ⊥
unfolding lex
cut_is_bad s t h e good =
    let none : content plain (s ++ t) ≡ None = ap (λ u. content plain (s ++ u)) e ∙ no_content s h in
    false≢true (sym (ap (λ o. is_good (string_token o)) none) ∙ (and_parts (is_good (string_token (content plain (s ++ t)))) _ good).0)

-- ---- runs

numeral_byte : (x : ℕ) → is_numeral_byte x ≡ true → nat_lt x 32 ≡ false
numeral_byte x h =
    let f : ℕ → Bool = λ y. is_numeral_byte y && nat_lt y 32 in
    let none : f x ≡ false = agree_below_at f (λ y. false) 128 x refl (ascii_byte x h) in
    sym (ap (λ b. b && nat_lt x 32) h) ∙ none

plain_content : (s t : List ℕ) → list_all is_numeral_byte s ≡ true → content plain (s ++ 34 ∷ t) ≡ Some s
unfolding content
plain_content [] t h = refl
plain_content (x ∷ s) t h =
    let parts = and_parts (is_numeral_byte x) (list_all is_numeral_byte s) h in
    with_letter x s t (differs x 34 parts.0 refl) (differs x 92 parts.0 refl) (numeral_byte x parts.0) ∙ ap (prepend (x ∷ [])) (plain_content s t parts.1)

class_by : (q b o s : Bool) → q ≡ false → b ≡ false → (o || s) ≡ false → cond q quote (cond b backslash (cond o operator (cond s space Class.other))) ≡ Class.other
class_by q b o s e f g = let parts = or_parts o s g in rw (e, f, parts.0, parts.1) refl

run_class : (x : ℕ) → is_numeral_byte x ≡ true → class x ≡ Class.other
run_class x h = class_by (x == 34) (x == 92) (is_operator x) (is_space x) (differs x 34 h refl) (differs x 92 h refl) (no_end x h)

first_word : (x : ℕ) (t : List ℕ) → class x ≡ Class.other → AreGood (lex between (x ∷ t)) → is_good (word (x ∷ t)) ≡ true
unfolding lex
first_word x t e good =
    let is : lex between (x ∷ t) ≡ token (word (x ∷ t)) ∷ lex in_word t = ap (λ c. lex_byte between c x t (λ n. lex n t)) e in
    (and_parts (is_good (word (x ∷ t))) _ (sym (ap (list_all is_good_lexeme) is) ∙ good)).0

run_marked : (s t m : List ℕ) → IsPiece (run s) → begins_run t ≡ false → (ends_word t ≡ true → ends_word m ≡ true) → (AreGood (lex between t) → Marks t m) → AreGood (lex between (s ++ t))
    → Marks (s ++ t) (piece_text (marked (run s)) ++ m)
run_marked [] t m h ends keeps ih good = absurd (false≢true h.0)
run_marked (x ∷ xs) t m h ends keeps ih good =
    let s = x ∷ xs in
    let w = number_word x xs t h.0 h.1 ends (first_word x (xs ++ t) (run_class x h.0) good) in
    more (token (Token.number s)) (s ++ t) (piece_text (marked (run s)) ++ m) t m (lex-number s t w.number w.ended) (by (is_kept s) w.number (keeps w.ended)) ih good
  where
    by : (b : Bool) → IsNumber (x ∷ xs) → ends_word m ≡ true
        → lex between (piece_text (cond b (quoted (110 ∷ x ∷ xs)) (run (x ∷ xs))) ++ m) ≡ token (cond b (Token.string (110 ∷ x ∷ xs)) (Token.number (x ∷ xs))) ∷ lex between m
    by true number ended =
        let inside = run_inside (x ∷ xs) h.1 in
        lex_quoted (110 ∷ x ∷ xs) m inside.0 inside.1
        ∙ ap (λ o. token (string_token o) ∷ lex between m) (with_letter 110 (x ∷ xs) m refl refl refl ∙ ap (prepend (110 ∷ [])) (plain_content (x ∷ xs) m h.1))
    by false number ended = lex-number (x ∷ xs) m number ended

-- ---- other bytes

data Other (x : ℕ) : Type 0 where
  is_backslash : class x ≡ backslash → Other x
  is_operator_byte : class x ≡ operator → Other x
  is_blank : class x ≡ space → Other x
  is_word : class x ≡ Class.other → (is_operator x || is_space x) ≡ false → Other x

others : (x : ℕ) → (x == 34) ≡ false → Other x
others x e = by (x == 92) (is_operator x) (is_space x) refl refl refl
  where
    by : (b o s : Bool) → (x == 92) ≡ b → is_operator x ≡ o → is_space x ≡ s → Other x
    by true o s f g h = is_backslash (rw (e, f) refl)
    by false true s f g h = is_operator_byte (rw (e, f, g) refl)
    by false false true f g h = is_blank (rw (e, f, g, h) refl)
    by false false false f g h = is_word (rw (e, f, g, h) refl) (rw (g, h) refl)

lex_operator : (x : ℕ) (t : List ℕ) → class x ≡ operator → lex between (x ∷ t) ≡ operator_lexeme x ∷ lex between t
unfolding lex
lex_operator x t e = ap (λ c. lex_byte between c x t (λ n. lex n t)) e

lex_blank : (x : ℕ) (t : List ℕ) → class x ≡ space → lex between (x ∷ t) ≡ lex between t
unfolding lex
lex_blank x t e = ap (λ c. lex_byte between c x t (λ n. lex n t)) e

backslash_is_bad : (x : ℕ) (t : List ℕ) → class x ≡ backslash → AreGood (lex between (x ∷ t)) → ⊥
unfolding lex
backslash_is_bad x t e good =
    let is : lex between (x ∷ t) ≡ token Token.bad ∷ lex in_word t = ap (λ c. lex_byte between c x t (λ n. lex n t)) e in
    false≢true (sym (ap (list_all is_good_lexeme) is) ∙ good)

operator_stays : (a b c d e : Bool) → let l = cond a (token Token.begin_object) (cond b (token Token.end_object) (cond c (token Token.begin_array) (cond d (token Token.end_array) (cond e comma colon)))) in mark_lexeme l ≡ l
operator_stays true b c d e = refl
operator_stays false true c d e = refl
operator_stays false false true d e = refl
operator_stays false false false true e = refl
operator_stays false false false false true = refl
operator_stays false false false false false = refl

-- ---- literals

-- the pieces of a text that begins with this one
record Front (p : Piece) (t : List ℕ) (ps : List Piece) : Type 0 where
  rest : List Piece
  is : ps ≡ p ∷ rest
  text : text_of rest ≡ t

front : (p : Piece) (t : List ℕ) (ps : List Piece) → ArePieces ps → IsPiece p → EndsBefore t p → text_of ps ≡ piece_text p ++ t → Front p t ps
front p t [] h is ends e = absurd (not_empty p t is e)
front p t (q ∷ ps) h is ends e = let same = same_first q p (text_of ps) t h.0 h.1 is ends e in record { rest = ps; is = ap (λ x. x ∷ ps) same.0; text = same.1 }

-- the pieces that follow a literal, and how the text goes on once it is marked
record Named (name t : List ℕ) (ps : List Piece) : Type 0 where
  rest : List Piece
  text : text_of rest ≡ t
  are : ArePieces rest
  shorter : length rest < length ps
  marked_is : text_of (map marked ps) ≡ name ++ text_of (map marked rest)

one_other : (x : ℕ) (t : List ℕ) (ps : List Piece) → (x == 34) ≡ false → is_numeral_byte x ≡ false → ArePieces ps → text_of ps ≡ x ∷ t → Named (x ∷ []) t ps
one_other x t ps q n h e =
    let f = front (other x) t ps h (q, n) tt e in
    record {
      rest = f.rest;
      text = f.text;
      are = (subst ArePieces f.is h).2;
      shorter = omega (arith, ap length f.is);
      marked_is = ap (λ qs. text_of (map marked qs)) f.is;
    }

e_stays : is_kept (101 ∷ []) ≡ false
unfolding after_number
e_stays = refl

one_e : (t : List ℕ) (ps : List Piece) → begins_run t ≡ false → ArePieces ps → text_of ps ≡ 101 ∷ t → Named (101 ∷ []) t ps
one_e t ps ends h e =
    let f = front (run (101 ∷ [])) t ps h (refl, refl) ends e in
    record {
      rest = f.rest;
      text = f.text;
      are = (subst ArePieces f.is h).2;
      shorter = omega (arith, ap length f.is);
      marked_is = ap (λ qs. text_of (map marked qs)) f.is ∙ ap (λ b. piece_text (cond b (quoted (110 ∷ 101 ∷ [])) (run (101 ∷ []))) ++ text_of (map marked f.rest)) e_stays;
    }

then_named : (a b t : List ℕ) (ps : List Piece) → (f : Named a (b ++ t) ps) → Named b t f.rest → Named (a ++ b) t ps
then_named a b t ps f g = record {
  rest = g.rest;
  text = g.text;
  are = g.are;
  shorter = omega (arith, f.shorter, g.shorter);
  marked_is = f.marked_is ∙ ap (λ l. a ++ l) g.marked_is ∙ sym (append_assoc a b (text_of (map marked g.rest)));
}

true_named : (t : List ℕ) (ps : List Piece) → ends_word t ≡ true → ArePieces ps → text_of ps ≡ true_text ++ t → Named true_text t ps
true_named t ps ended h e =
    let a = one_other 116 (114 ∷ 117 ∷ 101 ∷ t) ps refl refl h e in
    let b = one_other 114 (117 ∷ 101 ∷ t) a.rest refl refl a.are a.text in
    let c = one_other 117 (101 ∷ t) b.rest refl refl b.are b.text in
    let d = one_e t c.rest (ends_run t ended) c.are c.text in
    then_named (116 ∷ []) (114 ∷ 117 ∷ 101 ∷ []) t ps a (then_named (114 ∷ []) (117 ∷ 101 ∷ []) t a.rest b (then_named (117 ∷ []) (101 ∷ []) t b.rest c d))

false_named : (t : List ℕ) (ps : List Piece) → ends_word t ≡ true → ArePieces ps → text_of ps ≡ false_text ++ t → Named false_text t ps
false_named t ps ended h e =
    let a = one_other 102 (97 ∷ 108 ∷ 115 ∷ 101 ∷ t) ps refl refl h e in
    let b = one_other 97 (108 ∷ 115 ∷ 101 ∷ t) a.rest refl refl a.are a.text in
    let c = one_other 108 (115 ∷ 101 ∷ t) b.rest refl refl b.are b.text in
    let d = one_other 115 (101 ∷ t) c.rest refl refl c.are c.text in
    let f = one_e t d.rest (ends_run t ended) d.are d.text in
    then_named (102 ∷ []) (97 ∷ 108 ∷ 115 ∷ 101 ∷ []) t ps a
    (then_named (97 ∷ []) (108 ∷ 115 ∷ 101 ∷ []) t a.rest b (then_named (108 ∷ []) (115 ∷ 101 ∷ []) t b.rest c (then_named (115 ∷ []) (101 ∷ []) t c.rest d f)))

null_named : (t : List ℕ) (ps : List Piece) → ArePieces ps → text_of ps ≡ null_text ++ t → Named null_text t ps
null_named t ps h e =
    let a = one_other 110 (117 ∷ 108 ∷ 108 ∷ t) ps refl refl h e in
    let b = one_other 117 (108 ∷ 108 ∷ t) a.rest refl refl a.are a.text in
    let c = one_other 108 (108 ∷ t) b.rest refl refl b.are b.text in
    let d = one_other 108 t c.rest refl refl c.are c.text in
    then_named (110 ∷ []) (117 ∷ 108 ∷ 108 ∷ []) t ps a (then_named (117 ∷ []) (108 ∷ 108 ∷ []) t a.rest b (then_named (108 ∷ []) (108 ∷ []) t b.rest c d))

lex_true : (t : List ℕ) → ends_word t ≡ true → lex between (true_text ++ t) ≡ token (Token.boolean true) ∷ lex between t
unfolding lex word
lex_true t ended = ap₂ (λ b l. token (cond b (Token.boolean true) Token.bad) ∷ l) ended (in_word-ended t ended)

lex_false : (t : List ℕ) → ends_word t ≡ true → lex between (false_text ++ t) ≡ token (Token.boolean false) ∷ lex between t
unfolding lex word
lex_false t ended = ap₂ (λ b l. token (cond b (Token.boolean false) Token.bad) ∷ l) ended (in_word-ended t ended)

lex_null : (t : List ℕ) → ends_word t ≡ true → lex between (null_text ++ t) ≡ token Token.null ∷ lex between t
unfolding lex word
lex_null t ended = ap₂ (λ b l. token (cond b Token.null Token.bad) ∷ l) ended (in_word-ended t ended)

-- where a word ends before a text, it does once that is marked
keeps_end : (ps : List Piece) → ArePieces ps → ends_word (text_of ps) ≡ true → ends_word (text_of (map marked ps)) ≡ true
keeps_end [] h e = e
keeps_end (quoted s ∷ ps) h e = absurd (false≢true e)
keeps_end (cut s ∷ ps) h e = absurd (false≢true e)
keeps_end (run [] ∷ ps) h e = absurd (false≢true h.0.0)
keeps_end (run (x ∷ s) ∷ ps) h e = absurd (true≢false (sym e ∙ no_end x h.0.0))
keeps_end (other x ∷ ps) h e = e

-- ---- the whole

-- a text of pieces
abbrev AllMarks : List Piece → Type 0
AllMarks ps = AreGood (lex between (text_of ps)) → Marks (text_of ps) (text_of (map marked ps))

named_marked : (name : List ℕ) (k : Token) → mark_token k ≡ k → ((t : List ℕ) → ends_word t ≡ true → lex between (name ++ t) ≡ token k ∷ lex between t)
    → (ps : List Piece) (t : List ℕ) → text_of ps ≡ name ++ t → ends_word t ≡ true → (f : Named name t ps) → AllMarks f.rest → AllMarks ps
named_marked name k same lexes ps t e ended f ih good =
    let here : ends_word (text_of f.rest) ≡ true = ap ends_word f.text ∙ ended in
    more (token k) (text_of ps) (text_of (map marked ps)) (text_of f.rest) (text_of (map marked f.rest))
    (ap (lex between) e ∙ (lexes t ended ∙ ap (λ u. token k ∷ lex between u) (sym f.text)))
    (ap (lex between) f.marked_is ∙ (lexes (text_of (map marked f.rest)) (keeps_end f.rest f.are here) ∙ ap (λ l. token l ∷ lex between (text_of (map marked f.rest))) (sym same))) ih good

-- pieces that begin with another byte, where shorter lists of pieces are done
module _ (x : ℕ) (ps : List Piece) (h : ArePieces (other x ∷ ps)) (shorter : (qs : List Piece) → length qs < length (other x ∷ ps) → ArePieces qs → AllMarks qs) where
  abbrev here : List ℕ
  here = x ∷ text_of ps

  after : List ℕ
  after = text_of (map marked ps)

  by_literal : IsOneLiteral here → AllMarks (other x ∷ ps)
  by_literal (inl f) =
      let n = true_named f.rest (other x ∷ ps) f.ended h f.is in
      named_marked true_text (Token.boolean true) refl lex_true (other x ∷ ps) f.rest f.is f.ended n (shorter n.rest n.shorter n.are)
  by_literal (inr (inl f)) =
      let n = false_named f.rest (other x ∷ ps) f.ended h f.is in
      named_marked false_text (Token.boolean false) refl lex_false (other x ∷ ps) f.rest f.is f.ended n (shorter n.rest n.shorter n.are)
  by_literal (inr (inr f)) =
      let n = null_named f.rest (other x ∷ ps) h f.is in
      named_marked null_text Token.null refl lex_null (other x ∷ ps) f.rest f.is f.ended n (shorter n.rest n.shorter n.are)

  by_class : Other x → AllMarks (other x ∷ ps)
  by_class (is_backslash e) good = absurd (backslash_is_bad x (text_of ps) e good)
  by_class (is_operator_byte e) good =
      let l = operator_lexeme x in
      let stays = operator_stays (x == 123) (x == 125) (x == 91) (x == 93) (x == 44) in
      more l here (x ∷ text_of (map marked ps)) (text_of ps) (text_of (map marked ps)) (lex_operator x (text_of ps) e)
      (lex_operator x (text_of (map marked ps)) e ∙ ap (λ k. k ∷ lex between (text_of (map marked ps))) (sym stays)) (shorter ps (omega arith) h.2) good
  by_class (is_blank e) good =
      lex_blank x (text_of (map marked ps)) e ∙ (shorter ps (omega arith) h.2 (sym (ap (list_all is_good_lexeme) (lex_blank x (text_of ps) e)) ∙ good) ∙ ap (map mark_lexeme) (sym (lex_blank x (text_of ps) e)))
  by_class (is_word e inside) good = by_literal (literal_word x (text_of ps) h.0.1 inside (first_word x (text_of ps) e good)) good

all_marks : (n : ℕ) (ps : List Piece) → length ps < n → ArePieces ps → AllMarks ps
unfolding lex
all_marks zero ps short h good = absurd (omega arith)
all_marks (suc n) [] short h good = refl
all_marks (suc n) (quoted s ∷ ps) short h good = quoted_marked s (text_of ps) (text_of (map marked ps)) h.0 (all_marks n ps (omega arith) h.2) good
all_marks (suc n) (cut s ∷ ps) short h good = absurd (cut_is_bad s (text_of ps) h.0 h.1 good)
all_marks (suc n) (run s ∷ ps) short h good = run_marked s (text_of ps) (text_of (map marked ps)) h.0 h.1 (keeps_end ps h.2) (all_marks n ps (omega arith) h.2) good
all_marks (suc n) (other x ∷ ps) short h good = by_class x ps h (λ qs less. all_marks n qs (omega (arith, less))) (others x h.0.0) good

pub lexemes_marked : (text result : List ℕ) → IsMarked text result → AreGood (lex between text) → lex between result ≡ map mark_lexeme (lex between text)
lexemes_marked text result m good =
    ap (lex between) (sym m.after_is) ∙ (all_marks (suc (length m.pieces)) m.pieces (omega arith) m.are (ap (λ t. list_all is_good_lexeme (lex between t)) m.before_is ∙ good)
    ∙ ap (λ t. map mark_lexeme (lex between t)) m.before_is)
