-- A text has its pieces in one way, and what is marked comes back.
use Rattle.std.proofs.Common.{◌≡◌, ℕ, List, [], ◌∷◌, ◌++◌, Bool, true, false, not, map, refl, sym, ap, ap₂, ◌∙◌, subst, cond, append_assoc, append-nil}
use Rattle.std.proofs.lemmas.Bool.{and_parts, eqb-false, true≢false, false≢true}
use Rattle.std.specs.List.{list_all}
use Rattle.mw_numerals.specs.Numerals.{is_numeral_byte, is_kept}
use Rattle.mw_numerals.specs.Pieces.{Piece, quoted, cut, run, other, piece_text, text_of, closes, escapes, has_no_end, escaped_after, begins_run, IsPiece, EndsBefore, ArePieces}
use Rattle.mw_numerals.specs.Marks.{marked, unmarked, IsMarked, IsUnmarked}
use Rattle.mw_numerals.specs.Laws.{ChangesInOneWay, ComesBack, StaysApart}
use Rattle.mw_numerals.proofs.Pieces.{has_no_end-append}
use Rattle.mw_numerals.proofs.Runs.{run_inside}

-- ---- strings

-- a quote that isn't escaped ends a string
ends_here : (e : Bool) (x : ℕ) (xs : List ℕ) → e ≡ false → x ≡ 34 → has_no_end e (x ∷ xs) ≡ true → ⊥
ends_here e x xs plain quote h = false≢true (sym (rw (plain, quote) refl) ∙ h)

same_string : (e : Bool) (s r a b : List ℕ) → has_no_end e s ≡ true → escaped_after e s ≡ false → has_no_end e r ≡ true → escaped_after e r ≡ false
    → s ++ 34 ∷ a ≡ r ++ 34 ∷ b → (s ≡ r) × (a ≡ b)
same_string e [] [] a b h i j k eq = (refl, cc)
same_string e [] (y ∷ r) a b h i j k eq = let is : y ≡ 34 = cc in absurd (ends_here e y r i is j)
same_string e (x ∷ s) [] a b h i j k eq = let is : x ≡ 34 = cc in absurd (ends_here e x s k is h)
same_string e (x ∷ s) (y ∷ r) a b h i j k eq =
    let is : x ≡ y = cc in
    let rest : s ++ 34 ∷ a ≡ r ++ 34 ∷ b = cc in
    let others = same_string (escapes e x) s r a b (and_parts (not (closes e x)) _ h).1 i
    (subst (λ z. has_no_end (escapes e z) r ≡ true) (sym is) (and_parts (not (closes e y)) _ j).1)
    (subst (λ z. escaped_after (escapes e z) r ≡ false) (sym is) k) rest in
    (ap₂ (λ z zs. z ∷ zs) is others.0, others.1)

no_cut : (s r a : List ℕ) → has_no_end false s ≡ true → escaped_after false s ≡ false → has_no_end false r ≡ true → s ++ 34 ∷ a ≡ r → ⊥
no_cut s r a h i j eq =
    let never : has_no_end false (s ++ 34 ∷ a) ≡ false = has_no_end-append false s (34 ∷ a) ∙ rw (h, i) refl in
    true≢false (sym j ∙ ap (has_no_end false) (sym eq) ∙ never)

-- ---- runs

pub same_run : (s r a b : List ℕ) → list_all is_numeral_byte s ≡ true → list_all is_numeral_byte r ≡ true → begins_run a ≡ false → begins_run b ≡ false
    → s ++ a ≡ r ++ b → (s ≡ r) × (a ≡ b)
same_run [] [] a b h k i j eq = (refl, eq)
same_run [] (y ∷ r) a b h k i j eq = absurd (false≢true (sym i ∙ (ap begins_run eq ∙ (and_parts (is_numeral_byte y) _ k).0)))
same_run (x ∷ s) [] a b h k i j eq = absurd (false≢true (sym j ∙ (ap begins_run (sym eq) ∙ (and_parts (is_numeral_byte x) _ h).0)))
same_run (x ∷ s) (y ∷ r) a b h k i j eq =
    let is : x ≡ y = cc in
    let rest : s ++ a ≡ r ++ b = cc in
    let others = same_run s r a b (and_parts (is_numeral_byte x) _ h).1 (and_parts (is_numeral_byte y) _ k).1 i j rest in
    (ap₂ (λ z zs. z ∷ zs) is others.0, others.1)

-- ---- the first piece of a text, by its first byte

-- a run's first byte is none of another piece
not_run : (x y : ℕ) → is_numeral_byte x ≡ true → is_numeral_byte y ≡ false → x ≡ y → ⊥
not_run x y h k e = true≢false (sym h ∙ ap is_numeral_byte e ∙ k)

-- the two pieces are one, and so are what follows them
abbrev pub SameFirst : Piece → Piece → List ℕ → List ℕ → Type 0
SameFirst p q a b = (p ≡ q) × (a ≡ b)

pub after_quote : (s a : List ℕ) → piece_text (quoted s) ++ a ≡ 34 ∷ (s ++ 34 ∷ a)
after_quote s a = ap (λ t. 34 ∷ t) (append_assoc s (34 ∷ []) a)

tail_of : (x y : ℕ) (s r : List ℕ) → x ∷ s ≡ y ∷ r → s ≡ r
tail_of x y s r e = cc

nothing_else : (s a : List ℕ) → a ≡ [] → s ++ a ≡ s
nothing_else s a e = ap (λ t. s ++ t) e ∙ append-nil s

pub same_first : (p q : Piece) (a b : List ℕ) → IsPiece p → EndsBefore a p → IsPiece q → EndsBefore b q → piece_text p ++ a ≡ piece_text q ++ b → SameFirst p q a b
same_first (quoted s) (quoted r) a b h i j k e =
    let both = same_string false s r a b h.0 h.1 j.0 j.1 (tail_of 34 34 _ _ (sym (after_quote s a) ∙ e ∙ after_quote r b)) in
    (ap quoted both.0, both.1)
same_first (quoted s) (cut r) a b h i j k e =
    absurd (no_cut s r a h.0 h.1 j (tail_of 34 34 _ _ (sym (after_quote s a) ∙ e) ∙ nothing_else r b k))
same_first (cut s) (quoted r) a b h i j k e =
    absurd (no_cut r s b j.0 j.1 h (tail_of 34 34 _ _ (sym (after_quote r b) ∙ sym e) ∙ nothing_else s a i))
same_first (cut s) (cut r) a b h i j k e =
    (ap cut (sym (nothing_else s a i) ∙ tail_of 34 34 _ _ e ∙ nothing_else r b k), i ∙ sym k)
same_first (run s) (run r) a b h i j k e =
    let both = same_run s r a b h.1 j.1 i k e in
    (ap run both.0, both.1)
same_first (other x) (other y) a b h i j k e = let is : x ≡ y = cc in (ap other is, tail_of x y _ _ e)
same_first (run []) q a b h i j k e = absurd (false≢true h.0)
same_first p (run []) a b h i j k e = absurd (false≢true j.0)
same_first (run (x ∷ s)) (quoted r) a b h i j k e = absurd (not_run x 34 h.0 refl cc)
same_first (run (x ∷ s)) (cut r) a b h i j k e = absurd (not_run x 34 h.0 refl cc)
same_first (run (x ∷ s)) (other y) a b h i j k e = absurd (not_run x y h.0 j.1 cc)
same_first (quoted s) (run (y ∷ r)) a b h i j k e = absurd (not_run y 34 j.0 refl cc)
same_first (cut s) (run (y ∷ r)) a b h i j k e = absurd (not_run y 34 j.0 refl cc)
same_first (other x) (run (y ∷ r)) a b h i j k e = absurd (not_run y x j.0 h.1 cc)
same_first (quoted s) (other y) a b h i j k e = absurd (eqb-false y 34 j.0 cc)
same_first (cut s) (other y) a b h i j k e = absurd (eqb-false y 34 j.0 cc)
same_first (other x) (quoted r) a b h i j k e = absurd (eqb-false x 34 h.0 cc)
same_first (other x) (cut r) a b h i j k e = absurd (eqb-false x 34 h.0 cc)

pub not_empty : (p : Piece) (a : List ℕ) → IsPiece p → [] ≡ piece_text p ++ a → ⊥
not_empty (quoted s) a h e = cc
not_empty (cut s) a h e = cc
not_empty (run []) a h e = false≢true h.0
not_empty (run (x ∷ s)) a h e = cc
not_empty (other x) a h e = cc

same_pieces : (ps qs : List Piece) → ArePieces ps → ArePieces qs → text_of ps ≡ text_of qs → ps ≡ qs
same_pieces [] [] h k e = refl
same_pieces [] (q ∷ qs) h k e = absurd (not_empty q (text_of qs) k.0 e)
same_pieces (p ∷ ps) [] h k e = absurd (not_empty p (text_of ps) h.0 (sym e))
same_pieces (p ∷ ps) (q ∷ qs) h k e =
    let first = same_first p q (text_of ps) (text_of qs) h.0 h.1 k.0 k.1 e in
    ap₂ (λ x xs. x ∷ xs) first.0 (same_pieces ps qs h.2 k.2 first.1)

pub one_way : ChangesInOneWay
one_way change text first second a b =
    let same = same_pieces a.pieces b.pieces a.are b.are (a.before_is ∙ sym b.before_is) in
    sym a.after_is ∙ ap (λ ps. text_of (map change ps)) same ∙ b.after_is

-- ---- the pieces of a marked text

-- by whether a run is kept
pub by_kept : (P : Piece → Type 0) (s : List ℕ) (b : Bool) → P (quoted (110 ∷ s)) → P (run s) → P (cond b (quoted (110 ∷ s)) (run s))
by_kept P s true h k = h
by_kept P s false h k = k

marked_is_piece : (p : Piece) → IsPiece p → IsPiece (marked p)
marked_is_piece (quoted s) h = h
marked_is_piece (cut s) h = h
marked_is_piece (run s) h = by_kept IsPiece s (is_kept s) (run_inside s h.1) h
marked_is_piece (other x) h = h

-- where a text begins with no numeral, nor does it once it is marked
begins_marked : (ps : List Piece) → ArePieces ps → begins_run (text_of ps) ≡ false → begins_run (text_of (map marked ps)) ≡ false
begins_marked [] h k = refl
begins_marked (quoted s ∷ ps) h k = refl
begins_marked (cut s ∷ ps) h k = refl
begins_marked (run [] ∷ ps) h k = absurd (false≢true h.0.0)
begins_marked (run (x ∷ s) ∷ ps) h k = absurd (false≢true (sym k ∙ h.0.0))
begins_marked (other x ∷ ps) h k = k

pub nothing_marked : (ps : List Piece) → ArePieces ps → text_of ps ≡ [] → text_of (map marked ps) ≡ []
nothing_marked [] h e = refl
nothing_marked (p ∷ ps) h e = absurd (not_empty p (text_of ps) h.0 (sym e))

ends_marked : (p : Piece) (ps : List Piece) → ArePieces ps → EndsBefore (text_of ps) p → EndsBefore (text_of (map marked ps)) (marked p)
ends_marked (quoted s) ps h k = tt
ends_marked (cut s) ps h k = nothing_marked ps h k
ends_marked (run s) ps h k = by_kept (EndsBefore (text_of (map marked ps))) s (is_kept s) tt (begins_marked ps h k)
ends_marked (other x) ps h k = tt

pub are_marked : (ps : List Piece) → ArePieces ps → ArePieces (map marked ps)
are_marked [] h = tt
are_marked (p ∷ ps) h = (marked_is_piece p h.0, ends_marked p ps h.2 h.1, are_marked ps h.2)

-- ---- back again

undone : (p : Piece) → unmarked (marked p) ≡ p
undone (quoted s) = refl
undone (cut s) = refl
undone (run s) = by_kept (λ p. unmarked p ≡ run s) s (is_kept s) refl refl
undone (other x) = refl

all_undone : (ps : List Piece) → map unmarked (map marked ps) ≡ ps
all_undone [] = refl
all_undone (p ∷ ps) = ap₂ (λ x xs. x ∷ xs) (undone p) (all_undone ps)

-- a marked text without its marks is what it was
was : (text marked : List ℕ) → IsMarked text marked → IsUnmarked marked text
was text result m = record {
  pieces = map marked m.pieces;
  are = are_marked m.pieces m.are;
  before_is = m.after_is;
  after_is = ap text_of (all_undone m.pieces) ∙ m.before_is;
}

pub comes_back : ComesBack
comes_back text result back m u = one_way unmarked result back text u (was text result m)

pub stays_apart : StaysApart
stays_apart first second result a b = one_way unmarked result first second (was first result a) (was second result b)
