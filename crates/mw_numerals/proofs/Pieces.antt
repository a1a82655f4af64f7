-- Texts and their pieces.
use Rattle.std.proofs.Common.{◌≡◌, ◌+◌, ◌<◌, ℕ, suc, List, [], ◌∷◌, ◌++◌, Bool, true, false, ◌&&◌, not, cond, length, take, drop, get_or, refl, sym, ap, ◌∙◌, subst, arith, append_assoc, append-nil}
use Rattle.std.specs.List.{list_all, prefix_len}
use Rattle.std.proofs.lemmas.List.{nil_from_length, take_more}
use Rattle.mw_numerals.specs.Numerals.{is_numeral_byte}
use Rattle.mw_numerals.specs.Pieces.{Piece, run, piece_text, begins_run, IsPiece, EndsBefore, IsRewritten, closes, escapes, escaped_after, has_no_end}

-- ---- a text by its first piece

pub rewritten_none : (change : Piece → Piece) → IsRewritten change [] []
rewritten_none change = record { pieces = []; are = tt; before_is = refl; after_is = refl }

pub rewritten_more : (change : Piece → Piece) (p : Piece) (rest text after : List ℕ) → piece_text p ++ rest ≡ text → IsPiece p → EndsBefore rest p → IsRewritten change rest after
    → IsRewritten change text (piece_text (change p) ++ after)
rewritten_more change p rest text after e is ends r = record {
  pieces = p ∷ r.pieces;
  are = (is, subst (λ t. EndsBefore t p) (sym r.before_is) ends, r.are);
  before_is = ap (λ t. piece_text p ++ t) r.before_is ∙ e;
  after_is = ap (λ t. piece_text (change p) ++ t) r.after_is;
}

-- ---- a string's bytes, one more

pub escaped_after-append : (e : Bool) (xs ys : List ℕ) → escaped_after e (xs ++ ys) ≡ escaped_after (escaped_after e xs) ys
escaped_after-append e [] ys = refl
escaped_after-append e (x ∷ xs) ys = escaped_after-append (escapes e x) xs ys

and_assoc : (a b c : Bool) → (a && (b && c)) ≡ ((a && b) && c)
and_assoc true b c = refl
and_assoc false b c = refl

pub has_no_end-append : (e : Bool) (xs ys : List ℕ) → has_no_end e (xs ++ ys) ≡ (has_no_end e xs && has_no_end (escaped_after e xs) ys)
has_no_end-append e [] ys = refl
has_no_end-append e (x ∷ xs) ys =
    let first = not (closes e x) in
    let f = escapes e x in
    ap (λ b. first && b) (has_no_end-append f xs ys) ∙ and_assoc first (has_no_end f xs) (has_no_end (escaped_after f xs) ys)

pub one_more : (text : List ℕ) (at : ℕ) (e : Bool) → at < length text → has_no_end false (take at text) ≡ true → e ≡ escaped_after false (take at text)
    → closes e (get_or text at 0) ≡ false
    → (has_no_end false (take (at + 1) text) ≡ true) × (escapes e (get_or text at 0) ≡ escaped_after false (take (at + 1) text))
one_more text at e h none is inside =
    let x = get_or text at 0 in
    let more = take_more text at 0 h in
    let now : closes (escaped_after false (take at text)) x ≡ false = ap (λ b. closes b x) (sym is) ∙ inside in (
      ap (has_no_end false) more ∙ (has_no_end-append false (take at text) (x ∷ []) ∙ rw (none, now) refl),
      ap (λ b. escapes b x) is ∙ (sym (escaped_after-append false (take at text) (x ∷ [])) ∙ ap (escaped_after false) (sym more)),
    )

-- ---- a loop over the pieces

module _ (change : Piece → Piece) (whole : List ℕ) where
  -- what is out already is followed by whatever the rest is written as
  abbrev pub GoesOn : List ℕ → List ℕ → Type 0
  GoesOn out rest = (after : List ℕ) → IsRewritten change rest after → IsRewritten change whole (out ++ after)

  pub goes_on : (p : Piece) (text rest out more : List ℕ) → GoesOn out text → piece_text p ++ rest ≡ text → IsPiece p → EndsBefore rest p → more ≡ out ++ piece_text (change p) → GoesOn more rest
  goes_on p text rest out more h e is ends m = λ after r.
      subst (IsRewritten change whole) (sym (append_assoc out (piece_text (change p)) after) ∙ ap (λ o. o ++ after) (sym m)) (h (piece_text (change p) ++ after) (rewritten_more change p rest text after e is ends r))

  pub is_out : (rest out : List ℕ) → GoesOn out rest → length rest ≡ 0 → IsRewritten change whole out
  is_out rest out h e =
      subst (IsRewritten change whole) (append-nil out) (h [] (subst (λ t. IsRewritten change t []) (sym (nil_from_length rest e)) (rewritten_none change)))

-- ---- the run that a text begins with

-- the first elements that pass a test all do
pub all_pass : (p : ℕ → Bool) (xs : List ℕ) → list_all p (take (prefix_len p xs) xs) ≡ true
all_pass p [] = refl
all_pass p (x ∷ xs) = by_first (all_pass p xs) (p x) refl
  where
    by_first : list_all p (take (prefix_len p xs) xs) ≡ true → (b : Bool) → p x ≡ b → list_all p (take (cond b (1 + prefix_len p xs) 0) (x ∷ xs)) ≡ true
    by_first others true e =
        let one : suc (prefix_len p xs) ≡ 1 + prefix_len p xs = omega arith in
        subst (λ k. list_all p (take k (x ∷ xs)) ≡ true) one (ap (λ b. b && list_all p (take (prefix_len p xs) xs)) e ∙ others)
    by_first others false e = refl

run_begins : (xs : List ℕ) → begins_run xs ≡ true → begins_run (take (prefix_len is_numeral_byte xs) xs) ≡ true
run_begins [] h = h
run_begins (x ∷ xs) h =
    let one : suc (prefix_len is_numeral_byte xs) ≡ 1 + prefix_len is_numeral_byte xs = omega arith in
    subst (λ b. begins_run (take (cond b (1 + prefix_len is_numeral_byte xs) 0) (x ∷ xs)) ≡ true) (sym h)
    (subst (λ k. begins_run (take k (x ∷ xs)) ≡ true) one h)

pub begins_at : (xs : List ℕ) → 0 < length xs → is_numeral_byte (get_or xs 0 0) ≡ true → begins_run xs ≡ true
begins_at [] h e = absurd (omega arith)
begins_at (x ∷ xs) h e = e

pub run_is : (xs : List ℕ) → begins_run xs ≡ true → IsPiece (run (take (prefix_len is_numeral_byte xs) xs))
run_is xs h = (run_begins xs h, all_pass is_numeral_byte xs)

pub run_ends : (xs : List ℕ) → begins_run (drop (prefix_len is_numeral_byte xs) xs) ≡ false
run_ends [] = refl
run_ends (x ∷ xs) = by_first (run_ends xs) (is_numeral_byte x) refl
  where
    by_first : begins_run (drop (prefix_len is_numeral_byte xs) xs) ≡ false → (b : Bool) → is_numeral_byte x ≡ b → begins_run (drop (cond b (1 + prefix_len is_numeral_byte xs) 0) (x ∷ xs)) ≡ false
    by_first others true e =
        let one : suc (prefix_len is_numeral_byte xs) ≡ 1 + prefix_len is_numeral_byte xs = omega arith in
        subst (λ k. begins_run (drop k (x ∷ xs)) ≡ false) one others
    by_first others false e = e
