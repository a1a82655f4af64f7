-- What a string of a text holds hangs on the bytes up to its closing quote alone, and the lexer goes on behind that quote.
use Rattle.std.proofs.Common.{◌≡◌, ℕ, ◌<◌, Bool, true, false, cond, ◌&&◌, ◌==◌, not, nat_lt, List, [], ◌∷◌, ◌++◌, length, Option, Some, None, option_and_then, refl, sym, ap, ◌∙◌, subst, arith}
use Rattle.std.proofs.lemmas.Bool.{true≢false, false≢true, eqb-true, and_parts, and_right, ne_eqb, not-true}
use Rattle.std.specs.Char.{is_digit, encode_utf8}
use Rattle.json.specs.Text.{code_unit, short_escape, is_high_surrogate, is_low_surrogate, surrogate_pair, Within, plain, after_backslash, after_u, after_high, prepend, content}
use Rattle.json.specs.Word.{is_operator, is_space}
use Rattle.json.specs.Lex.{Lexeme, Mode, lex, lex_byte, between, in_string, in_escape, quote, backslash, operator, space, other}
use Rattle.mw_numerals.specs.Pieces.{has_no_end, escaped_after}

-- ---- hexadecimal digits

no_hex : (a b c d : ℕ) → (is_digit a 16 && is_digit b 16 && is_digit c 16 && is_digit d 16) ≡ false → code_unit a b c d ≡ None
unfolding code_unit
no_hex a b c d h = rw h refl

quote_first : (b c d : ℕ) → code_unit 34 b c d ≡ None
quote_first b c d = no_hex 34 b c d refl

quote_second : (a c d : ℕ) → code_unit a 34 c d ≡ None
quote_second a c d = no_hex a 34 c d (ap (λ t. t && is_digit c 16 && is_digit d 16) (and_right (is_digit a 16) false refl))

quote_third : (a b d : ℕ) → code_unit a b 34 d ≡ None
quote_third a b d = no_hex a b 34 d (ap (λ t. t && is_digit d 16) (and_right (is_digit a 16 && is_digit b 16) false refl))

quote_fourth : (a b c : ℕ) → code_unit a b c 34 ≡ None
quote_fourth a b c = no_hex a b c 34 (and_right (is_digit a 16 && is_digit b 16 && is_digit c 16) false refl)

abbrev is_found : Option ℕ → Bool
is_found None = false
is_found (Some u) = true

all_hex : (b : Bool) (u : ℕ) → is_found (cond b (Some u) None) ≡ true → b ≡ true
all_hex true u h = refl
all_hex false u h = h

record AreHex (a b c d : ℕ) : Type 0 where
  first : is_digit a 16 ≡ true
  second : is_digit b 16 ≡ true
  third : is_digit c 16 ≡ true
  fourth : is_digit d 16 ≡ true

are_hex : (a b c d : ℕ) → is_found (code_unit a b c d) ≡ true → AreHex a b c d
unfolding code_unit
are_hex a b c d h =
    let p = and_parts (is_digit a 16 && is_digit b 16 && is_digit c 16) (is_digit d 16) (all_hex _ _ h) in
    let q = and_parts (is_digit a 16 && is_digit b 16) (is_digit c 16) p.0 in
    let r = and_parts (is_digit a 16) (is_digit b 16) q.0 in
    record { first = r.0; second = r.1; third = q.1; fourth = p.1 }

-- the byte x that passes some test is none that doesn't
not_this : (test : ℕ → Bool) (c x : ℕ) → test x ≡ true → test c ≡ false → (x == c) ≡ false
not_this test c x h k = ne_eqb x c (λ e. false≢true (sym k ∙ ap test (sym e) ∙ h))

-- a byte that is no quote and no backslash
ordinary : (x : ℕ) (xs : List ℕ) → (x == 34) ≡ false → (x == 92) ≡ false → (has_no_end false (x ∷ xs) ≡ has_no_end false xs) × (escaped_after false (x ∷ xs) ≡ escaped_after false xs)
ordinary x xs q b = (rw (q, b) refl, rw b refl)

hex_byte : (x : ℕ) (xs : List ℕ) → is_digit x 16 ≡ true → (has_no_end false (x ∷ xs) ≡ has_no_end false xs) × (escaped_after false (x ∷ xs) ≡ escaped_after false xs)
hex_byte x xs h = ordinary x xs (not_this (λ y. is_digit y 16) 34 x h refl) (not_this (λ y. is_digit y 16) 92 x h refl)

hex_bytes : (a b c d : ℕ) (xs : List ℕ) → AreHex a b c d
    → (has_no_end false (a ∷ b ∷ c ∷ d ∷ xs) ≡ has_no_end false xs) × (escaped_after false (a ∷ b ∷ c ∷ d ∷ xs) ≡ escaped_after false xs)
hex_bytes a b c d xs h =
    let p = hex_byte a (b ∷ c ∷ d ∷ xs) h.first in
    let q = hex_byte b (c ∷ d ∷ xs) h.second in
    let r = hex_byte c (d ∷ xs) h.third in
    let s = hex_byte d xs h.fourth in
    (p.0 ∙ q.0 ∙ r.0 ∙ s.0, p.1 ∙ q.1 ∙ r.1 ∙ s.1)

backslash_byte : (e u : ℕ) (xs : List ℕ) → (e == 92) ≡ true
    → (has_no_end false (e ∷ u ∷ xs) ≡ has_no_end false xs) × (escaped_after false (e ∷ u ∷ xs) ≡ escaped_after false xs)
backslash_byte e u xs h = let is : e ≡ 92 = eqb-true e 92 h in (ap (λ y. has_no_end false (y ∷ u ∷ xs)) is, ap (λ y. escaped_after false (y ∷ u ∷ xs)) is)

-- ---- what follows a string's bytes

-- an escape that isn't whole before this text stands for nothing
record IsTail (text : List ℕ) : Type 0 where
  pub short_u : (s : List ℕ) → length s < 4 → content after_u (s ++ text) ≡ None
  pub short_high : (high : ℕ) (s : List ℕ) → length s < 6 → content (after_high high) (s ++ text) ≡ None

end_u : (s : List ℕ) → length s < 4 → content after_u (s ++ []) ≡ None
unfolding content
end_u [] h = refl
end_u (a ∷ []) h = refl
end_u (a ∷ b ∷ []) h = refl
end_u (a ∷ b ∷ c ∷ []) h = refl
end_u (a ∷ b ∷ c ∷ d ∷ s) h = absurd (omega arith)

end_high : (high : ℕ) (s : List ℕ) → length s < 6 → content (after_high high) (s ++ []) ≡ None
unfolding content
end_high high [] h = refl
end_high high (e ∷ []) h = refl
end_high high (e ∷ u ∷ []) h = refl
end_high high (e ∷ u ∷ a ∷ []) h = refl
end_high high (e ∷ u ∷ a ∷ b ∷ []) h = refl
end_high high (e ∷ u ∷ a ∷ b ∷ c ∷ []) h = refl
end_high high (e ∷ u ∷ a ∷ b ∷ c ∷ d ∷ s) h = absurd (omega arith)

end_is_tail : IsTail []
end_is_tail = record { short_u = end_u; short_high = end_high }

quote_u : (s t : List ℕ) → length s < 4 → content after_u (s ++ 34 ∷ t) ≡ None
unfolding content
quote_u [] [] h = refl
quote_u [] (b ∷ []) h = refl
quote_u [] (b ∷ c ∷ []) h = refl
quote_u [] (b ∷ c ∷ d ∷ t) h = rw (quote_first b c d) refl
quote_u (a ∷ []) [] h = refl
quote_u (a ∷ []) (c ∷ []) h = refl
quote_u (a ∷ []) (c ∷ d ∷ t) h = rw (quote_second a c d) refl
quote_u (a ∷ b ∷ []) [] h = refl
quote_u (a ∷ b ∷ []) (d ∷ t) h = rw (quote_third a b d) refl
quote_u (a ∷ b ∷ c ∷ []) t h = rw (quote_fourth a b c) refl
quote_u (a ∷ b ∷ c ∷ d ∷ s) t h = absurd (omega arith)

-- both ways give nothing
none_both : (b : Bool) → let none : Option (List ℕ) = None in cond b none none ≡ none
none_both true = refl
none_both false = refl

none_pair : (e : ℕ) (o : Option (List ℕ)) → cond ((e == 92) && (34 == 117)) o None ≡ None
none_pair e o = rw (and_right (e == 92) (34 == 117) refl) refl

quote_high : (high : ℕ) (s t : List ℕ) → length s < 6 → content (after_high high) (s ++ 34 ∷ t) ≡ None
unfolding content
quote_high high [] [] h = refl
quote_high high [] (u ∷ []) h = refl
quote_high high [] (u ∷ a ∷ []) h = refl
quote_high high [] (u ∷ a ∷ b ∷ []) h = refl
quote_high high [] (u ∷ a ∷ b ∷ c ∷ []) h = refl
quote_high high [] (u ∷ a ∷ b ∷ c ∷ d ∷ t) h = refl
quote_high high (e ∷ []) [] h = refl
quote_high high (e ∷ []) (a ∷ []) h = refl
quote_high high (e ∷ []) (a ∷ b ∷ []) h = refl
quote_high high (e ∷ []) (a ∷ b ∷ c ∷ []) h = refl
quote_high high (e ∷ []) (a ∷ b ∷ c ∷ d ∷ t) h = none_pair e _
quote_high high (e ∷ u ∷ []) [] h = refl
quote_high high (e ∷ u ∷ []) (b ∷ []) h = refl
quote_high high (e ∷ u ∷ []) (b ∷ c ∷ []) h = refl
quote_high high (e ∷ u ∷ []) (b ∷ c ∷ d ∷ t) h = rw (quote_first b c d) (none_both ((e == 92) && (u == 117)))
quote_high high (e ∷ u ∷ a ∷ []) [] h = refl
quote_high high (e ∷ u ∷ a ∷ []) (c ∷ []) h = refl
quote_high high (e ∷ u ∷ a ∷ []) (c ∷ d ∷ t) h = rw (quote_second a c d) (none_both ((e == 92) && (u == 117)))
quote_high high (e ∷ u ∷ a ∷ b ∷ []) [] h = refl
quote_high high (e ∷ u ∷ a ∷ b ∷ []) (d ∷ t) h = rw (quote_third a b d) (none_both ((e == 92) && (u == 117)))
quote_high high (e ∷ u ∷ a ∷ b ∷ c ∷ []) t h = rw (quote_fourth a b c) (none_both ((e == 92) && (u == 117)))
quote_high high (e ∷ u ∷ a ∷ b ∷ c ∷ d ∷ s) t h = absurd (omega arith)

quote_is_tail : (t : List ℕ) → IsTail (34 ∷ t)
quote_is_tail t = record { short_u = λ s h. quote_u s t h; short_high = λ high s h. quote_high high s t h }

-- ---- the same of two texts that begin with the same bytes of a string

abbrev is_escaped : Within → Bool
is_escaped plain = false
is_escaped after_backslash = true
is_escaped after_u = false
is_escaped (after_high high) = false

abbrev Found : Type 0
Found = Option (List ℕ)

-- a relation of what is found, which stays when the same bytes are put in front of both
record Stays (Alike : Found → Found → Type 0) : Type 0 where
  pub none : Alike None None
  pub more : (s : List ℕ) (o p : Found) → Alike o p → Alike (prepend s o) (prepend s p)

module _ (Alike : Found → Found → Type 0) (stays : Stays Alike) (a b : List ℕ) (tail_a : IsTail a) (tail_b : IsTail b) (Ends : Bool → Type 0)
    (ends_plain : Ends false → Alike (content plain a) (content plain b)) (ends_escaped : Ends true → Alike (content after_backslash a) (content after_backslash b)) where
  both_none : (o p : Found) → o ≡ None → p ≡ None → Alike o p
  both_none o p e f = subst (λ q. Alike o q) (sym f) (subst (λ q. Alike q None) (sym e) stays.none)

  same_choice : (c : Bool) (o p q r : Found) → (c ≡ true → Alike o q) → (c ≡ false → Alike p r) → Alike (cond c o p) (cond c q r)
  same_choice true o p q r f g = f refl
  same_choice false o p q r f g = g refl

  same_then : (o : Option ℕ) (f g : ℕ → Found) → (is_found o ≡ true → (u : ℕ) → Alike (f u) (g u)) → Alike (option_and_then f o) (option_and_then g o)
  same_then None f g h = stays.none
  same_then (Some u) f g h = h refl u

  alike : (w : Within) (s : List ℕ) → has_no_end (is_escaped w) s ≡ true → Ends (escaped_after (is_escaped w) s) → Alike (content w (s ++ a)) (content w (s ++ b))
  unfolding content
  alike plain [] h k = ends_plain k
  alike plain (x ∷ s) h k =
      let rest = (and_parts (not (x == 34)) (has_no_end (x == 92) s) h).1 in
      same_choice (x == 34) _ _ _ _ (λ q. absurd (false≢true (sym (ap not q) ∙ (and_parts (not (x == 34)) (has_no_end (x == 92) s) h).0)))
      (λ q. same_choice (x == 92) _ _ _ _
      (λ e. alike after_backslash s (subst (λ z. has_no_end z s ≡ true) e rest) (subst (λ z. Ends (escaped_after z s)) e k))
      (λ e. same_choice (nat_lt x 32) _ _ _ _ (λ c. stays.none)
      (λ c. stays.more (x ∷ []) _ _ (alike plain s (subst (λ z. has_no_end z s ≡ true) e rest) (subst (λ z. Ends (escaped_after z s)) e k)))))
  alike after_backslash [] h k = ends_escaped k
  alike after_backslash (x ∷ s) h k =
      same_choice (x == 117) _ _ _ _ (λ u. alike after_u s h k)
      (λ u. same_then (short_escape x) _ _ (λ f c. stays.more (c ∷ []) _ _ (alike plain s h k)))
  alike after_u [] h k = both_none _ _ (tail_a.short_u [] (omega arith)) (tail_b.short_u [] (omega arith))
  alike after_u (c ∷ []) h k = both_none _ _ (tail_a.short_u (c ∷ []) (omega arith)) (tail_b.short_u (c ∷ []) (omega arith))
  alike after_u (c ∷ d ∷ []) h k = both_none _ _ (tail_a.short_u (c ∷ d ∷ []) (omega arith)) (tail_b.short_u (c ∷ d ∷ []) (omega arith))
  alike after_u (c ∷ d ∷ e ∷ []) h k = both_none _ _ (tail_a.short_u (c ∷ d ∷ e ∷ []) (omega arith)) (tail_b.short_u (c ∷ d ∷ e ∷ []) (omega arith))
  alike after_u (c ∷ d ∷ e ∷ f ∷ s) h k =
      same_then (code_unit c d e f) _ _ (λ found u.
      let hex = hex_bytes c d e f s (are_hex c d e f found) in
      let inside = sym hex.0 ∙ h in
      let ends = subst Ends hex.1 k in
      same_choice (is_high_surrogate u) _ _ _ _ (λ z. alike (after_high u) s inside ends)
      (λ z. same_choice (is_low_surrogate u) _ _ _ _ (λ y. stays.none) (λ y. stays.more (encode_utf8 u) _ _ (alike plain s inside ends))))
  alike (after_high high) [] h k = both_none _ _ (tail_a.short_high high [] (omega arith)) (tail_b.short_high high [] (omega arith))
  alike (after_high high) (e ∷ []) h k = both_none _ _ (tail_a.short_high high (e ∷ []) (omega arith)) (tail_b.short_high high (e ∷ []) (omega arith))
  alike (after_high high) (e ∷ u ∷ []) h k = both_none _ _ (tail_a.short_high high (e ∷ u ∷ []) (omega arith)) (tail_b.short_high high (e ∷ u ∷ []) (omega arith))
  alike (after_high high) (e ∷ u ∷ c ∷ []) h k =
      both_none _ _ (tail_a.short_high high (e ∷ u ∷ c ∷ []) (omega arith)) (tail_b.short_high high (e ∷ u ∷ c ∷ []) (omega arith))
  alike (after_high high) (e ∷ u ∷ c ∷ d ∷ []) h k =
      both_none _ _ (tail_a.short_high high (e ∷ u ∷ c ∷ d ∷ []) (omega arith)) (tail_b.short_high high (e ∷ u ∷ c ∷ d ∷ []) (omega arith))
  alike (after_high high) (e ∷ u ∷ c ∷ d ∷ f ∷ []) h k =
      both_none _ _ (tail_a.short_high high (e ∷ u ∷ c ∷ d ∷ f ∷ []) (omega arith)) (tail_b.short_high high (e ∷ u ∷ c ∷ d ∷ f ∷ []) (omega arith))
  alike (after_high high) (e ∷ u ∷ c ∷ d ∷ f ∷ g ∷ s) h k =
      same_choice ((e == 92) && (u == 117)) _ _ _ _
      (λ both. same_then (code_unit c d f g) _ _ (λ found l.
      let hex = hex_bytes c d f g s (are_hex c d f g found) in
      let escape = backslash_byte e u (c ∷ d ∷ f ∷ g ∷ s) (and_parts (e == 92) (u == 117) both).0 in
      let inside = sym (escape.0 ∙ hex.0) ∙ h in
      let ends = subst Ends (escape.1 ∙ hex.1) k in
      same_choice (is_low_surrogate l) _ _ _ _ (λ y. stays.more (encode_utf8 (surrogate_pair high l)) _ _ (alike plain s inside ends)) (λ y. stays.none)))
      (λ both. stays.none)

-- what a string holds, whatever follows its closing quote
pub same_content : (s t u : List ℕ) → has_no_end false s ≡ true → escaped_after false s ≡ false → content plain (s ++ 34 ∷ t) ≡ content plain (s ++ 34 ∷ u)
unfolding content
same_content s t u h k =
    alike (λ o p. o ≡ p) (record { none = refl; more = λ x o p e. ap (prepend x) e }) (34 ∷ t) (34 ∷ u) (quote_is_tail t) (quote_is_tail u) (λ e. e ≡ false)
    (λ e. refl) (λ e. absurd (true≢false e)) plain s h k

-- a string that isn't closed holds nothing
pub no_content : (s : List ℕ) → has_no_end false s ≡ true → content plain (s ++ []) ≡ None
unfolding content
no_content s h =
    alike (λ o p. o ≡ None) (record { none = refl; more = λ x o p e. ap (prepend x) e }) [] [] end_is_tail end_is_tail (λ e. Unit {0})
    (λ e. refl) (λ e. refl) plain s h tt

-- ---- the lexer

abbrev inside_string : Bool → Mode
inside_string false = in_string
inside_string true = in_escape

in_string_byte : (q b o s : Bool) (x : ℕ) (xs : List ℕ) (k : Mode → List Lexeme) → q ≡ false
    → lex_byte in_string (cond q quote (cond b backslash (cond o operator (cond s space other)))) x xs k ≡ k (inside_string b)
in_string_byte true b o s x xs k e = absurd (true≢false e)
in_string_byte false true o s x xs k e = refl
in_string_byte false false true s x xs k e = refl
in_string_byte false false false true x xs k e = refl
in_string_byte false false false false x xs k e = refl

passed : (e : Bool) (s t : List ℕ) → has_no_end e s ≡ true → escaped_after e s ≡ false → lex (inside_string e) (s ++ 34 ∷ t) ≡ lex between t
unfolding lex
passed false [] t h k = refl
passed true [] t h k = absurd (true≢false k)
passed false (x ∷ s) t h k =
    let parts = and_parts (not (x == 34)) (has_no_end (x == 92) s) h in
    in_string_byte (x == 34) (x == 92) (is_operator x) (is_space x) x (s ++ 34 ∷ t) (λ m. lex m (s ++ 34 ∷ t)) (not-true (x == 34) parts.0)
    ∙ passed (x == 92) s t parts.1 k
passed true (x ∷ s) t h k = passed false s t h k

-- it goes on behind the closing quote
pub lex_string : (s t : List ℕ) → has_no_end false s ≡ true → escaped_after false s ≡ false → lex in_string (s ++ 34 ∷ t) ≡ lex between t
lex_string s t h k = passed false s t h k
