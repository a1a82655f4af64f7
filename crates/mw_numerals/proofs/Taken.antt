-- The grammar of numbers takes bytes of numerals alone, so a numeral that is a word is the whole run.
use Rattle.std.proofs.Common.{◌≡◌, ℕ, Bool, true, false, cond, ◌&&◌, ◌||◌, ◌==◌, nat_eq, List, [], ◌∷◌, ◌++◌, length, take, drop, Option, Some, None, option_and_then, inl, inr, ◌⊎◌, refl, sym, ap, ◌∙◌, append_assoc}
use Rattle.std.proofs.lemmas.Bool.{true≢false, false≢true, eqb-true, and_parts, and_from, or_cases, agree_below_at}
use Rattle.std.proofs.lemmas.List.{take-append-drop}
use Rattle.std.proofs.lemmas.Slice.Eq.{bytes_eq-Decides}
use Rattle.std.specs.Char.{is_ascii_digit}
use Rattle.std.specs.List.{list_all, prefix_len, starts_with}
use Rattle.json.specs.Ascii.{true_text, false_text, null_text}
use Rattle.json.specs.Print.{IsNumber}
use Rattle.json.specs.Token.{Token}
use Rattle.json.specs.Word.{is_operator, is_space, head, ends_word, after_digits, after_minus, after_sign, after_whole, after_fraction, after_exponent, after_number, number_before, literal, word}
use Rattle.json.proofs.Printed.Numbers.{number_alone}
use Rattle.mw_numerals.specs.Numerals.{is_numeral_byte}
use Rattle.mw_numerals.specs.Pieces.{begins_run}
use Rattle.mw_numerals.proofs.Undone.{same_run}
use Rattle.mw_numerals.proofs.Numerals.{ascii_byte}
use Rattle.mw_numerals.proofs.Pieces.{all_pass}
use Rattle.mw_numerals.proofs.Runs.{differs}

-- what is left of t, if anything, follows bytes of numerals
abbrev Takes : List ℕ → Option (List ℕ) → Type 0
Takes t None = Unit {0}
Takes t (Some r) = (u : List ℕ) × (list_all is_numeral_byte u ≡ true) × (u ++ r ≡ t)

all_both : (u v : List ℕ) → list_all is_numeral_byte u ≡ true → list_all is_numeral_byte v ≡ true → list_all is_numeral_byte (u ++ v) ≡ true
all_both [] v h k = k
all_both (x ∷ u) v h k = let parts = and_parts (is_numeral_byte x) _ h in and_from (is_numeral_byte x) _ parts.0 (all_both u v parts.1 k)

-- one part after another
takes_on : (t r : List ℕ) (o : Option (List ℕ)) → Takes t (Some r) → Takes r o → Takes t o
takes_on t r None h k = tt
takes_on t r (Some q) h k = (h.0 ++ k.0, all_both h.0 k.0 h.1 k.1, append_assoc h.0 k.0 q ∙ ap (λ l. h.0 ++ l) k.2 ∙ h.2)

then : (t : List ℕ) (f : List ℕ → Option (List ℕ)) → ((r : List ℕ) → Takes r (f r)) → (o : Option (List ℕ)) → Takes t o → Takes t (option_and_then f o)
then t f g None h = tt
then t f g (Some r) h = takes_on t r (f r) h (g r)

either : (t : List ℕ) (b : Bool) (o p : Option (List ℕ)) → (b ≡ true → Takes t o) → Takes t p → Takes t (cond b o p)
either t true o p f h = f refl
either t false o p f h = h

none_taken : (t : List ℕ) → Takes t (Some t)
none_taken t = ([], refl, refl)

byte_taken : (c : ℕ) (t : List ℕ) → is_numeral_byte c ≡ true → (head t == c) ≡ true → Takes t (Some (drop 1 t))
byte_taken c [] h e = absurd (false≢true (ap is_numeral_byte (eqb-true 32 c e) ∙ h))
byte_taken c (x ∷ t) h e = (x ∷ [], and_from (is_numeral_byte x) true (ap is_numeral_byte (eqb-true x c e) ∙ h) refl, refl)

digit_byte : (x : ℕ) → is_ascii_digit x ≡ true → is_numeral_byte x ≡ true
digit_byte x h = rw h refl

digits_all : (u : List ℕ) → list_all is_ascii_digit u ≡ true → list_all is_numeral_byte u ≡ true
digits_all [] h = refl
digits_all (x ∷ u) h = let parts = and_parts (is_ascii_digit x) _ h in and_from (is_numeral_byte x) _ (digit_byte x parts.0) (digits_all u parts.1)

digits_taken : (t : List ℕ) → Takes t (after_digits t)
digits_taken t =
    let n = prefix_len is_ascii_digit t in
    either t (n == 0) None (Some (drop n t)) (λ e. tt) (take n t, digits_all (take n t) (all_pass is_ascii_digit t), take-append-drop n t)

sign_taken : (t : List ℕ) (b : Bool) → (b ≡ true → Takes t (Some (drop 1 t))) → Takes t (Some (cond b (drop 1 t) t))
sign_taken t true f = f refl
sign_taken t false f = none_taken t

one_of : (c d : ℕ) (t : List ℕ) → is_numeral_byte c ≡ true → is_numeral_byte d ≡ true → ((head t == c) || (head t == d)) ≡ true → Takes t (Some (drop 1 t))
one_of c d t h k e = elim (or_cases (head t == c) (head t == d) e) [ inl f ↦ byte_taken c t h f | inr f ↦ byte_taken d t k f ]

whole_taken : (t : List ℕ) → Takes t (after_whole t)
whole_taken t = either t (head t == 48) (Some (drop 1 t)) (after_digits t) (byte_taken 48 t refl) (digits_taken t)

fraction_taken : (t : List ℕ) → Takes t (after_fraction t)
fraction_taken t =
    either t (head t == 46) (after_digits (drop 1 t)) (Some t) (λ e. takes_on t (drop 1 t) (after_digits (drop 1 t)) (byte_taken 46 t refl e) (digits_taken (drop 1 t))) (none_taken t)

exponent_taken : (t : List ℕ) → Takes t (after_exponent t)
exponent_taken t =
    let u = drop 1 t in
    let signed = sign_taken u ((head u == 45) || (head u == 43)) (one_of 45 43 u refl refl) in
    either t ((head t == 101) || (head t == 69)) (after_digits (after_sign u)) (Some t)
    (λ e. takes_on t u (after_digits (after_sign u)) (one_of 101 69 t refl refl e) (takes_on u (after_sign u) (after_digits (after_sign u)) signed (digits_taken (after_sign u)))) (none_taken t)

number_taken : (t : List ℕ) → Takes t (after_number t)
unfolding after_number
number_taken t =
    let signed = sign_taken t (head t == 45) (byte_taken 45 t refl) in
    then t after_exponent exponent_taken (option_and_then after_fraction (after_whole (after_minus t)))
    (then t after_fraction fraction_taken (after_whole (after_minus t)) (takes_on t (after_minus t) (after_whole (after_minus t)) signed (whole_taken (after_minus t))))

-- ---- where a word ends, no numeral goes on

pub no_end : (x : ℕ) → is_numeral_byte x ≡ true → (is_operator x || is_space x) ≡ false
no_end x h =
    let f : ℕ → Bool = λ y. is_numeral_byte y && (is_operator y || is_space y) in
    let none : f x ≡ false = agree_below_at f (λ y. false) 128 x refl (ascii_byte x h) in
    sym (ap (λ b. b && (is_operator x || is_space x)) h) ∙ none

pub ends_run : (t : List ℕ) → ends_word t ≡ true → begins_run t ≡ false
ends_run [] h = refl
ends_run (x ∷ t) h = by (is_numeral_byte x) refl
  where
    by : (b : Bool) → is_numeral_byte x ≡ b → is_numeral_byte x ≡ false
    by true e = absurd (true≢false (sym h ∙ no_end x e))
    by false e = e

-- ---- a good word

abbrev pub is_good : Token → Bool
is_good Token.begin_object = true
is_good Token.end_object = true
is_good Token.begin_array = true
is_good Token.end_array = true
is_good (Token.key s) = true
is_good (Token.string s) = true
is_good (Token.number s) = true
is_good (Token.boolean b) = true
is_good Token.null = true
is_good Token.bad = false

pub good_choice : (b : Bool) (k : Token) → is_good (cond b k Token.bad) ≡ true → b ≡ true
good_choice true k h = refl
good_choice false k h = h

pub record IsNumberWord (s t : List ℕ) : Type 0 where
  pub number : IsNumber s
  pub ended : ends_word t ≡ true

module _ (s t : List ℕ) (all : list_all is_numeral_byte s ≡ true) (ends : begins_run t ≡ false) where
  by_rest : (o : Option (List ℕ)) → after_number (s ++ t) ≡ o → Takes (s ++ t) o → is_good (number_before (s ++ t) o) ≡ true → IsNumberWord s t
  by_rest None e h k = absurd (false≢true k)
  by_rest (Some rest) e h k =
      let ended = good_choice (ends_word rest) _ k in
      let same = same_run h.0 s rest t h.1 all (ends_run rest ended) ends h.2 in
      let here : ends_word t ≡ true = ap ends_word (sym same.1) ∙ ended in
      record { number = number_alone s t here (e ∙ ap Some same.1); ended = here }

pub number_word : (x : ℕ) (s t : List ℕ) → is_numeral_byte x ≡ true → list_all is_numeral_byte (x ∷ s) ≡ true → begins_run t ≡ false → is_good (word (x ∷ (s ++ t))) ≡ true → IsNumberWord (x ∷ s) t
unfolding word
number_word x s t first all ends good =
    let whole = x ∷ (s ++ t) in
    let plain : word whole ≡ number_before whole (after_number whole) = rw (differs x 116 first refl, differs x 102 first refl, differs x 110 first refl) refl in
    by_rest (x ∷ s) t all ends (after_number whole) refl (number_taken whole) (sym (ap is_good plain) ∙ good)

-- a number begins with a byte of numerals
pub no_number : (x : ℕ) (t : List ℕ) → is_numeral_byte x ≡ false → (is_operator x || is_space x) ≡ false → is_good (number_before (x ∷ t) (after_number (x ∷ t))) ≡ true → ⊥
no_number x t plain inside good = by_taken (after_number (x ∷ t)) (number_taken (x ∷ t)) good
  where
    by_bytes : (rest u : List ℕ) → list_all is_numeral_byte u ≡ true → u ++ rest ≡ x ∷ t → ends_word rest ≡ true → ⊥
    by_bytes rest [] all e ended = true≢false (sym ended ∙ ap ends_word e ∙ inside)
    by_bytes rest (y ∷ u) all e ended = let is : y ≡ x = cc in true≢false (sym (and_parts (is_numeral_byte y) _ all).0 ∙ ap is_numeral_byte is ∙ plain)

    by_taken : (o : Option (List ℕ)) → Takes (x ∷ t) o → is_good (number_before (x ∷ t) o) ≡ true → ⊥
    by_taken None h k = false≢true k
    by_taken (Some rest) h k = by_bytes rest h.0 h.1 h.2 (good_choice (ends_word rest) _ k)

-- ---- a good word that is a literal

pub record IsLiteral (name t : List ℕ) : Type 0 where
  pub rest : List ℕ
  pub is : t ≡ name ++ rest
  pub ended : ends_word rest ≡ true

literal_front : (name : List ℕ) (k : Token) (t : List ℕ) → is_good (literal name k t) ≡ true → IsLiteral name t
literal_front name k t h =
    let both = and_parts (starts_with nat_eq t name) (ends_word (drop (length name) t)) (good_choice _ k h) in
    let front : name ≡ take (length name) t = (bytes_eq-Decides name (take (length name) t)).0 both.0 in
    record { rest = drop (length name) t; is = sym (take-append-drop (length name) t) ∙ ap (λ l. l ++ drop (length name) t) (sym front); ended = both.1 }

abbrev pub IsOneLiteral : List ℕ → Type 0
IsOneLiteral t = IsLiteral true_text t ⊎ (IsLiteral false_text t ⊎ IsLiteral null_text t)

pick : (b : Bool) (k l : Token) (P : Type 0) → is_good (cond b k l) ≡ true → (is_good k ≡ true → P) → (b ≡ false → is_good l ≡ true → P) → P
pick true k l P h f g = f h
pick false k l P h f g = g refl h

-- a good word that begins with no byte of numerals is a literal
pub literal_word : (x : ℕ) (t : List ℕ) → is_numeral_byte x ≡ false → (is_operator x || is_space x) ≡ false → is_good (word (x ∷ t)) ≡ true → IsOneLiteral (x ∷ t)
unfolding word
literal_word x t plain inside good =
    let whole = x ∷ t in
    pick (x == 116) (literal true_text (Token.boolean true) whole) _ _ good (λ h. inl (literal_front true_text (Token.boolean true) whole h)) (λ e rest.
    pick (x == 102) (literal false_text (Token.boolean false) whole) _ _ rest (λ h. inr (inl (literal_front false_text (Token.boolean false) whole h))) (λ f others.
    pick (x == 110) (literal null_text Token.null whole) _ _ others (λ h. inr (inr (literal_front null_text Token.null whole h))) (λ g last. absurd (no_number x t plain inside last))))
