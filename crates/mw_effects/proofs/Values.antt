-- What is read: hints as they are told, and the parts of a key.
use Rattle.std.proofs.Common.{◌≡◌, ◌<◌, ℕ, List, [], ◌∷◌, ◌++◌, Bool, true, false, Option, Some, None, Result, Ok, bytes_eq, decimal, length, take, drop, map, nat_lt, cond, refl, sym, ap, ◌∙◌, subst, arith, ◌&&◌}
use Rattle.std.specs.Option.{MatchOption}
use Rattle.std.specs.Str.Parse.{AllDigits, digits_value, ParsesUnsigned}
use Rattle.std.specs.Str.Pattern.{FindsTextPrefix, StripsPrefix}
use denote.Ref.{Bor}
use Rattle.std.proofs.lemmas.Bool.{false_from_ne_true}
use Rattle.std.proofs.lemmas.Fmt.{digits_value-decimal, parse-decimal}
use Rattle.std.proofs.lemmas.Str.Parse.{IsNumeralModel, numerals_by_value, tells_digits}
use Rattle.std.proofs.lemmas.Slice.Eq.{bytes_eq-Decides}
use Rattle.std.proofs.lemmas.List.{take_at, take-append-drop}
use Rattle.mw_model.specs.Json.{Json, many, IsWritable, IsOrdered, ItemsAreOrdered}
use Rattle.mw_model.specs.Trees.{items_of}
use Rattle.mw_protocol.specs.Hints.{ToldHint}
use Rattle.mw_protocol.specs.Reading.{hint_json, numbered}
use Rattle.mw_packets_out.specs.Kept.{IsSound}

-- ---- hints

hint_ordered : (h : ToldHint) → IsOrdered (hint_json h)
hint_ordered h =
    (tt, (refl, (refl, (refl, (refl, (refl, (refl, (refl, (refl, tt)))))))), (tt, (refl, (refl, (refl, (refl, (refl, (refl, (refl, tt))))))), (tt, (refl, (refl, (refl, (refl, (refl, (refl, tt)))))), (tt, (refl, (refl, (refl, (refl, (refl, tt))))), (tt, (refl, (refl, (refl, (refl, tt)))), (tt, (refl, (refl, (refl, tt))), (tt, (refl, (refl, tt)), (tt, (refl, tt), (tt, tt, tt)))))))))

hints_ordered : (hs : List ToldHint) → ItemsAreOrdered (items_of (map hint_json hs))
hints_ordered [] = tt
hints_ordered (h ∷ hs) = (hint_ordered h, hints_ordered hs)

-- hints that can be written are in order as well
pub hints_sound : (hs : List ToldHint) (j : Json) → j ≡ many (items_of (map hint_json hs)) → IsWritable j → IsSound j
hints_sound hs j e h = record { writable = h; ordered = subst IsOrdered (sym e) (hints_ordered hs) }

-- ---- the parts of a key

-- a text begins with another, or not, as the front of its bytes tells
pub prefix_is : (p s : List ℕ) (r : Option (Bor (List ℕ)))
    → MatchOption r (FindsTextPrefix p s None) (λ x. StripsPrefix (FindsTextPrefix p) s x.now)
    → MatchOption r (bytes_eq (take (length p) s) p ≡ false) (λ x. (bytes_eq (take (length p) s) p ≡ true) × (x.now ≡ drop (length p) s))
prefix_is p s None h =
    false_from_ne_true (bytes_eq (take (length p) s) p) (λ e. h (drop (length p) s) (sym (take-append-drop (length p) s) ∙ ap (λ front. front ++ drop (length p) s) ((bytes_eq-Decides (take (length p) s) p).0 e)))
prefix_is p s (Some x) h =
    let split : s ≡ p ++ drop h.0 s = h.1.1 in
    let front : take (length p) s ≡ p = ap (take (length p)) split ∙ take_at p (drop h.0 s) (length p) refl in
    ((bytes_eq-Decides (take (length p) s) p).1 front, h.2 ∙ ap (λ n. drop n s) h.1.0)

numbered_by : (a b : Bool) (v n : ℕ) → cond (a && b) (Some v) None ≡ Some n → (a ≡ true) × (b ≡ true) × (v ≡ n)
numbered_by true true v n h = (refl, refl, search h)
numbered_by true false v n h = cc
numbered_by false b v n h = cc

-- a text that says a number is what the number is spelled as
said : (text : List ℕ) (n : ℕ) → numbered text ≡ Some n → (n < 65536) × (text ≡ decimal n)
said text n h =
    let v = digits_value 10 text in
    let by = numbered_by (nat_lt v 65536) (bytes_eq (decimal v) text) v n h in
    (grind (arith, by.0, by.2), sym ((bytes_eq-Decides (decimal v) text).0 by.1) ∙ ap decimal by.2)

digits : IsNumeralModel (AllDigits 10) (digits_value 10)
digits = numerals_by_value (AllDigits 10) tells_digits

not_said : (text : List ℕ) → ((n : ℕ) → n < 65536 → text ≡ decimal n → ⊥) → numbered text ≡ None
not_said text h =
    (elim (numbered text) as (λ o. numbered text ≡ o → o ≡ None) [ None ↦ (λ e. refl) | Some n ↦ (λ e. absurd (h n (said text n e).0 (said text n e).1)) ]) refl

-- a number's decimal says it
pub is_said : (text : List ℕ) (n : ℕ) → n < 65536 → bytes_eq (decimal n) text ≡ true → numbered text ≡ Some n
is_said text n small same =
    let is : decimal n ≡ text = (bytes_eq-Decides (decimal n) text).0 same in
    let value : digits_value 10 text ≡ n = ap (digits_value 10) (sym is) ∙ digits_value-decimal digits n (omega (arith, small)) in
    let low : nat_lt n 65536 ≡ true = grind (arith, small) in
    ap (λ v. cond (nat_lt v 65536 && bytes_eq (decimal v) text) (Some v) None) value
    ∙ ap (λ b. cond (b && bytes_eq (decimal n) text) (Some n) None) low
    ∙ ap (λ b. cond b (Some n) None) same

-- what can't be read says none
pub unread : {E : Type 0} (text : List ℕ) (r : Result ℕ E) → ParsesUnsigned 16 10 text r → ((n : ℕ) → r ≡ Ok n → ⊥) → numbered text ≡ None
unread text r h none = not_said text (λ n small is. none n (parse-decimal 16 n text r small (omega (arith, small)) is h))

-- nor does what is read as a number that is spelled otherwise
pub misspelled : {E : Type 0} (text : List ℕ) (r : Result ℕ E) (n : ℕ) → ParsesUnsigned 16 10 text r → r ≡ Ok n → bytes_eq (decimal n) text ≡ false → numbered text ≡ None
misspelled text r n h read other =
    not_said text (λ k small is.
    let again : r ≡ Ok k = parse-decimal 16 k text r small (omega (arith, small)) is h in
    let same : k ≡ n = cc in
    let spelled : bytes_eq (decimal n) text ≡ true = (bytes_eq-Decides (decimal n) text).1 (ap decimal (sym same) ∙ sym is) in
    cc)
