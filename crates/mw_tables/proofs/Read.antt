-- What is known of the names, numbers and lists that a grammar gives.
use Rattle.std.proofs.Common.{◌≡◌, ◌<◌, ◌≤◌, ℕ, ◌==◌, ◌||◌, List, [], ◌∷◌, length, Bool, true, false, if◌then◌else◌, All, refl, arith}
use Rattle.std.specs.Prelude.{IfOk, chars, nat_le, nat_lt}
use Rattle.std.proofs.lemmas.Grind.{common_steps}
use Rattle.std.proofs.lemmas.Int.{ints}
use Rattle.std.proofs.lemmas.List.Elements.{All-nil, All-cons}
use Rattle.std.proofs.lemmas.Result.{IfOk-weaker}
use Rattle.mw_model.specs.Json.{Json, null, flag, whole, not_whole, numeral, words, many, members}
use Rattle.mw_json.specs.Grammar.{refused, has_control, short_text, name_of, name_at, number_at, text_at}
use Rattle.mw_json.specs.declared.refusal.Kind.TheVariants.{WrongKind, NameTooLong}
use Rattle.mw_json.specs.Parts.{id_at, null_or_at}
use Rattle.mw_json.proofs.Kept.{IsBetween, number_kept}
use Rattle.mw_multi.specs.Names.{IsName, IsId}
use Rattle.mw_multi.specs.WorldKept.{IsIdOrNone}
use Rattle.mw_json.proofs.Passing.{past, after, where_true}

-- ---- names

head_plain : (b : ℕ) (others : Bool) → (nat_lt b 32 || others) ≡ false → 32 ≤ b
head_plain b others h = grind (arith, common_steps)

tail_plain : (b : ℕ) (others : Bool) → (nat_lt b 32 || others) ≡ false → others ≡ false
tail_plain b others h = grind (arith, common_steps)

plain : (s : List ℕ) → has_control s ≡ false → All (λ byte. 32 ≤ byte) s
plain [] h = All-nil (λ byte. 32 ≤ byte)
plain (b ∷ s) h = All-cons (λ byte. 32 ≤ byte) b s (head_plain b (has_control s) h) (plain s (tail_plain b (has_control s) h))

there : (s : List ℕ) (control : Bool) → ((length s == 0) || control) ≡ false → 0 < length s
there s control h = grind (arith, common_steps)

no_control : (s : List ℕ) (control : Bool) → ((length s == 0) || control) ≡ false → control ≡ false
no_control s control h = grind (arith, common_steps)

short : (most : ℕ) (s : List ℕ) → nat_le (length (chars s)) most ≡ true → length (chars s) ≤ most
short most s h = grind (arith, common_steps)

abbrev IsNamed : ℕ → List ℕ → List ℕ → Type 0
IsNamed most s t = (t ≡ s) × IsName most t

unless : (most : ℕ) (s : List ℕ) (bad : Bool) → (bad ≡ false → (0 < length s) × All (λ byte. 32 ≤ byte) s) → IfOk (if bad then refused WrongKind else short_text most s) (IsNamed most s)
unless most s true h = tt
unless most s false h = let known = h refl in where_true (IsNamed most s) (nat_le (length (chars s)) most) s NameTooLong (λ e. (refl, record { there = known.0; short = short most s e; plain = known.1 }))

-- the text itself, which is a name
pub called_kept : (most : ℕ) (s : List ℕ) → IfOk (name_of most s) (λ t. (t ≡ s) × IsName most t)
called_kept most s = unless most s ((length s == 0) || has_control s) (λ e. (there s (has_control s) e, plain s (no_control s (has_control s) e)))

pub name_of-kept : (most : ℕ) (s : List ℕ) → IfOk (name_of most s) (IsName most)
name_of-kept most s = IfOk-weaker (name_of most s) (IsNamed most s) (IsName most) (λ t h. h.1) (called_kept most s)

pub name_kept : (most : ℕ) (j : Json) → IfOk (name_at most j) (IsName most)
unfolding name_at
name_kept most j = past (IsName most) (text_at j) _ (λ s. name_of-kept most s)

-- ---- numbers

pub id_kept : (j : Json) → IfOk (id_at j) IsId
unfolding id_at
id_kept j = after (IsBetween 1 9007199254740991) IsId (number_at 1 9007199254740991 j) _ (number_kept 1 9007199254740991 j) (λ n h. record { low = omega (arith, ints, h.0); high = omega (arith, ints, h.1) })

-- an id that may be null
pub id_or_null_kept : (j : Json) → IfOk (null_or_at id_at j) IsIdOrNone
id_or_null_kept null = tt
id_or_null_kept (flag b) = after IsId IsIdOrNone (id_at (flag b)) _ (id_kept (flag b)) (λ id h. h)
id_or_null_kept (whole z) = after IsId IsIdOrNone (id_at (whole z)) _ (id_kept (whole z)) (λ id h. h)
id_or_null_kept not_whole = after IsId IsIdOrNone (id_at not_whole) _ (id_kept not_whole) (λ id h. h)
id_or_null_kept (numeral s) = after IsId IsIdOrNone (id_at (numeral s)) _ (id_kept (numeral s)) (λ id h. h)
id_or_null_kept (words s) = after IsId IsIdOrNone (id_at (words s)) _ (id_kept (words s)) (λ id h. h)
id_or_null_kept (many js) = after IsId IsIdOrNone (id_at (many js)) _ (id_kept (many js)) (λ id h. h)
id_or_null_kept (members ms) = after IsId IsIdOrNone (id_at (members ms)) _ (id_kept (members ms)) (λ id h. h)
