-- What the readers of numbers and names give keeps their rules.
use Rattle.std.proofs.Common.{◌≡◌, ◌≤◌, ◌<◌, ◌==◌, ℕ, List, [], ◌∷◌, true, false, Ok, length, refl, arith}
use Rattle.std.specs.Prelude.{All, IfOk, chars, codes, bytes_eq, nat_lt}
use Rattle.std.proofs.lemmas.Grind.{common_steps}
use Rattle.std.proofs.lemmas.Int.{ints}
use Rattle.std.proofs.lemmas.List.Elements.{All-nil, All-cons}
use Rattle.std.proofs.lemmas.Result.{IfOk-weaker}
use Rattle.mw_model.specs.Json.{Json}
use Rattle.mw_json.specs.Grammar.{refused, number_at, text_at, has_control, short_text, name_of, name_at}
use Rattle.mw_json.specs.Parts.{id_at}
use Rattle.mw_json.specs.Settings.{password_at, remaining_of, remaining_at, permission_at}
use Rattle.mw_json.specs.declared.refusal.Kind.TheVariants.{WrongKind, NameTooLong}
use Rattle.mw_json.proofs.Kept.{either, unless, IsBetween, number_kept}
use Rattle.mw_json.proofs.Passing.{past, after, where_true}
use Rattle.mw_multidata.specs.Parts.{flags_at}
use Rattle.mw_multidata.specs.SeedKept.{IsName, IsId, is_class, is_remaining, is_permission}
use Rattle.mw_multidata.specs.Shape.{seed_name_of, seed_name_at}
use Rattle.mw_multidata.proofs.Bools.{or_else, neither}

-- ---- numbers

pub id_kept : (j : Json) → IfOk (id_at j) IsId
unfolding id_at
id_kept j =
    after (IsBetween 1 9007199254740991) IsId (number_at 1 9007199254740991 j) _ (number_kept 1 9007199254740991 j) (λ n h.
    record { low = omega (arith, ints, h.0); high = omega (arith, ints, h.1) })

four : (n : ℕ) → n ≤ 4 → (n == 3) ≡ false → is_class n ≡ true
four n h e = or_else (n == 0) _ (λ a. or_else (n == 1) _ (λ b. or_else (n == 2) (n == 4) (λ c. grind (arith, common_steps, a, b, c, e, h))))

-- it is a class
abbrev pub IsClass : ℕ → Type 0
IsClass n = is_class n ≡ true

pub flags_kept : (j : Json) → IfOk (flags_at j) IsClass
unfolding flags_at
flags_kept j = after (IsBetween 0 4) IsClass (number_at 0 4 j) _ (number_kept 0 4 j) (λ n h. unless IsClass (n == 3) WrongKind (Ok n) (λ e. four n h.1 e))

-- ---- texts

plain : (s : List ℕ) → has_control s ≡ false → All (λ byte. 32 ≤ byte) s
plain [] e = All-nil (λ byte. 32 ≤ byte)
plain (b ∷ bs) e =
    let both : (nat_lt b 32 ≡ false) × (has_control bs ≡ false) = neither (nat_lt b 32) (has_control bs) e in
    All-cons (λ byte. 32 ≤ byte) b bs (grind (arith, common_steps, both.0)) (plain bs both.1)

abbrev pub IsShort : ℕ → List ℕ → Type 0
IsShort most s = length (chars s) ≤ most

-- the name itself, which keeps its rule
pub name_kept : (most : ℕ) (s : List ℕ) → IfOk (name_of most s) (λ t. (t ≡ s) × IsName most t)
name_kept most s =
    let P : List ℕ → Type 0 = λ t. (t ≡ s) × IsName most t in
    unless P _ WrongKind (short_text most s) (λ e.
    let both : ((length s == 0) ≡ false) × (has_control s ≡ false) = neither (length s == 0) (has_control s) e in
    where_true P _ s NameTooLong (λ f. (refl, record { there = grind (arith, common_steps, both.0); short = grind (arith, common_steps, f); plain = plain s both.1 })))

pub named_kept : (most : ℕ) (j : Json) → IfOk (name_at most j) (IsName most)
unfolding name_at
named_kept most j = past (IsName most) (text_at j) _ (λ s. IfOk-weaker (name_of most s) (λ t. (t ≡ s) × IsName most t) (IsName most) (λ t h. h.1) (name_kept most s))

pub password_kept : (j : Json) → IfOk (password_at j) (IsShort 128)
unfolding password_at
password_kept j = past (IsShort 128) (text_at j) _ (λ s. where_true (IsShort 128) _ s NameTooLong (λ e. grind (arith, common_steps, e)))

abbrev pub IsSeedName : List ℕ → Type 0
IsSeedName s = (0 < length s) × IsShort 128 s

told_name : (s : List ℕ) → IfOk (seed_name_of s) IsSeedName
told_name [] = tt
told_name (b ∷ bs) = where_true IsSeedName _ (b ∷ bs) NameTooLong (λ e. (omega arith, grind (arith, common_steps, e)))

pub seed_name_kept : (j : Json) → IfOk (seed_name_at j) IsSeedName
unfolding seed_name_at
seed_name_kept j = past IsSeedName (text_at j) _ told_name

-- ---- permissions

one_of_three : (P : ℕ → Type 0) (s : List ℕ) → P 0 → P 1 → P 2 → IfOk (remaining_of s) P
one_of_three P s a b c =
    either P (bytes_eq s (codes "disabled")) (Ok 0) _ a (either P (bytes_eq s (codes "enabled")) (Ok 1) _ b (either P (bytes_eq s (codes "goal")) (Ok 2) (refused WrongKind) c tt))

abbrev pub IsRemaining : ℕ → Type 0
IsRemaining n = is_remaining n ≡ true

abbrev pub IsPermission : ℕ → Type 0
IsPermission n = is_permission n ≡ true

pub remaining_kept : (j : Json) → IfOk (remaining_at j) IsRemaining
unfolding remaining_at
remaining_kept j = past IsRemaining (text_at j) _ (λ s. one_of_three IsRemaining s refl refl refl)

pub permission_kept : (j : Json) → IfOk (permission_at j) IsPermission
unfolding permission_at
permission_kept j =
    let P : ℕ → Type 0 = IsPermission in
    past P (text_at j) _ (λ s. either P (bytes_eq s (codes "auto")) (Ok 6) _ refl (either P (bytes_eq s (codes "auto_enabled")) (Ok 7) (remaining_of s) refl (one_of_three P s refl refl refl)))
