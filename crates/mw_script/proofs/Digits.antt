-- Digits that are read one after another.
use Rattle.std.proofs.Common.{◌≡◌, ◌<◌, ◌≤◌, ◌+◌, ◌*◌, ◌^◌, ◌&&◌, ℕ, List, [], ◌∷◌, Option, Some, None, Bool, true, false, length, drop, get_or, nat_lt, ◌==◌, not, cond, refl, ap, subst, sym, ◌∙◌, arith}
use Rattle.std.specs.Char.{is_ascii_digit, digit_value}
use Rattle.std.specs.Str.{all_ascii_digits}
use Rattle.std.specs.Str.Parse.{digits_value_after}
use Rattle.std.proofs.lemmas.List.{drop_more, at_drop_all}
use Rattle.mw_script.specs.Lines.{number_of, with_digit}

-- what digits write after those that write n
abbrev pub number_after : ℕ → List ℕ → Option ℕ
number_after n ds = cond (all_ascii_digits ds && nat_lt (digits_value_after 10 n ds) (2 ^ 64)) (Some (digits_value_after 10 n ds)) None

digits_grow : (n : ℕ) (ds : List ℕ) → n ≤ digits_value_after 10 n ds
digits_grow n [] = omega arith
digits_grow n (d ∷ ds) = omega (arith, digits_grow (n * 10 + digit_value d) ds)

none_of : (a b : Bool) (n : ℕ) → b ≡ false → cond (a && b) (Some n) None ≡ None
none_of true true n h = grind (arith, h)
none_of true false n h = refl
none_of false b n h = refl

too_great : (n : ℕ) (ds : List ℕ) → 2 ^ 64 ≤ n → number_after n ds ≡ None
too_great n ds h =
    let great : nat_lt (digits_value_after 10 n ds) (2 ^ 64) ≡ false = grind (arith, digits_grow n ds) in
    none_of (all_ascii_digits ds) (nat_lt (digits_value_after 10 n ds) (2 ^ 64)) (digits_value_after 10 n ds) great

-- by whether the next byte is a digit, and whether the number that it writes is small
none_by : (a b : Bool) (m : ℕ) (ds : List ℕ) → (b ≡ false → 2 ^ 64 ≤ m) → cond (a && b) (Some m) None ≡ None
    → cond ((a && all_ascii_digits ds) && nat_lt (digits_value_after 10 m ds) (2 ^ 64)) (Some (digits_value_after 10 m ds)) None ≡ None
none_by true true m ds great h = grind (arith, h)
none_by true false m ds great h = too_great m ds (great refl)
none_by false b m ds great h = refl

pub none_after : (n : ℕ) (d : ℕ) (ds : List ℕ) → with_digit n d ≡ None → number_after n (d ∷ ds) ≡ None
none_after n d ds h = none_by (is_ascii_digit d) (nat_lt (n * 10 + digit_value d) (2 ^ 64)) (n * 10 + digit_value d) ds (λ e. grind (arith, e)) h

some_by : (a b : Bool) (k m : ℕ) (ds : List ℕ) → cond (a && b) (Some k) None ≡ Some m
    → cond ((a && all_ascii_digits ds) && nat_lt (digits_value_after 10 k ds) (2 ^ 64)) (Some (digits_value_after 10 k ds)) None ≡ number_after m ds
some_by true true k m ds h = ap (λ x. number_after x ds) (grind (arith, h))
some_by true false k m ds h = grind (arith, h)
some_by false b k m ds h = grind (arith, h)

pub some_after : (n m : ℕ) (d : ℕ) (ds : List ℕ) → with_digit n d ≡ Some m → number_after n (d ∷ ds) ≡ number_after m ds
some_after n m d ds h = some_by (is_ascii_digit d) (nat_lt (n * 10 + digit_value d) (2 ^ 64)) (n * 10 + digit_value d) m ds h

pub number_is : (ds : List ℕ) → 0 < length ds → number_of ds ≡ number_after 0 ds
number_is [] h = absurd (omega arith)
number_is (d ∷ ds) h =
    let some : length (d ∷ ds) == 0 ≡ false = grind (arith, h) in
    ap (λ b. cond (not b && all_ascii_digits (d ∷ ds) && nat_lt (digits_value_after 10 0 (d ∷ ds)) (2 ^ 64)) (Some (digits_value_after 10 0 (d ∷ ds))) None) some

-- all the digits were read
pub read_all : (bs : List ℕ) (n i : ℕ) → 0 < length bs → n < 2 ^ 64 → length bs ≤ i → number_after n (drop i bs) ≡ number_after 0 bs → Some n ≡ number_of bs
read_all bs n i h small past is =
    let fits : nat_lt n (2 ^ 64) ≡ true = grind (arith, small) in
    let done : number_after n (drop i bs) ≡ number_after n [] = at_drop_all (number_after n) bs i past in
    let last : number_after n [] ≡ Some n = ap {A = Bool} {B = Option ℕ} (λ b. cond b (Some n) None) fits in
    sym (number_is bs h ∙ sym is ∙ done ∙ last)

pub none_at : (bs : List ℕ) (i n : ℕ) → i < length bs → with_digit n (get_or bs i 0) ≡ None → number_after n (drop i bs) ≡ None
none_at bs i n h is = ap (number_after n) (drop_more bs i 0 h) ∙ none_after n (get_or bs i 0) (drop (i + 1) bs) is

pub some_at : (bs : List ℕ) (i n m : ℕ) → i < length bs → with_digit n (get_or bs i 0) ≡ Some m → number_after n (drop i bs) ≡ number_after m (drop (i + 1) bs)
some_at bs i n m h is = ap (number_after n) (drop_more bs i 0 h) ∙ some_after n m (get_or bs i 0) (drop (i + 1) bs) is

small_by : (a b : Bool) (k m : ℕ) → (b ≡ true → k < 2 ^ 64) → cond (a && b) (Some k) None ≡ Some m → m < 2 ^ 64
small_by true true k m fits is = subst (λ x. x < 2 ^ 64) (grind (arith, is)) (fits refl)
small_by true false k m fits is = grind (arith, is)
small_by false b k m fits is = grind (arith, is)

pub small_at : (n d m : ℕ) → with_digit n d ≡ Some m → m < 2 ^ 64
small_at n d m is = small_by (is_ascii_digit d) (nat_lt (n * 10 + digit_value d) (2 ^ 64)) (n * 10 + digit_value d) m (λ e. grind (arith, e)) is

pub ruleset numbers = (none_at, some_at, number_is, small_at)
