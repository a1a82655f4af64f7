-- Data storages with the same value under each key.
use Rattle.std.proofs.Common.{◌≡◌, ℕ, ◌+◌, List, Bool, true, false, cond, ◌∷◌, [], Option, Some, None, is_some, length, refl, sym, ap, ap₂, ◌∙◌, bytes_eq, true≢false, arith}
use Rattle.std.proofs.lemmas.Bool.{cond-true, cond-false}
use Rattle.std.proofs.lemmas.Slice.Eq.{bytes_eq-Decides}
use Rattle.mw_model.specs.Json.{Json}
use Rattle.mw_model.specs.Spelling.{spelling}
use Rattle.mw_protocol.specs.Records.{Record, checks, release, collect, status, hint, hint_status, store}
use Rattle.mw_protocol.specs.Storage.{Kept, value_of, put, stored, stored_all, bytes_kept}

abbrev pub AlikeKept : List Kept → List Kept → Type 0
AlikeKept xs ys = (key : List ℕ) → value_of key xs ≡ value_of key ys

both_apart : (key at own : List ℕ) → bytes_eq key at ≡ true → bytes_eq key own ≡ true → bytes_eq at own ≡ false → ⊥
both_apart key at own one other apart =
    true≢false (sym ((bytes_eq-Decides at own).1 (sym ((bytes_eq-Decides key at).0 one) ∙ (bytes_eq-Decides key own).0 other)) ∙ apart)

turned : (xs ys : List ℕ) → bytes_eq xs ys ≡ false → bytes_eq ys xs ≡ false
turned xs ys apart = by (bytes_eq ys xs) refl
  where
    by : (b : Bool) → bytes_eq ys xs ≡ b → b ≡ false
    by true is = sym ((bytes_eq-Decides xs ys).1 (sym ((bytes_eq-Decides ys xs).0 is))) ∙ apart
    by false is = refl

-- two tests of which one passes at most
swapped : {A : Type 0} (b c : Bool) → (b ≡ true → c ≡ true → ⊥) → (x y z : A) → cond b x (cond c y z) ≡ cond c y (cond b x z)
swapped true true never x y z = absurd (never refl refl)
swapped true false never x y z = refl
swapped false true never x y z = refl
swapped false false never x y z = refl

-- a value that is put is found under its key, and those of others as before
pub put_value : (key at : List ℕ) (value : Json) (kept : List Kept) → value_of key (put at value kept) ≡ cond (bytes_eq key at) (Some value) (value_of key kept)
put_value key at value [] = refl
put_value key at value (k ∷ ks) =
    elim (bytes_eq at k.key) as (λ b. bytes_eq at k.key ≡ b
    → value_of key (cond b (record { key = k.key; value = value } ∷ ks) (k ∷ put at value ks)) ≡ cond (bytes_eq key at) (Some value) (cond (bytes_eq key k.key) (Some k.value) (value_of key ks))) [
      | true ↦ λ is.
          ap (λ name. cond (bytes_eq key name) (Some value) (value_of key ks)) (sym ((bytes_eq-Decides at k.key).0 is))
          ∙ here (bytes_eq key at) (bytes_eq key k.key) (ap (bytes_eq key) ((bytes_eq-Decides at k.key).0 is)) (Some value) (Some k.value) (value_of key ks)
      | false ↦ λ apart.
          ap (cond (bytes_eq key k.key) (Some k.value)) (put_value key at value ks)
          ∙ swapped (bytes_eq key k.key) (bytes_eq key at) (λ one other. both_apart key at k.key other one apart) (Some k.value) (Some value) (value_of key ks)
    ] refl
  where
    here : (b c : Bool) → b ≡ c → (x y z : Option Json) → cond b x z ≡ cond b x (cond c y z)
    here true c e x y z = refl
    here false c e x y z = ap (λ d. cond d y z) e

pub put_alike : (at : List ℕ) (value : Json) (xs ys : List Kept) → AlikeKept xs ys → AlikeKept (put at value xs) (put at value ys)
put_alike at value xs ys same key =
    put_value key at value xs ∙ ap (cond (bytes_eq key at) (Some value)) (same key) ∙ sym (put_value key at value ys)

pub stored_alike : (r : Record) (xs ys : List Kept) → AlikeKept xs ys → AlikeKept (stored xs r) (stored ys r)
stored_alike (store at value) xs ys same = put_alike at value xs ys same
stored_alike (checks team slot locations) xs ys same = same
stored_alike (release team slot) xs ys same = same
stored_alike (collect team slot) xs ys same = same
stored_alike (status team slot number) xs ys same = same
stored_alike (hint h) xs ys same = same
stored_alike (hint_status team finder location number) xs ys same = same

pub all_alike : (rs : List Record) (xs ys : List Kept) → AlikeKept xs ys → AlikeKept (stored_all xs rs) (stored_all ys rs)
all_alike [] xs ys same = same
all_alike (r ∷ rs) xs ys same = all_alike rs (stored xs r) (stored ys r) (stored_alike r xs ys same)

-- ---- each key stands once

abbrev pub IsOnce : List Kept → Type 0
IsOnce [] = Unit {0}
IsOnce (k ∷ ks) = (value_of k.key ks ≡ None) × IsOnce ks

pub put_once : (at : List ℕ) (value : Json) (kept : List Kept) → IsOnce kept → IsOnce (put at value kept)
put_once at value [] once = (refl, tt)
put_once at value (k ∷ ks) once =
    elim (bytes_eq at k.key) as (λ b. bytes_eq at k.key ≡ b → IsOnce (cond b (record { key = k.key; value = value } ∷ ks) (k ∷ put at value ks))) [
      | true ↦ λ is. once
      | false ↦ λ apart. (
        put_value k.key at value ks ∙ ap (λ b. cond b (Some value) (value_of k.key ks)) (turned at k.key apart) ∙ once.0,
        put_once at value ks once.1,
      )
    ] refl

stored_once : (r : Record) (kept : List Kept) → IsOnce kept → IsOnce (stored kept r)
stored_once (store at value) kept once = put_once at value kept once
stored_once (checks team slot locations) kept once = once
stored_once (release team slot) kept once = once
stored_once (collect team slot) kept once = once
stored_once (status team slot number) kept once = once
stored_once (hint h) kept once = once
stored_once (hint_status team finder location number) kept once = once

pub all_once : (rs : List Record) (kept : List Kept) → IsOnce kept → IsOnce (stored_all kept rs)
all_once [] kept once = once
all_once (r ∷ rs) kept once = all_once rs (stored kept r) (stored_once r kept once)

-- ---- sums over them

-- what each entry weighs, together
abbrev pub weight : (List ℕ → Json → ℕ) → List Kept → ℕ
weight w [] = 0
weight w (k ∷ ks) = w k.key k.value + weight w ks

-- those without a key
abbrev pub lacking : List ℕ → List Kept → List Kept
lacking key [] = []
lacking key (k ∷ ks) = cond (bytes_eq key k.key) ks (k ∷ lacking key ks)

lacking_weight : (w : List ℕ → Json → ℕ) (key : List ℕ) (value : Json) (kept : List Kept) → value_of key kept ≡ Some value → weight w kept ≡ w key value + weight w (lacking key kept)
lacking_weight w key value [] found = absurd (true≢false (ap is_some (sym found)))
lacking_weight w key value (k ∷ ks) found =
    elim (bytes_eq key k.key) as (λ b. bytes_eq key k.key ≡ b → cond b (Some k.value) (value_of key ks) ≡ Some value → w k.key k.value + weight w ks ≡ w key value + weight w (cond b ks (k ∷ lacking key ks))) [
      | true ↦ λ is e. ap₂ (λ name v. w name v + weight w ks) (sym ((bytes_eq-Decides key k.key).0 is)) (inside k.value value e)
      | false ↦ λ apart e. let rest = lacking_weight w key value ks e in (omega (arith, rest))
    ] refl found
  where
    inside : (x y : Json) → Some x ≡ Some y → x ≡ y
    inside x y e = ap (of x) e
      where
        of : Json → Option Json → Json
        of fallback None = fallback
        of fallback (Some j) = j

none_either : (b : Bool) → cond {A = Option Json} b None None ≡ None
none_either true = refl
none_either false = refl

lacking_value : (key other : List ℕ) (kept : List Kept) → IsOnce kept → value_of other (lacking key kept) ≡ cond (bytes_eq other key) None (value_of other kept)
lacking_value key other [] once = sym (none_either (bytes_eq other key))
lacking_value key other (k ∷ ks) once =
    elim (bytes_eq key k.key) as (λ b. bytes_eq key k.key ≡ b → value_of other (cond b ks (k ∷ lacking key ks)) ≡ cond (bytes_eq other key) None (cond (bytes_eq other k.key) (Some k.value) (value_of other ks))) [
      | true ↦ λ is. gone (bytes_eq other key) refl (bytes_eq other k.key) (ap (bytes_eq other) ((bytes_eq-Decides key k.key).0 is)) ((bytes_eq-Decides key k.key).0 is)
      | false ↦ λ apart. ap (cond (bytes_eq other k.key) (Some k.value)) (lacking_value key other ks once.1) ∙ swapped (bytes_eq other k.key) (bytes_eq other key) (λ one is. both_apart other key k.key is one apart) (Some k.value) None (value_of other ks)
    ] refl
  where
    gone : (b : Bool) → bytes_eq other key ≡ b → (c : Bool) → bytes_eq other key ≡ c → key ≡ k.key → value_of other ks ≡ cond b None (cond c (Some k.value) (value_of other ks))
    gone true is c e same = ap (λ name. value_of name ks) ((bytes_eq-Decides other key).0 is ∙ same) ∙ once.0
    gone false is true e same = absurd (true≢false (sym e ∙ is))
    gone false is false e same = refl

lacking_once : (key : List ℕ) (kept : List Kept) → IsOnce kept → IsOnce (lacking key kept)
lacking_once key [] once = tt
lacking_once key (k ∷ ks) once =
    elim (bytes_eq key k.key) as (λ b. IsOnce (cond b ks (k ∷ lacking key ks))) [
      | true ↦ once.1
      | false ↦ (
        lacking_value key k.key ks once.1 ∙ ap (cond (bytes_eq k.key key) None) once.0 ∙ none_either (bytes_eq k.key key),
        lacking_once key ks once.1,
      )
    ]

-- those with the same values weigh the same
pub alike_weight : (w : List ℕ → Json → ℕ) (xs ys : List Kept) → IsOnce xs → IsOnce ys → AlikeKept xs ys → weight w xs ≡ weight w ys
alike_weight w [] [] one other same = refl
alike_weight w [] (y ∷ ys) one other same =
    absurd (true≢false (sym (ap is_some (same y.key ∙ cond-true (bytes_eq y.key y.key) (Some y.value) (value_of y.key ys) ((bytes_eq-Decides y.key y.key).1 refl)))))
alike_weight w (x ∷ xs) ys one other same =
    let found : value_of x.key ys ≡ Some x.value = sym (same x.key) ∙ cond-true (bytes_eq x.key x.key) (Some x.value) (value_of x.key xs) ((bytes_eq-Decides x.key x.key).1 refl) in
    ap (λ n. w x.key x.value + n) (alike_weight w xs (lacking x.key ys) one.1 (lacking_once x.key ys other) (λ key. rest key (bytes_eq key x.key) refl))
    ∙ sym (lacking_weight w x.key x.value ys found)
  where
    rest : (key : List ℕ) (b : Bool) → bytes_eq key x.key ≡ b → value_of key xs ≡ value_of key (lacking x.key ys)
    rest key true is =
        ap (λ name. value_of name xs) ((bytes_eq-Decides key x.key).0 is) ∙ one.0
        ∙ sym (lacking_value x.key key ys other ∙ ap (λ b. cond b None (value_of key ys)) is)
    rest key false apart =
        sym (cond-false (bytes_eq key x.key) (Some x.value) (value_of key xs) apart) ∙ same key
        ∙ sym (lacking_value x.key key ys other ∙ ap (λ b. cond b None (value_of key ys)) apart)

bytes_weigh : (kept : List Kept) → bytes_kept kept ≡ weight (λ key value. length key + length (spelling value)) kept
bytes_weigh [] = refl
bytes_weigh (k ∷ ks) = ap (λ n. length k.key + length (spelling k.value) + n) (bytes_weigh ks)

count_weighs : (kept : List Kept) → length kept ≡ weight (λ key value. 1) kept
count_weighs [] = refl
count_weighs (k ∷ ks) = let rest = count_weighs ks in (omega (arith, rest))

pub alike_bytes : (xs ys : List Kept) → IsOnce xs → IsOnce ys → AlikeKept xs ys → bytes_kept xs ≡ bytes_kept ys
alike_bytes xs ys one other same = bytes_weigh xs ∙ alike_weight (λ key value. length key + length (spelling value)) xs ys one other same ∙ sym (bytes_weigh ys)

pub alike_count : (xs ys : List Kept) → IsOnce xs → IsOnce ys → AlikeKept xs ys → length xs ≡ length ys
alike_count xs ys one other same = count_weighs xs ∙ alike_weight (λ key value. 1) xs ys one other same ∙ sym (count_weighs ys)
