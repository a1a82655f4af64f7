-- A field that is read is the field that was written, and what was written is read again.
use Rattle.std.proofs.Common.{◌≡◌, ℕ, suc, ◌+◌, ◌^◌, ◌<◌, ◌≤◌, Bool, true, false, cond, ltb, List, [], ◌∷◌, ◌++◌, length, get_or, take, drop, Option, Some, None, refl, sym, ap, subst, ◌∙◌, append_assoc, arith, inl, inr}
use Rattle.std.specs.Int.{Width, w16, w32, w64, byte_len, from_be_bytes, to_be_bytes}
use Rattle.std.proofs.lemmas.Bool.{cases_lt, ltb-false, le-ltb}
use Rattle.std.proofs.lemmas.List.{take_at, drop_at, take-append-drop, length-append, length-take, get_or-drop, get_or-take, get_or_past}
use Rattle.std.proofs.lemmas.Nat.{be_bytes_2, be_bytes_4, be_bytes_8, from_be_bytes-to_be_bytes_2, from_be_bytes-to_be_bytes_4, from_be_bytes-to_be_bytes_8}
use Rattle.mw_records.specs.Reading.{◌>>=◌, byte_at, number_at, passing}

-- ---- bytes

abbrev pub IsBytes : List ℕ → Type 0
IsBytes bytes = (i : ℕ) → get_or bytes i 0 < 256

pub IsBytes-drop : (n : ℕ) (bytes : List ℕ) → IsBytes bytes → IsBytes (drop n bytes)
IsBytes-drop n bytes h i = rw get_or-drop (h (n + i))

IsBytes-take : (n : ℕ) (bytes : List ℕ) → IsBytes bytes → IsBytes (take n bytes)
IsBytes-take n bytes h i =
    elim (cases_lt i n) [
      | inl lt ↦ rw (get_or-take n bytes i 0 lt) (h i)
      | inr le ↦ rw (get_or_past (take n bytes) i 0 (omega (arith, length-take n bytes))) (omega arith)
    ]

pub IsBytes-rest : (b : ℕ) (bytes : List ℕ) → IsBytes (b ∷ bytes) → IsBytes bytes
IsBytes-rest b bytes h i = h (suc i)

-- ---- steps that gave something

pub bind_some : {A B : Type 0} (r : Option A) (f : A → Option B) (y : B) → (r >>= f) ≡ Some y → (x : A) × (r ≡ Some x) × (f x ≡ Some y)
bind_some (Some x) f y e = (x, refl, e)
bind_some None f y e = absurd cc

pub guard_none : {A : Type 0} (b : Bool) (x y : A) → cond b None (Some x) ≡ Some y → (b ≡ false) × (x ≡ y)
guard_none true x y e = absurd cc
guard_none false x y e = (refl, cc)

pub guard_some : {A : Type 0} (b : Bool) (x y : A) → cond b (Some x) None ≡ Some y → (b ≡ true) × (x ≡ y)
guard_some true x y e = (refl, cc)
guard_some false x y e = absurd cc

abbrev there : {A : Type 0} → A → Option A
there x = Some x

pub some_is : {A : Type 0} (x y : A) → there x ≡ there y → x ≡ y
some_is x y e = cc

passing_some : {A : Type 0} (test : A → Bool) (r : Option (A × List ℕ)) (y : A × List ℕ) → passing test r ≡ Some y → (r ≡ Some y) × (test y.0 ≡ true)
passing_some test None y e = absurd cc
passing_some test (Some x) y e =
    let g = guard_some (test x.0) x y e in
    (ap (λ z. there z) g.1, subst (λ z. test z.0 ≡ true) g.1 g.0)

-- ---- fields

-- what a reader took from the front
pub record Takes (bytes text rest : List ℕ) : Type 0 where
  pub parts : bytes ≡ text ++ rest
  pub rest_fits : IsBytes rest

pub Takes-then : (a x b y c : List ℕ) → Takes a x b → Takes b y c → Takes a (x ++ y) c
Takes-then a x b y c p q = record { parts = p.parts ∙ ap (λ (t : List ℕ). x ++ t) q.parts ∙ sym (append_assoc x y c); rest_fits = q.rest_fits }

-- what is read is spelled so and fits, and what fits is read again, whatever follows it
pub record IsField {A : Type 0} (read : List ℕ → Option (A × List ℕ)) (spell : A → List ℕ) (Fits : A → Type 0) : Type 0 where
  pub takes : (bytes : List ℕ) (x : A × List ℕ) → IsBytes bytes → read bytes ≡ Some x → Takes bytes (spell x.0) x.1 × Fits x.0
  pub again : (a : A) (rest : List ℕ) → Fits a → read (spell a ++ rest) ≡ Some (a, rest)

-- the same field, whose range is said in other words
pub fits_as : {A : Type 0} {read : List ℕ → Option (A × List ℕ)} {spell : A → List ℕ} {F G : A → Type 0} → IsField read spell F → ((a : A) → F a → G a) → ((a : A) → G a → F a) → IsField read spell G
fits_as field out back = record {
  takes = λ bytes x fits e. let t = field.takes bytes x fits e in (t.0, out x.0 t.1);
  again = λ a rest h. field.again a rest (back a h);
}

-- a field that passes a test
pub passing_is : {A : Type 0} {read : List ℕ → Option (A × List ℕ)} {spell : A → List ℕ} {F : A → Type 0} → IsField read spell F → (test : A → Bool)
    → IsField (λ bytes. passing test (read bytes)) spell (λ a. F a × (test a ≡ true))
passing_is {A} {read} {spell} {F} field test = record {
  takes = λ bytes x fits e.
      let p = passing_some test (read bytes) x e in
      let t = field.takes bytes x fits p.0 in
      (t.0, (t.1, p.1));
  again = λ a rest h. ap (passing test) (field.again a rest h.0) ∙ rw h.1 refl;
}

-- a field seen as another type
pub seen_is : {A B : Type 0} {read : List ℕ → Option (A × List ℕ)} {spell : A → List ℕ} {F : A → Type 0} → IsField read spell F
    → (to : A → B) (from : B → A) (G : B → Type 0) → ((a : A) → F a → spell (from (to a)) ≡ spell a) → ((a : A) → F a → G (to a)) → ((b : B) → G b → F (from b)) → ((b : B) → G b → to (from b) ≡ b)
    → IsField (λ bytes. read bytes >>= λ x. Some (to x.0, x.1)) (λ b. spell (from b)) G
seen_is {A} {B} {read} {spell} {F} field to from G same out back round = record {
  takes = λ bytes y fits e.
      let s = bind_some (read bytes) (λ x. Some (to x.0, x.1)) y e in
      let t = field.takes bytes s.0 fits s.1 in
      let made : B × List ℕ = (to s.0.0, s.0.1) in
      subst (λ z. Takes bytes (spell (from z.0)) z.1 × G z.0) (some_is made y s.2) (subst (λ text. Takes bytes text s.0.1) (sym (same s.0.0 t.1)) t.0, out s.0.0 t.1);
  again = λ b rest h. ap (λ r. r >>= λ x. Some (to x.0, x.1)) (field.again (from b) rest (back b h)) ∙ ap (λ z. Some (z, rest)) (round b h);
}

-- ---- two fields, one after the other

-- what is made of both, and what follows them
abbrev pub made_of : {A B C : Type 0} → (A → B → C) → A → B × List ℕ → Option (C × List ℕ)
made_of make a b = Some (make a b.0, b.1)

abbrev pub then_second : {A B C : Type 0} → (List ℕ → Option (B × List ℕ)) → (A → B → C) → A × List ℕ → Option (C × List ℕ)
then_second read2 make a = read2 a.1 >>= made_of make a.0

abbrev pub both_at : {A B C : Type 0} → (List ℕ → Option (A × List ℕ)) → (List ℕ → Option (B × List ℕ)) → (A → B → C) → List ℕ → Option (C × List ℕ)
both_at read read2 make bytes = read bytes >>= then_second read2 make

abbrev pub paired : {A B : Type 0} → A → B → A × B
paired a b = (a, b)

module _ {A B : Type 0} {read : List ℕ → Option (A × List ℕ)} {spell : A → List ℕ} {F : A → Type 0} {read2 : List ℕ → Option (B × List ℕ)} {spell2 : B → List ℕ} {G : B → Type 0} (first : IsField read spell F) (second : IsField read2 spell2 G) where
  pub two_take : {C : Type 0} (make : A → B → C) (bytes : List ℕ) (y : C × List ℕ) → IsBytes bytes → both_at read read2 make bytes ≡ Some y
      → (a : A) × (b : B) × (make a b ≡ y.0) × Takes bytes (spell a ++ spell2 b) y.1 × F a × G b
  two_take {C} make bytes y fits e =
      let s = bind_some (read bytes) (then_second read2 make) y e in
      let t = bind_some (read2 s.0.1) (made_of make s.0.0) y s.2 in
      let p = first.takes bytes s.0 fits s.1 in
      let q = second.takes s.0.1 t.0 p.0.rest_fits t.1 in
      let both = Takes-then bytes (spell s.0.0) s.0.1 (spell2 t.0.0) t.0.1 p.0 q.0 in
      let made : C × List ℕ = (make s.0.0 t.0.0, t.0.1) in
      let is = some_is made y t.2 in
      (s.0.0, t.0.0, ap (λ (z : C × List ℕ). z.0) is, subst (λ rest. Takes bytes (spell s.0.0 ++ spell2 t.0.0) rest) (ap (λ (z : C × List ℕ). z.1) is) both, p.1, q.1)

  pub two_again : {C : Type 0} (make : A → B → C) (a : A) (b : B) (rest : List ℕ) → F a → G b → both_at read read2 make ((spell a ++ spell2 b) ++ rest) ≡ made_of make a (b, rest)
  two_again {C} make a b rest h k =
      ap (both_at read read2 make) (append_assoc (spell a) (spell2 b) rest)
      ∙ ap (λ (r : Option (A × List ℕ)). r >>= then_second read2 make) (first.again a (spell2 b ++ rest) h)
      ∙ ap (λ (r : Option (B × List ℕ)). r >>= made_of make a) (second.again b rest k)

  abbrev pair_spelling : A × B → List ℕ
  pair_spelling p = spell p.0 ++ spell2 p.1

  abbrev PairFits : A × B → Type 0
  PairFits p = F p.0 × G p.1

  pub pair_is : IsField (both_at read read2 paired) pair_spelling PairFits
  pair_is = record {
    takes = λ bytes y fits e.
        let t = two_take paired bytes y fits e in
        subst (λ (p : A × B). Takes bytes (pair_spelling p) y.1 × PairFits p) t.2 (t.3, (t.4, t.5));
    again = λ p rest h. two_again paired p.0 p.1 rest h.0 h.1;
  }

-- ---- numbers

pub byte_is : IsField byte_at (λ n. n ∷ []) (λ n. n < 256)
byte_is = record { takes = byte_takes; again = λ n rest h. refl } where
  byte_takes : (bytes : List ℕ) (x : ℕ × List ℕ) → IsBytes bytes → byte_at bytes ≡ Some x → Takes bytes (x.0 ∷ []) x.1 × (x.0 < 256)
  byte_takes [] x fits e = absurd cc
  byte_takes (b ∷ rest) x fits e =
      subst (λ y. Takes (b ∷ rest) (y.0 ∷ []) y.1 × (y.0 < 256)) (some_is (b, rest) x e) (record { parts = refl; rest_fits = IsBytes-rest b rest fits }, fits 0)

record IsWide (w : Width) (limit : ℕ) : Type 0 where
  pub len : (n : ℕ) → length (to_be_bytes w n) ≡ byte_len w
  pub back : (bytes : List ℕ) → length bytes ≡ byte_len w → IsBytes bytes → to_be_bytes w (from_be_bytes w bytes) ≡ bytes
  pub again : (n : ℕ) → n < limit → from_be_bytes w (to_be_bytes w n) ≡ n
  pub below : (bytes : List ℕ) → IsBytes bytes → from_be_bytes w bytes < limit

wide16 : IsWide w16 (2 ^ 16)
wide16 = record {
  len = λ n. refl;
  back = λ bytes len fits. be_bytes_2 bytes _ len fits refl;
  again = λ n lt. from_be_bytes-to_be_bytes_2 n lt;
  below = λ bytes fits. omega (arith, fits 0, fits 1);
}

wide32 : IsWide w32 (2 ^ 32)
wide32 = record {
  len = λ n. refl;
  back = λ bytes len fits. be_bytes_4 bytes _ len fits refl;
  again = λ n lt. from_be_bytes-to_be_bytes_4 n lt;
  below = λ bytes fits. omega (arith, fits 0, fits 1, fits 2, fits 3);
}

wide64 : IsWide w64 (2 ^ 64)
wide64 = record {
  len = λ n. refl;
  back = λ bytes len fits. be_bytes_8 bytes _ len fits refl;
  again = λ n lt. from_be_bytes-to_be_bytes_8 n lt;
  below = λ bytes fits. omega (arith, fits 0, fits 1, fits 2, fits 3, fits 4, fits 5, fits 6, fits 7);
}

number_takes : (w : Width) (limit : ℕ) (wide : IsWide w limit) (bytes : List ℕ) (x : ℕ × List ℕ) → IsBytes bytes → number_at w bytes ≡ Some x → Takes bytes (to_be_bytes w x.0) x.1 × (x.0 < limit)
number_takes w limit wide bytes x fits e =
    let g = guard_none (ltb (length bytes) (byte_len w)) (from_be_bytes w (take (byte_len w) bytes), drop (byte_len w) bytes) x e in
    let long : byte_len w ≤ length bytes = ltb-false _ _ g.0 in
    let n-is : from_be_bytes w (take (byte_len w) bytes) ≡ x.0 = ap (λ (p : ℕ × List ℕ). p.0) g.1 in
    let rest-is : drop (byte_len w) bytes ≡ x.1 = ap (λ (p : ℕ × List ℕ). p.1) g.1 in
    let front : to_be_bytes w x.0 ≡ take (byte_len w) bytes = rw (← n-is) (wide.back (take (byte_len w) bytes) (omega (arith, length-take (byte_len w) bytes)) (IsBytes-take (byte_len w) bytes fits)) in
    (record { parts = rw (front, ← rest-is) (sym (take-append-drop (byte_len w) bytes)); rest_fits = rw (← rest-is) (IsBytes-drop (byte_len w) bytes fits) }, rw (← n-is) (wide.below (take (byte_len w) bytes) (IsBytes-take (byte_len w) bytes fits)))

number_again : (w : Width) (limit : ℕ) (wide : IsWide w limit) (n : ℕ) (rest : List ℕ) → n < limit → number_at w (to_be_bytes w n ++ rest) ≡ Some (n, rest)
number_again w limit wide n rest lt =
    let len = wide.len n in
    let long : ltb (length (to_be_bytes w n ++ rest)) (byte_len w) ≡ false = le-ltb _ _ (omega (arith, length-append (to_be_bytes w n) rest)) in
    rw (long, take_at (to_be_bytes w n) rest (byte_len w) len, drop_at (to_be_bytes w n) rest (byte_len w) len, wide.again n lt) refl

number_is : (w : Width) (limit : ℕ) → IsWide w limit → IsField (number_at w) (to_be_bytes w) (λ n. n < limit)
number_is w limit wide = record { takes = number_takes w limit wide; again = number_again w limit wide }

pub two_bytes_is : IsField (number_at w16) (to_be_bytes w16) (λ n. n < 2 ^ 16)
two_bytes_is = number_is w16 (2 ^ 16) wide16

pub four_bytes_is : IsField (number_at w32) (to_be_bytes w32) (λ n. n < 2 ^ 32)
four_bytes_is = number_is w32 (2 ^ 32) wide32

pub eight_bytes_is : IsField (number_at w64) (to_be_bytes w64) (λ n. n < 2 ^ 64)
eight_bytes_is = number_is w64 (2 ^ 64) wide64
