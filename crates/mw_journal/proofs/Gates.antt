-- What the bytes from a gate on say of a file.
use Rattle.std.proofs.Common.{◌≡◌, ◌≢◌, ◌<◌, ◌≤◌, ◌^◌, inl, inr, ℕ, suc, ◌+◌, ◌-◌, List, [], ◌∷◌, ◌++◌, length, get_or, take, drop, refl, sym, ap, subst, ◌∙◌, length-append, length-drop, arith, Some, None, Bool, true, false}
use Rattle.std.specs.Prelude.{Result, Ok, Err, nat_le, nat_lt, ◌==◌, if◌then◌else◌}
use Rattle.std.specs.Int.{w32, to_be_bytes, from_be_bytes}
use Rattle.std.proofs.lemmas.Nat.{be_bytes_4, from_be_bytes-to_be_bytes_4}
use Rattle.std.proofs.lemmas.List.{take_at}
use Rattle.std.proofs.lemmas.Bool.{cases_lt, cases_eq}
use Rattle.std.proofs.lemmas.Bool.Decides.{nat_tests}
use Rattle.mw_journal.specs.declared.gate.Gate.{Gate}
use Rattle.mw_journal.specs.declared.gate.Gate.TheVariants.{Shut, Open}
use Rattle.mw_journal.specs.Opening.{gate_in, batch_in, Sees}
use Rattle.mw_journal.specs.Refused.{wrong_at}
use Rattle.std.specs.declared.option.Option.{Option}
use Rattle.mw_disk.specs.Range.{GivesRange}
use Rattle.mw_journal.proofs.Lifts.{drop_drop, gives_front}

-- what a gate is, by the bytes from it on
abbrev SeesRest : List ℕ → Gate → Type 0
SeesRest rest (Shut gate) = (rest ≡ gate ∷ drop 1 rest) × (gate ≢ 1)
SeesRest rest (Open size) = (rest ≡ 1 ∷ to_be_bytes w32 size ++ drop 5 rest)

-- what the answer on the first five bytes says of all
abbrev Says : ℕ → List ℕ → Result Gate ℕ → Type 0
Says place rest (Ok gate) = SeesRest rest gate
Says place rest (Err at) = wrong_at place rest ≡ Some at

choose : (P : Result Gate ℕ → Type 0) (b : Bool) (x y : Result Gate ℕ) → (b ≡ true → P x) → (b ≡ false → P y)
    → P (if b then x else y)
choose P true x y on off = on refl
choose P false x y on off = off refl

pub far_test : (place : ℕ) → place < 2 ^ 30 → nat_le (2 ^ 30) place ≡ false
far_test place near = grind (arith, nat_tests)

-- an open gate with four bytes of a length behind it
pub wrong_batch : (place size : ℕ) (rest : List ℕ) → place < 2 ^ 30 → 4 ≤ length rest → from_be_bytes w32 (take 4 rest) ≡ size
    → wrong_at place (1 ∷ rest) ≡ (if size == 0 then Some (place + 1) else if nat_lt (length rest - 4) size then Some (place + 5) else None)
wrong_batch place size rest near long is =
    let far = far_test place near in
    let few : nat_lt (length rest) 4 ≡ false = grind (arith, nat_tests) in
    rw (far, few, is) refl

says_batch : (place : ℕ) (rest : List ℕ) → place < 2 ^ 30 → ((i : ℕ) → get_or (take 4 rest) i 0 < 256)
    → Says place (1 ∷ rest) (batch_in place (take 4 rest))
says_batch place [] near bytes = rw (far_test place near) refl
says_batch place (a ∷ []) near bytes = rw (far_test place near) refl
says_batch place (a ∷ b ∷ []) near bytes = rw (far_test place near) refl
says_batch place (a ∷ b ∷ c ∷ []) near bytes = rw (far_test place near) refl
says_batch place (a ∷ b ∷ c ∷ d ∷ more) near bytes =
    let size = from_be_bytes w32 (a ∷ b ∷ c ∷ d ∷ []) in
    let rest = a ∷ b ∷ c ∷ d ∷ more in
    let wrong = wrong_batch place size rest near (omega arith) refl in
    choose (Says place (1 ∷ rest)) (size == 0) (Err (place + 1)) (Ok (Open size))
    (λ none. wrong ∙ rw none refl)
    (λ some. ap (λ l. 1 ∷ l ++ more) (sym (be_bytes_4 (a ∷ b ∷ c ∷ d ∷ []) size refl bytes refl)))

says_gate : (place : ℕ) (rest : List ℕ) → ((i : ℕ) → get_or (take 5 rest) i 0 < 256)
    → Says place rest (gate_in place (take 5 rest))
says_gate place [] bytes = refl
says_gate place (g ∷ rest) bytes =
    elim (cases_lt place (2 ^ 30)) [
      | inl near ↦ elim (cases_eq g 1) [
        | inl open_gate ↦ opened near open_gate
        | inr shut ↦ closed near shut
      ]
      | inr far ↦ passed far
    ]
  where
    passed : 2 ^ 30 ≤ place → Says place (g ∷ rest) (gate_in place (take 5 (g ∷ rest)))
    passed far =
        let test : nat_le (2 ^ 30) place ≡ true = grind (arith, nat_tests) in
        let answer : gate_in place (take 5 (g ∷ rest)) ≡ Err place = rw test refl in
        let place_is : wrong_at place (g ∷ rest) ≡ Some place = rw test refl in
        subst (Says place (g ∷ rest)) (sym answer) place_is

    opened : place < 2 ^ 30 → g ≡ 1 → Says place (g ∷ rest) (gate_in place (take 5 (g ∷ rest)))
    opened near is =
        subst (λ n. Says place (n ∷ rest) (gate_in place (take 5 (n ∷ rest)))) (sym is)
        (let far = far_test place near in rw far (says_batch place rest near (λ i. bytes (suc i))))

    closed : place < 2 ^ 30 → g ≢ 1 → Says place (g ∷ rest) (gate_in place (take 5 (g ∷ rest)))
    closed near shut =
        let far = far_test place near in
        let test : (g == 1) ≡ false = grind (arith, nat_tests) in
        rw (far, test) (refl, shut)

seen_rest : (f : List ℕ) (place : ℕ) (gate : Gate) → SeesRest (drop place f) gate → Sees f place gate
seen_rest f place (Shut gate) sees = (sees.0 ∙ ap (λ l. gate ∷ l) (drop_drop place 1 f), sees.1)
seen_rest f place (Open size) sees = sees ∙ ap (λ l. (1 ∷ to_be_bytes w32 size) ++ l) (drop_drop place 5 f)

module _ (told : Option (List ℕ)) (f into head : List ℕ) (place count : ℕ) (is : told ≡ Some f)
    (gives : GivesRange told place count into) (five : length into ≡ 5) (front : head ≡ take count into)
    (bytes : (i : ℕ) → get_or head i 0 < 256) where
  first : head ≡ take 5 (drop place f)
  first = front ∙ gives_front told f into place count is gives ∙ ap (λ n. take n (drop place f)) five

  says : Says place (drop place f) (gate_in place head)
  says = subst (λ l. Says place (drop place f) (gate_in place l)) (sym first)
      (says_gate place (drop place f) (λ i. subst (λ l. get_or l i 0 < 256) first (bytes i)))

  pub seen : (gate : Gate) → Ok gate ≡ gate_in place head → Sees f place gate
  seen gate answer = seen_rest f place gate (subst (Says place (drop place f)) (sym answer) says)

  pub wrong : (at : ℕ) → Err at ≡ gate_in place head → wrong_at place (drop place f) ≡ Some at
  wrong at answer = subst (Says place (drop place f)) (sym answer) says

-- a body that doesn't end
pub body_wrong : (f : List ℕ) (place size : ℕ) → place < 2 ^ 30 → 1 ≤ size → size < 2 ^ 32 → Sees f place (Open size)
    → length f < place + 5 + size → wrong_at place (drop place f) ≡ Some (place + 5)
body_wrong f place size near some short sees ends =
    let bytes = to_be_bytes w32 size in
    let rest = bytes ++ drop (place + 5) f in
    let long : length rest ≡ 4 + length (drop (place + 5) f) = length-append bytes (drop (place + 5) f) in
    let back : from_be_bytes w32 (take 4 rest) ≡ size =
    ap (from_be_bytes w32) (take_at bytes (drop (place + 5) f) 4 refl) ∙ from_be_bytes-to_be_bytes_4 size short in
    let wrong = wrong_batch place size rest near (omega (arith, long)) back in
    let some_test : (size == 0) ≡ false = grind (arith, nat_tests) in
    let ends_test : nat_lt (length rest - 4) size ≡ true =
    (let few : length rest - 4 < size = omega (arith, long, length-drop (place + 5) f, ends, sees_long f place size sees) in grind (arith, nat_tests, few)) in
    ap (wrong_at place) sees ∙ wrong ∙ rw (some_test, ends_test) refl
  where
    sees_long : (l : List ℕ) (p n : ℕ) → Sees l p (Open n) → p + 5 ≤ length l
    sees_long l p n is = omega (arith, ap length is, length-drop p l, length-append (1 ∷ to_be_bytes w32 n) (drop (p + 5) l))
