-- What the bytes that were read say of a file.
use Rattle.std.proofs.Common.{◌≡◌, ◌<◌, ◌≤◌, inl, inr, ⊎_elim, ℕ, zero, suc, ◌+◌, ◌-◌, min, List, [], ◌∷◌, ◌++◌, length, get_or, take, drop, refl, sym, ap, subst, ◌∙◌, append_assoc, length-append, length-take, length-drop, take-append-drop, arith, Some}
use Rattle.std.proofs.lemmas.List.{append-nil, take_min, get_or-take, drop-take}
use Rattle.std.specs.declared.option.Option.{Option}
use Rattle.mw_disk.specs.Range.{GivesRange}
use Rattle.mw_journal.specs.Image.{magic, header}
use Rattle.mw_journal.specs.Opening.{Reaches}
use Rattle.mw_journal.specs.Refused.{IsBadHeader, IsOtherSeed}

-- a read of a disk that tells its bytes
pub gives_told : (told : Option (List ℕ)) (f into : List ℕ) (at count : ℕ) → told ≡ Some f → GivesRange told at count into
    → (count ≡ min (length into) (length f - at)) × (take count into ≡ take count (drop at f))
gives_told told f into at count is gives = subst (λ o. GivesRange o at count into) is gives

-- is the front of what stands there
pub gives_front : (told : Option (List ℕ)) (f into : List ℕ) (at count : ℕ) → told ≡ Some f → GivesRange told at count into
    → take count into ≡ take (length into) (drop at f)
gives_front told f into at count is gives =
    let g = gives_told told f into at count is gives in
    let least : count ≡ min (length into) (length (drop at f)) = g.0 ∙ ap (λ n. min (length into) n) (sym (length-drop at f)) in
    g.1 ∙ ap (λ n. take n (drop at f)) least ∙ take_min (length into) (drop at f)

pub take_front : (m n : ℕ) (xs : List ℕ) → m ≤ n → take m (take n xs) ≡ take m xs
take_front zero n xs le = refl
take_front (suc m) zero xs le = absurd (omega arith)
take_front (suc m) (suc n) [] le = refl
take_front (suc m) (suc n) (x ∷ xs) le = ap (λ l. x ∷ l) (take_front m n xs (omega arith))

pub drop_drop : (m n : ℕ) (xs : List ℕ) → drop n (drop m xs) ≡ drop (m + n) xs
drop_drop zero n xs = ap (λ k. drop k xs) (let z : n ≡ zero + n = omega arith in z)
drop_drop (suc m) n [] = drop_none n ∙ sym (drop_none (suc m + n))
  where
    drop_none : (k : ℕ) → drop k (let none : List ℕ = [] in none) ≡ []
    drop_none zero = refl
    drop_none (suc k) = refl
drop_drop (suc m) n (x ∷ xs) = drop_drop m n xs ∙ ap (λ k. drop k (x ∷ xs)) (let s : suc (m + n) ≡ suc m + n = omega arith in s)

take_none : (n : ℕ) → take n (let none : List ℕ = [] in none) ≡ []
take_none zero = refl
take_none (suc n) = refl

pub take_more_drop : (m n : ℕ) (xs : List ℕ) → take (m + n) xs ≡ take m xs ++ take n (drop m xs)
take_more_drop zero n xs = ap (λ k. take k xs) (let z : zero + n ≡ n = omega arith in z)
take_more_drop (suc m) n [] = take_none (suc m + n) ∙ sym (take_none n)
take_more_drop (suc m) n (x ∷ xs) = ap (λ k. take k (x ∷ xs)) (let s : suc m + n ≡ suc (m + n) = omega arith in s) ∙ ap (λ l. x ∷ l) (take_more_drop m n xs)

module _ (f head digest : List ℕ) (is : head ≡ take 40 f) where
  pub header_there : head ≡ header digest → length digest ≡ 32 → Reaches f digest [] 40
  header_there right size = (
    [],
    record {
      layout = sym (take-append-drop 40 f) ∙ ap (λ l. l ++ drop 40 f) (sym is ∙ right ∙ sym (append-nil (header digest)));
      place_is = omega (arith, size, ap length (append-nil (header digest)), length-append magic digest);
      digest_size = size;
      laid = tt;
    },
    refl,
  )

  long : length head ≡ min 40 (length f)
  long = ap length is ∙ length-take 40 f

  pub header_bad : (at : ℕ) → IsBadHeader head at → IsBadHeader f at
  header_bad at bad = record {
    within = bad.within;
    before = sym (take_front (min at 8) 40 f (omega arith)) ∙ ap (take (min at 8)) (sym is) ∙ bad.before;
    bad = ⊎_elim (λ short. inl (omega (arith, short, long, bad.within)))
        (λ other. inr (other.0, omega (arith, other.1, long), λ same. other.2 (ap (λ l. get_or l at 0) is ∙ get_or-take 40 f at 0 (omega (arith, bad.within)) ∙ same))) bad.bad;
  }

  pub header_other : (found : List ℕ) → IsOtherSeed head digest found → IsOtherSeed f digest found
  header_other found other = record {
    whole = omega (arith, other.whole, long);
    first = sym (take_front 8 40 f (omega arith)) ∙ ap (take 8) (sym is) ∙ other.first;
    found_is = other.found_is ∙ ap (λ l. take 32 (drop 8 l)) is ∙ back;
    other = other.other;
  }
    where
      back : take 32 (drop 8 (take 40 f)) ≡ take 32 (drop 8 f)
      back = ap (take 32) (drop-take 8 32 f) ∙ take_front 32 32 (drop 8 f) (omega arith)

-- a further part of a body
pub body_more : (f text_0 text_1 text_2 : List ℕ) (at done count read room : ℕ) → length (take done (drop at f)) ≡ done
    → text_1 ≡ text_0 ++ take done (drop at f) → read ≡ min room (length f - (at + done)) → room ≡ count → count ≤ read
    → text_2 ≡ text_1 ++ take read (drop (at + done) f)
    → (length (take (done + count) (drop at f)) ≡ done + count) × (text_2 ≡ text_0 ++ take (done + count) (drop at f))
body_more f text_0 text_1 text_2 at done count read room whole so_far reads is all more =
    let same : read ≡ count = omega (arith, reads, is, all) in
    let joined : take (done + count) (drop at f) ≡ take done (drop at f) ++ take count (drop (at + done) f) =
    take_more_drop done count (drop at f) ∙ ap (λ l. take done (drop at f) ++ take count l) (drop_drop at done f) in (
      omega (
        arith,
        ap length joined,
        length-append (take done (drop at f)) (take count (drop (at + done) f)),
        whole,
        length-take count (drop (at + done) f),
        length-drop (at + done) f,
        reads,
        is,
        all,
      ),
      more ∙ ap (λ n. text_1 ++ take n (drop (at + done) f)) same
          ∙ ap (λ l. l ++ take count (drop (at + done) f)) so_far
          ∙ append_assoc text_0 (take done (drop at f)) (take count (drop (at + done) f))
          ∙ ap (λ l. text_0 ++ l) (sym joined),
    )

-- a file of so few bytes from a place on
pub body_short : (f : List ℕ) (at done count read room size : ℕ) → read ≡ min room (length f - (at + done)) → room ≡ count
    → read < count → done + count ≤ size → length f < at + size
body_short f at done count read room size reads is few within = omega (arith, reads, is, few, within)
