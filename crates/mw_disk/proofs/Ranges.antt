-- Bytes that were written at a place.
use Rattle.std.proofs.Common.{◌≡◌, ◌<◌, ◌≤◌, ℕ, zero, suc, ◌+◌, ◌-◌, List, [], ◌∷◌, ◌++◌, length, take, drop, refl, sym, ap, subst, ◌∙◌, append_assoc, zero-add, suc-add, length-append, length-take, length-drop, le_of_eq, arith, IsTrue}
use Rattle.std.specs.Prelude.{replicate}
use Rattle.std.proofs.lemmas.Bool.{and_parts}
use Rattle.std.proofs.lemmas.Slice.{take-put_mid_below}
use Rattle.std.proofs.lemmas.Slice.Eq.{bytes_eq-Decides}
use borrow.Rule.Slice.PartMut.{put_mid, post_of}
use Rattle.std.proofs.lemmas.List.{append-nil, take_all, drop_all, take_at, drop_at, drop-drop, take-append-le, take-replicate, length-replicate}
use Rattle.mw_disk.specs.Range.{written}
use Rattle.mw_disk.specs.FileLogs.{laid, is_read}

-- so many zeros
abbrev zeros : ℕ → List ℕ
zeros n = replicate n 0

length-zeros : (n : ℕ) → length (zeros n) ≡ n
length-zeros n = let zero_byte : ℕ = 0 in length-replicate n zero_byte

-- where the place is within the bytes there is no gap
pub no_gap : (at : ℕ) (bytes : List ℕ) → at ≤ length bytes → zeros (at - length bytes) ≡ []
no_gap at bytes within = let none : at - length bytes ≡ 0 = omega arith in ap zeros none

pub within_written : (at : ℕ) (put bytes : List ℕ) → at ≤ length bytes
    → take at bytes ++ put ++ drop (at + length put) bytes ≡ written at put bytes
within_written at put bytes within =
    rw (no_gap at bytes within, append-nil (take at bytes)) refl

take_none : (n : ℕ) → take n (let none : List ℕ = [] in none) ≡ []
take_none zero = refl
take_none (suc n) = refl

-- the front of bytes that were lengthened with zeros
take_grown : (at : ℕ) (bytes : List ℕ) (more : ℕ) → at ≤ length bytes + more
    → take at (bytes ++ zeros more) ≡ take at bytes ++ zeros (at - length bytes)
take_grown at [] more within =
    let few : at ≤ more = omega arith in
    let all : at - length (let none : List ℕ = [] in none) ≡ at = omega arith in
    take-replicate at more 0 few ∙ sym (rw (take_none at, all) refl)
take_grown zero (x ∷ bytes) more within =
    let none : zero - length (x ∷ bytes) ≡ 0 = omega arith in sym (ap zeros none)
take_grown (suc at) (x ∷ bytes) more within =
    let same : suc at - length (x ∷ bytes) ≡ at - length bytes = omega arith in
    ap (λ l. x ∷ l) (take_grown at bytes more (omega arith)) ∙ sym (ap (λ n. x ∷ take at bytes ++ zeros n) same)

-- bytes that were first lengthened up to the end of the range
pub grown_written : (at : ℕ) (put bytes grown : List ℕ) → length bytes < at + length put
    → grown ≡ take (at + length put) bytes ++ zeros (at + length put - length bytes)
    → take at grown ++ put ++ drop (at + length put) grown ≡ written at put bytes
grown_written at put bytes grown past is =
    let end = at + length put in
    let whole : take end bytes ≡ bytes = take_all end bytes (omega arith) in
    let longer : grown ≡ bytes ++ zeros (end - length bytes) = is ∙ ap (λ l. l ++ zeros (end - length bytes)) whole in
    let size : length grown ≤ end = omega (arith, ap length longer, length-append bytes (zeros (end - length bytes)), length-zeros (end - length bytes)) in
    let front : take at grown ≡ take at bytes ++ zeros (at - length bytes) = ap (take at) longer ∙ take_grown at bytes (end - length bytes) (omega arith) in
    let back : drop end grown ≡ drop end bytes = drop_all end grown size ∙ sym (drop_all end bytes (omega arith)) in
    (λ i. front i ++ put ++ back i)

take-empty : (n : ℕ) → take n (let none : List ℕ = [] in none) ≡ []
take-empty zero = refl
take-empty (suc n) = refl

-- a front, and one of the rest
pub take-take_drop : (i n : ℕ) (bs : List ℕ) → take i bs ++ take n (drop i bs) ≡ take (i + n) bs
take-take_drop zero n bs = ap (λ k. take k bs) (sym (zero-add n))
take-take_drop (suc i) n [] = take-empty n ∙ sym (take-empty (suc i + n))
take-take_drop (suc i) n (x ∷ xs) = ap (λ l. x ∷ l) (take-take_drop i n xs) ∙ sym (ap (λ k. take k (x ∷ xs)) (suc-add i n))

-- the rest from a place, as a slice up to the end
abbrev pub rest_from : ℕ → List ℕ → List ℕ
rest_from i bs = take (length bs - i) (drop i bs)

pub rest-drop : (i : ℕ) (bs : List ℕ) → rest_from i bs ≡ drop i bs
rest-drop i bs = take_all (length bs - i) (drop i bs) (le_of_eq (length-drop i bs))

-- what is written of the rest stays within the whole
pub within-rest : (i n : ℕ) (bs : List ℕ) → i ≤ length bs → n ≤ length (rest_from i bs) → i + n ≤ length bs
within-rest i n bs h k = let fits : n ≤ length bs - i = subst (λ m. n ≤ m) (ap length (rest-drop i bs) ∙ length-drop i bs) k in omega arith

-- a write behind another one
written_then : (at : ℕ) (xs ys bytes : List ℕ) → written (at + length xs) ys (written at xs bytes) ≡ written at (xs ++ ys) bytes
written_then at xs ys bytes =
    let n = at + length xs in
    let front = take at bytes ++ zeros (at - length bytes) in
    let back = drop n bytes in
    let size : length (front ++ xs) ≡ n =
    omega (arith, length-append front xs, length-append (take at bytes) (zeros (at - length bytes)), length-take at bytes, length-zeros (at - length bytes)) in
    let first : take n (written at xs bytes) ≡ front ++ xs = take_at (front ++ xs) back n size in
    let none : zeros (n - length (written at xs bytes)) ≡ [] =
    no_gap n (written at xs bytes) (omega (arith, size, length-append (front ++ xs) back)) in
    let last : drop (n + length ys) (written at xs bytes) ≡ drop (n + length ys) bytes =
    sym (drop-drop (length ys) n (written at xs bytes)) ∙ ap (drop (length ys)) (drop_at (front ++ xs) back n size)
    ∙ drop-drop (length ys) n bytes in
    let end : n + length ys ≡ at + length (xs ++ ys) = omega (arith, length-append xs ys) in
    (λ i. first i ++ none i ++ ys ++ last i)
    ∙ ap (λ l. l ++ ys ++ drop (n + length ys) bytes) (append-nil (front ++ xs))
    ∙ ap (λ l. l ++ drop (n + length ys) bytes) (append_assoc front xs ys)
    ∙ ap (λ k. front ++ (xs ++ ys) ++ drop k bytes) end

pub laid_then : (at : ℕ) (xs ys bytes : List ℕ) → laid (at + length xs) ys (laid at xs bytes) ≡ laid at (xs ++ ys) bytes
laid_then at [] ys bytes = let none : at + length (let l : List ℕ = [] in l) ≡ at = omega arith in ap (λ k. laid k ys bytes) none
laid_then at (x ∷ xs) [] bytes = ap (λ l. laid at l bytes) (sym (append-nil (x ∷ xs)))
laid_then at (x ∷ xs) (y ∷ ys) bytes = written_then at (x ∷ xs) (y ∷ ys) bytes

-- a further part of the bytes is written
pub laid_more : (at done count : ℕ) (put bytes : List ℕ) → done ≤ length put
    → laid (at + done) (take count (rest_from done put)) (laid at (take done put) bytes) ≡ laid at (take (done + count) put) bytes
laid_more at done count put bytes within =
    let size : length (take done put) ≡ done = omega (arith, length-take done put) in
    ap (λ k. laid (at + k) (take count (rest_from done put)) (laid at (take done put) bytes)) (sym size)
    ∙ laid_then at (take done put) (take count (rest_from done put)) bytes
    ∙ ap (λ l. laid at (take done put ++ take count l) bytes) (rest-drop done put)
    ∙ ap (λ l. laid at l bytes) (take-take_drop done count put)

-- a further part of the bytes is read
pub read_more : (at done count room : ℕ) (bytes into part : List ℕ) → done ≤ length into → count ≤ length part
    → take done into ≡ take done (drop at bytes) → IsTrue (is_read bytes (at + done) room (take count part))
    → take (done + count) (put_mid done (length into - done) into part) ≡ take (done + count) (drop at bytes)
read_more at done count room bytes into part within few before given =
    let whole = put_mid done (length into - done) into part in
    let size : length (take done into) ≡ done = omega (arith, length-take done into) in
    let got : length (take count part) ≡ count = omega (arith, length-take count part) in
    let is : take count part ≡ take count (drop (at + done) bytes) =
    (bytes_eq-Decides (take count part) (take (length (take count part)) (drop (at + done) bytes))).0 (and_parts _ _ given).0
    ∙ ap (λ n. take n (drop (at + done) bytes)) got in
    let first : take done whole ≡ take done into = take-put_mid_below done (length into - done) into part done (omega arith) within in
    let then : take count (drop done whole) ≡ take count part =
    ap (take count) (drop_at (take done into) (part ++ post_of done (length into - done) into) done size)
    ∙ take-append-le count part (post_of done (length into - done) into) few in
    sym (take-take_drop done count whole)
    ∙ (λ i. first i ++ then i)
    ∙ (λ i. before i ++ is i)
    ∙ ap (λ l. take done (drop at bytes) ++ take count l) (sym (drop-drop done at bytes))
    ∙ take-take_drop done count (drop at bytes)
