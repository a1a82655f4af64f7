-- An image stands for one text alone.
use Rattle.std.proofs.Common.{◌≡◌, ◌≢◌, ◌<◌, ◌≤◌, ◌^◌, ℕ, ◌+◌, List, [], ◌∷◌, ◌++◌, length, take, drop, refl, sym, ap, subst, ◌∙◌, append_assoc, length-append, arith, inl, inr, ◌⊎◌}
use Rattle.std.specs.Int.{w32, to_be_bytes, from_be_bytes}
use Rattle.std.specs.List.{concat}
use Rattle.std.proofs.lemmas.List.{take_at, drop_at}
use Rattle.std.proofs.lemmas.Nat.{from_be_bytes-to_be_bytes_4}
use Rattle.std.proofs.lemmas.Bool.{cases_eq}
use Rattle.mw_disk.specs.Crash.{Torn}
use Rattle.mw_journal.specs.Image.{magic, header, measured, batches, AreLaid, Begins, IsShut}
use Rattle.mw_journal.specs.Settled.{IsStaged, IsSettled}
use Rattle.mw_journal.proofs.Batches.{staged_torn, opened}

-- two fronts of one length
same_parts : (xs xs' ys ys' : List ℕ) → length xs ≡ length xs' → xs ++ ys ≡ xs' ++ ys' → (xs ≡ xs') × (ys ≡ ys')
same_parts xs xs' ys ys' long is = (
  sym (take_at xs ys (length xs) refl) ∙ ap (take (length xs)) is ∙ take_at xs' ys' (length xs) (sym long),
  sym (drop_at xs ys (length xs) refl) ∙ ap (drop (length xs)) is ∙ drop_at xs' ys' (length xs) (sym long),
)

-- one body with its length
same_body : (b b' more more' : List ℕ) → length b < 2 ^ 32 → length b' < 2 ^ 32 → measured b ++ more ≡ measured b' ++ more'
    → (b ≡ b') × (more ≡ more')
same_body b b' more more' short short' is =
    let bytes = to_be_bytes w32 (length b) in
    let bytes' = to_be_bytes w32 (length b') in
    let split = same_parts bytes bytes' (b ++ more) (b' ++ more') refl (sym (append_assoc bytes b more) ∙ is ∙ append_assoc bytes' b' more') in
    let long : length b ≡ length b' =
    sym (from_be_bytes-to_be_bytes_4 (length b) short) ∙ ap (from_be_bytes w32) split.0 ∙ from_be_bytes-to_be_bytes_4 (length b') short' in
    same_parts b b' more more' long split.1

-- from a place on stands no whole batch behind an open gate
abbrev pub NoBatch : ℕ → List ℕ → Type 0
NoBatch place rest = (body more : List ℕ) → place < 2 ^ 30 → 1 ≤ length body → length body < 2 ^ 32
    → rest ≡ (1 ∷ measured body) ++ more → ⊥

pub one_list : (place : ℕ) (bs bs' : List (List ℕ)) (rest rest' : List ℕ) → AreLaid place bs → AreLaid place bs'
    → NoBatch (place + length (batches bs)) rest → NoBatch (place + length (batches bs')) rest'
    → batches bs ++ rest ≡ batches bs' ++ rest' → (bs ≡ bs') × (rest ≡ rest')
one_list place [] [] rest rest' laid laid' stop stop' is = (refl, is)
one_list place [] (b ∷ bs') rest rest' laid laid' stop stop' is =
    absurd (stop b (batches bs' ++ rest') (omega (arith, laid'.0)) laid'.1 laid'.2 (is ∙ append_assoc (1 ∷ measured b) (batches bs') rest'))
one_list place (b ∷ bs) [] rest rest' laid laid' stop stop' is =
    absurd (stop' b (batches bs ++ rest) (omega (arith, laid.0)) laid.1 laid.2 (sym is ∙ append_assoc (1 ∷ measured b) (batches bs) rest))
one_list place (b ∷ bs) (b' ∷ bs') rest rest' laid laid' stop stop' is =
    let whole : (1 ∷ measured b) ++ (batches bs ++ rest) ≡ (1 ∷ measured b') ++ (batches bs' ++ rest') =
    sym (append_assoc (1 ∷ measured b) (batches bs) rest) ∙ is ∙ append_assoc (1 ∷ measured b') (batches bs') rest' in
    let first = same_body b b' (batches bs ++ rest) (batches bs' ++ rest') laid.2 laid'.2 (ap (drop 1) whole) in
    let next = one_list (place + 5 + length b) bs bs' rest rest' laid.3
    (subst (λ (l : List ℕ). AreLaid (place + 5 + length l) bs') (sym first.0) laid'.3)
    (subst (λ n. NoBatch n rest) (omega (arith, far b bs)) stop)
    (subst (λ n. NoBatch n rest') (omega (arith, far b' bs', ap length first.0)) stop') first.1 in
    ((λ i. first.0 i ∷ next.0 i), next.1)
  where
    far : (body : List ℕ) (d : List (List ℕ)) → length (1 ∷ measured body ++ batches d) ≡ 5 + length body + length (batches d)
    far body d = omega (arith, length-append (1 ∷ measured body) (batches d), length-append (to_be_bytes w32 (length body)) body)

pub no_batch_shut : (place gate : ℕ) (rest : List ℕ) → gate ≢ 1 → NoBatch place (gate ∷ rest)
no_batch_shut place gate rest shut body more near some short is = shut (let first : gate ≡ 1 = cc in first)

-- what an image begins with ends at one place
pub one_end : (image digest : List ℕ) (bs bs' : List (List ℕ)) (place place' : ℕ) (rest rest' : List ℕ)
    → Begins image digest bs place rest → Begins image digest bs' place' rest' → NoBatch place rest → NoBatch place' rest'
    → (bs ≡ bs') × (rest ≡ rest')
one_end image digest bs bs' place place' rest rest' b b' stop stop' =
    let whole : header digest ++ (batches bs ++ rest) ≡ header digest ++ (batches bs' ++ rest') =
    sym (append_assoc (header digest) (batches bs) rest) ∙ sym b.layout ∙ b'.layout ∙ append_assoc (header digest) (batches bs') rest' in
    let tails = same_parts (header digest) (header digest) (batches bs ++ rest) (batches bs' ++ rest') refl whole in
    one_list 40 bs bs' rest rest' b.laid b'.laid
    (subst (λ n. NoBatch n rest) (at_forty bs place rest b) stop) (subst (λ n. NoBatch n rest') (at_forty bs' place' rest' b') stop') tails.1
  where
    at_forty : (cs : List (List ℕ)) (p : ℕ) (r : List ℕ) → Begins image digest cs p r → p ≡ 40 + length (batches cs)
    at_forty cs p r c = omega (arith, c.place_is, c.digest_size, length-append (header digest) (batches cs), length-append magic digest)

-- it stands for one text, with one place and one byte of its gate
pub one_shut : (image digest text text' : List ℕ) (place place' gate gate' : ℕ) → IsShut image digest text place gate
    → IsShut image digest text' place' gate' → (text ≡ text') × (place ≡ place') × (gate ≡ gate')
one_shut image digest text text' place place' gate gate' s s' =
    let end = one_end image digest s.bodies s'.bodies place place' (gate ∷ s.rest) (gate' ∷ s'.rest) s.begins s'.begins
    (no_batch_shut place gate s.rest s.shut) (no_batch_shut place' gate' s'.rest s'.shut) in (
      s.joined ∙ ap concat end.0 ∙ sym s'.joined,
      s.begins.place_is ∙ ap (λ bs. length (header digest ++ batches bs)) end.0 ∙ sym s'.begins.place_is,
      let first : gate ≡ gate' = cc in first,
    )

-- what a staged image stands for
pub staged_stands : (image digest text body : List ℕ) (place : ℕ) → IsStaged image digest text body place
    → IsShut image digest (text ++ body) (place + 5 + length body) 0 ⊎ ((gate : ℕ) × IsShut image digest text place gate)
staged_stands image digest text body place staged = elim (cases_eq staged.gate 1) [
  | inl open_gate ↦ inl (opened image digest text body staged.rest staged.bodies place
      (subst (λ n. Begins image digest staged.bodies place (n ∷ measured body ++ 0 ∷ staged.rest)) open_gate staged.begins) staged.some staged.within staged.joined)
  | inr shut ↦ inr (
    staged.gate,
    record {
      bodies = staged.bodies;
      rest = measured body ++ 0 ∷ staged.rest;
      begins = staged.begins;
      shut = shut;
      within = omega (arith, staged.within);
      joined = staged.joined;
    },
  )
]

-- a settled image stands for the text, or for the text and the batch
pub settled_text : (image digest text body found : List ℕ) (place gate : ℕ) → IsSettled image digest text body
    → IsShut image digest found place gate → (found ≡ text) ⊎ (found ≡ text ++ body)
settled_text image digest text body found place gate (inl shut) is =
    inl (one_shut image digest found text place shut.0 gate 0 is shut.1).0
settled_text image digest text body found place gate (inr staged) is = elim (staged_stands image digest text body staged.0 staged.1) [
  | inl both ↦ inr (one_shut image digest found (text ++ body) place (staged.0 + 5 + length body) gate 0 is both).0
  | inr one ↦ inl (one_shut image digest found text place staged.0 gate one.0 is one.1).0
]

-- and stays settled where its gate that isn't open, and isn't 0, is torn
pub settled_torn : (image digest text body found : List ℕ) (place gate : ℕ) (c : List ℕ) → IsSettled image digest text body
    → IsShut image digest found place gate → gate ≢ 0 → Torn place 1 image c → IsSettled c digest text body
settled_torn image digest text body found place gate c (inl shut) is some torn =
    absurd (some (one_shut image digest found text place shut.0 gate 0 is shut.1).2)
settled_torn image digest text body found place gate c (inr staged) is some torn = elim (staged_stands image digest text body staged.0 staged.1) [
  | inl both ↦ absurd (some (one_shut image digest found (text ++ body) place (staged.0 + 5 + length body) gate 0 is both).2)
  | inr one ↦ inr (
    staged.0,
    staged_torn image digest text body staged.0 c staged.1
        (subst (λ p. Torn p 1 image c) (one_shut image digest found text place staged.0 gate one.0 is one.1).1 torn),
  )
]
