-- A settled image is a journal of its digest.
use Rattle.std.proofs.Common.{◌≡◌, ◌≢◌, ◌<◌, ◌≤◌, ◌^◌, ⊎_elim, inl, inr, ℕ, ◌+◌, ◌-◌, List, ◌∷◌, ◌++◌, length, get_or, take, drop, refl, sym, ap, ◌∙◌, append_assoc, length-append, arith, Option, Some, None, false}
use Rattle.std.specs.Prelude.{nat_lt, ◌==◌}
use Rattle.std.specs.Int.{w32, to_be_bytes, from_be_bytes}
use Rattle.std.proofs.lemmas.List.{take_at, drop_at, get_or-take}
use Rattle.std.proofs.lemmas.Nat.{from_be_bytes-to_be_bytes_4}
use Rattle.std.proofs.lemmas.Bool.Decides.{nat_tests}
use Rattle.mw_journal.specs.declared.error.OpenError.{OpenError}
use Rattle.mw_journal.specs.declared.error.OpenError.TheVariants.{DiskFault, NotEmpty, NotJournal, OtherSeed, Memory}
use Rattle.mw_journal.specs.Image.{magic, header, measured, batches, IsShut}
use Rattle.mw_journal.specs.Opening.{RefusesOpen, IsOutside}
use Rattle.mw_journal.specs.Refused.{wrong_at, IsBadHeader, IsNotJournal, IsOtherSeed}
use Rattle.mw_journal.specs.Settled.{IsSettled}
use Rattle.mw_journal.proofs.Gates.{far_test, wrong_batch}
use Rattle.mw_journal.proofs.Unique.{NoBatch, no_batch_shut, one_end, staged_stands}

-- nothing is wrong with a gate that isn't open
right_shut : (place gate : ℕ) (rest : List ℕ) → gate ≢ 1 → place < 2 ^ 30 → wrong_at place (gate ∷ rest) ≡ None
right_shut place gate rest shut near =
    let far = far_test place near in
    let test : (gate == 1) ≡ false = grind (arith, nat_tests) in
    rw (far, test) refl

-- nor with a whole batch
right_batch : (place : ℕ) (body more : List ℕ) → place < 2 ^ 30 → 1 ≤ length body → length body < 2 ^ 32
    → wrong_at place ((1 ∷ measured body) ++ more) ≡ None
right_batch place body more near some short =
    let bytes = to_be_bytes w32 (length body) in
    let rest = measured body ++ more in
    let long : length rest ≡ 4 + length body + length more =
    omega (arith, length-append (measured body) more, length-append bytes body) in
    let back : from_be_bytes w32 (take 4 rest) ≡ length body =
    ap (λ l. from_be_bytes w32 (take 4 l)) (append_assoc bytes body more) ∙ ap (from_be_bytes w32) (take_at bytes (body ++ more) 4 refl)
    ∙ from_be_bytes-to_be_bytes_4 (length body) short in
    let wrong = wrong_batch place (length body) rest near (omega (arith, long)) back in
    let some_test : (length body == 0) ≡ false = grind (arith, nat_tests) in
    let whole_test : nat_lt (length rest - 4) (length body) ≡ false =
    (let enough : length body ≤ length rest - 4 = omega (arith, long) in grind (arith, nat_tests, enough)) in
    wrong ∙ rw (some_test, whole_test) refl

none_some : (at : ℕ) → (let none : Option ℕ = None in none) ≡ Some at → ⊥
none_some at is = cc

no_batch_wrong : (place at : ℕ) (rest : List ℕ) → wrong_at place rest ≡ Some at → NoBatch place rest
no_batch_wrong place at rest wrong body more near some short is =
    none_some at (sym (right_batch place body more near some short) ∙ ap (wrong_at place) (sym is) ∙ wrong)

module _ (f digest text : List ℕ) (place gate : ℕ) (shut : IsShut f digest text place gate) where
  parts : f ≡ magic ++ (digest ++ (batches shut.bodies ++ gate ∷ shut.rest))
  parts = shut.begins.layout ∙ append_assoc (header digest) (batches shut.bodies) (gate ∷ shut.rest)
      ∙ append_assoc magic digest (batches shut.bodies ++ gate ∷ shut.rest)

  long : 41 ≤ length f
  long = omega (
    arith,
    ap length parts,
    shut.begins.digest_size,
    length-append magic (digest ++ (batches shut.bodies ++ gate ∷ shut.rest)),
    length-append digest (batches shut.bodies ++ gate ∷ shut.rest),
    length-append (batches shut.bodies) (gate ∷ shut.rest),
  )

  first_eight : take 8 f ≡ magic
  first_eight = ap (take 8) parts ∙ take_at magic (digest ++ (batches shut.bodies ++ gate ∷ shut.rest)) 8 refl

  no_bad_header : (at : ℕ) → IsBadHeader f at → ⊥
  no_bad_header at bad = ⊎_elim (λ short. omega (arith, short, bad.within, long))
      (λ other. other.2 (sym (get_or-take 8 f at 0 other.0) ∙ ap (λ l. get_or l at 0) first_eight)) bad.bad

  pub no_refusal : (at : ℕ) → IsNotJournal f digest at → ⊥
  no_refusal at (inl bad) = no_bad_header at bad
  no_refusal at (inr wrong) =
      let bodies = wrong.0 in
      let rest = wrong.2 in
      let end = one_end f digest shut.bodies bodies place wrong.1 (gate ∷ shut.rest) rest shut.begins wrong.3
      (no_batch_shut place gate shut.rest shut.shut) (no_batch_wrong wrong.1 at rest wrong.4) in
      let same : place ≡ wrong.1 = shut.begins.place_is ∙ ap (λ bs. length (header digest ++ batches bs)) end.0 ∙ sym wrong.3.place_is in
      none_some at (sym (right_shut place gate shut.rest shut.shut shut.within) ∙ ap (wrong_at place) end.1 ∙ ap (λ p. wrong_at p rest) same ∙ wrong.4)

  pub no_other_seed : (found : List ℕ) → IsOtherSeed f digest found → ⊥
  no_other_seed found other = other.other (other.found_is ∙ ap (λ l. take 32 (drop 8 l)) parts
      ∙ ap (take 32) (drop_at magic (digest ++ (batches shut.bodies ++ gate ∷ shut.rest)) 8 refl)
      ∙ take_at digest (batches shut.bodies ++ gate ∷ shut.rest) 32 shut.begins.digest_size)

settled_shut : (f digest text body : List ℕ) → IsSettled f digest text body → (t : List ℕ) × (p : ℕ) × (g : ℕ) × IsShut f digest t p g
settled_shut f digest text body (inl shut) = (text, shut.0, 0, shut.1)
settled_shut f digest text body (inr staged) = elim (staged_stands f digest text body staged.0 staged.1) [
  | inl both ↦ (text ++ body, staged.0 + 5 + length body, 0, both)
  | inr one ↦ (text, staged.0, one.0, one.1)
]

-- `open` refuses no settled image
pub settled_opens : (told : Option (List ℕ)) (f digest text body : List ℕ) (before after : ℕ) (e : OpenError) → told ≡ Some f
    → IsSettled f digest text body → RefusesOpen told digest before after e → IsOutside e
settled_opens told f digest text body before after DiskFault is settled refuses = tt
settled_opens told f digest text body before after NotEmpty is settled refuses = refuses
settled_opens told f digest text body before after (NotJournal at) is settled refuses =
    let shut = settled_shut f digest text body settled in no_refusal f digest shut.0 shut.1 shut.2 shut.3 at (refuses f is)
settled_opens told f digest text body before after (OtherSeed found) is settled refuses =
    let shut = settled_shut f digest text body settled in no_other_seed f digest shut.0 shut.1 shut.2 shut.3 found (refuses f is)
settled_opens told f digest text body before after Memory is settled refuses = tt
