-- What three images stand for in a switch.
use Rattle.std.proofs.Common.{◌≡◌, ◌∙◌, ◌<◌, ◌⊎◌, ◌-◌, inl, inr, ℕ, List, [], ◌∷◌, ◌++◌, Bool, true, false, length, get_or, refl, sym, ap, subst, arith, length-append}
use Rattle.std.specs.Prelude.{◌==◌, if◌then◌else◌}
use Rattle.std.proofs.Math.Seq.{get_or-append_seam}
use Rattle.mw_protocol.specs.Records.{Record}
use Rattle.mw_protocol.specs.Spelled.{records_bytes}
use Rattle.mw_thinning.specs.Thinning.{thinned}
use Rattle.mw_journal.specs.Image.{Stands}
use Rattle.mw_journal.specs.Settled.{IsSettled}
use Rattle.mw_checkpoint.specs.Choices.{AreChoices, named_in}
use Rattle.mw_checkpoint.specs.Pair.{IsPrepared, Made, PairStands, journal_at, other_of, pick}
use Rattle.mw_checkpoint.specs.declared.files.Files.{Files}
use Rattle.mw_checkpoint.proofs.HeldTexts.{settled_stands}
use Rattle.mw_checkpoint.proofs.Naming.{choices_joined}
use Rattle.mw_checkpoint.proofs.Spelt.{bytes_joined}

-- of two images, the one of the disk that a number names
pub picked : {D : Type 0} (may_leave : D → List ℕ → Type 0) (named : ℕ) (files : Files D) (first second : List ℕ)
    → may_leave files.zero first → may_leave files.one second → may_leave (journal_at named files) (pick named first second)
picked may_leave named files first second left right = by_test (named == 0)
  where
    by_test : (b : Bool) → may_leave (if b then files.zero else files.one) (if b then first else second)
    by_test true = left
    by_test false = right

pub other_small : (named : ℕ) → other_of named < 2
other_small named = by_test (named == 0)
  where
    by_test : (b : Bool) → (if b then 1 else 0) < 2
    by_test true = omega arith
    by_test false = omega arith

pub named_last : (text : List ℕ) (byte : ℕ) → named_in (text ++ byte ∷ []) ≡ byte
named_last text byte =
    ap (λ n. get_or (text ++ byte ∷ []) n 0) (let last : length (text ++ byte ∷ []) - 1 ≡ length text = omega (arith, length-append text (byte ∷ [])) in last)
    ∙ get_or-append_seam text byte [] 0

module _ {D : Type 0} (may_leave : D → List ℕ → Type 0) (made : Made D) (text : List ℕ) (records : List Record) (is : IsPrepared may_leave text records made)
    (c first second : List ℕ) where
  pub names_all : Stands c made.digest text → may_leave made.files.zero first → may_leave made.files.one second
      → PairStands c first second made.digest records
  names_all names left right = record {
    text = text;
    names = names;
    choices = is.choices;
    stands = (is.chosen.0, (0, is.chosen.1 (pick (named_in text) first second) (picked may_leave (named_in text) made.files first second left right)));
  }

  pub names_thin : Stands c made.digest (text ++ made.other ∷ []) → may_leave made.files.zero first → may_leave made.files.one second
      → PairStands c first second made.digest (thinned records)
  names_thin names left right =
      let other = other_of (named_in text) in record {
        text = text ++ made.other ∷ [];
        names = names;
        choices = choices_joined text (made.other ∷ []) is.choices (subst (λ n. n < 2) (sym is.other) (other_small (named_in text)), tt);
        stands = subst (λ n. Stands (pick n first second) made.digest (records_bytes (thinned records))) (sym (named_last text made.other ∙ is.other))
            (is.thin.0, (0, is.thin.1 (pick other first second) (picked may_leave other made.files first second left right)));
      }

  pub names_either : IsSettled c made.digest text (made.other ∷ []) → may_leave made.files.zero first → may_leave made.files.one second
      → PairStands c first second made.digest records ⊎ PairStands c first second made.digest (thinned records)
  names_either settled left right = elim (settled_stands c made.digest text (made.other ∷ []) settled) [
    | inl all ↦ inl (names_all all left right)
    | inr thin ↦ inr (names_thin thin left right)
  ]

-- the image of the journal that is named is settled for records
pub chosen_either : (digest text : List ℕ) (named : ℕ) (kept batch : List Record) (c image other : List ℕ) → Stands c digest text → AreChoices text
    → named ≡ named_in text → IsSettled image digest (records_bytes kept) (records_bytes batch)
    → PairStands c (pick named image other) (pick named other image) digest kept ⊎ PairStands c (pick named image other) (pick named other image) digest (kept ++ batch)
chosen_either digest text named kept batch c image other names choices last settled =
    elim (settled_stands image digest (records_bytes kept) (records_bytes batch) settled) [
      | inl one ↦ inl (pair kept one)
      | inr both ↦ inr (pair (kept ++ batch) (subst (Stands image digest) (sym (bytes_joined kept batch)) both))
    ]
  where
    back : pick named (pick named image other) (pick named other image) ≡ image
    back = by_test (named == 0)
      where
        by_test : (b : Bool) → (if b then (if b then image else other) else (if b then other else image)) ≡ image
        by_test true = refl
        by_test false = refl

    pair : (records : List Record) → Stands image digest (records_bytes records)
        → PairStands c (pick named image other) (pick named other image) digest records
    pair records stands = record {
      text = text;
      names = names;
      choices = choices;
      stands = subst (λ n. Stands (pick n (pick named image other) (pick named other image)) digest (records_bytes records)) last
          (subst (λ l. Stands l digest (records_bytes records)) (sym back) stands);
    }
