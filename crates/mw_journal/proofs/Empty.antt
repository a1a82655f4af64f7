-- A journal without batches.
use Rattle.std.proofs.Common.{◌≡◌, ◌≤◌, ℕ, ◌+◌, List, [], ◌∷◌, ◌++◌, length, refl, sym, ap, subst, ◌∙◌, length-append, arith, Some}
use Rattle.std.proofs.lemmas.List.{append-nil, drop_all}
use Rattle.std.specs.declared.option.Option.{Option}
use Rattle.mw_disk.specs.Range.{written, GivesRange}
use Rattle.mw_disk.proofs.Ranges.{within_written}
use Rattle.mw_journal.specs.Image.{magic, header, IsShut}

pub nothing_read : (told : Option (List ℕ)) (f into : List ℕ) (count : ℕ) → told ≡ Some f → GivesRange told 0 count into
    → count ≤ 0 → length into ≡ 1 → f ≡ []
nothing_read told f into count is gives none one =
    let told_gives : GivesRange (Some f) 0 count into = subst (λ o. GivesRange o 0 count into) is gives in
    empty f (omega (arith, told_gives.0, none, one))
  where
    empty : (l : List ℕ) → length l ≤ 0 → l ≡ []
    empty [] h = refl
    empty (x ∷ l) h = absurd (omega arith)

pub written_empty : (put : List ℕ) → written 0 put [] ≡ put
written_empty put =
    sym (within_written 0 put [] (omega arith)) ∙ ap (λ l. put ++ l) (drop_all (0 + length put) [] (omega arith)) ∙ append-nil put

pub shut_empty : (digest : List ℕ) → length digest ≡ 32 → IsShut (header digest ++ 0 ∷ []) digest [] 40 0
shut_empty digest size = record {
  bodies = [];
  rest = [];
  begins = record {
    layout = ap (λ l. l ++ 0 ∷ []) (sym (append-nil (header digest)));
    place_is = omega (arith, size, ap length (append-nil (header digest)), length-append magic digest);
    digest_size = size;
    laid = tt;
  };
  shut = λ is. omega (arith, is);
  within = omega arith;
  joined = refl;
}
