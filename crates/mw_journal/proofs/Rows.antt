-- A journal with one batch whose gate holds 7, or 1: one Checks record of team 0, slot 1, location 101.
use Rattle.std.proofs.Common.{ℕ, List, [], ◌∷◌, ◌++◌, refl, arith}
use Rattle.std.specs.Prelude.{replicate}
use Rattle.mw_journal.specs.Image.{header, IsShut}

-- a digest, and a record
abbrev digest : List ℕ
digest = replicate 32 5

abbrev record_bytes : List ℕ
record_bytes = 1 ∷ 0 ∷ 0 ∷ 1 ∷ 0 ∷ 0 ∷ 0 ∷ 1 ∷ 0 ∷ 0 ∷ 0 ∷ 0 ∷ 0 ∷ 0 ∷ 0 ∷ 101 ∷ []

-- the file, by what the gate at place 40 holds
abbrev file : ℕ → List ℕ
file gate = header digest ++ gate ∷ 0 ∷ 0 ∷ 0 ∷ 16 ∷ record_bytes ++ 0 ∷ []

-- behind a gate that isn't open nothing counts
pub closed : IsShut (file 7) digest [] 40 7
closed = record {
  bodies = [];
  rest = 0 ∷ 0 ∷ 0 ∷ 16 ∷ record_bytes ++ 0 ∷ [];
  begins = record { layout = refl; place_is = refl; digest_size = refl; laid = tt };
  shut = λ is. omega (arith, is);
  within = omega arith;
  joined = refl;
}

-- behind an open one the record does
pub opened : IsShut (file 1) digest record_bytes 61 0
opened = record {
  bodies = record_bytes ∷ [];
  rest = [];
  begins = record { layout = refl; place_is = refl; digest_size = refl; laid = (omega arith, omega arith, omega arith, tt) };
  shut = λ is. omega (arith, is);
  within = omega arith;
  joined = refl;
}
