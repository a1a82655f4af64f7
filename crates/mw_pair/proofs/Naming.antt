-- The three names of a pair room are three.
use Rattle.std.proofs.Common.{◌≡◌, ◌≢◌, ℕ, List, ◌++◌, Bool, true, false, codes, length, refl, sym, ap, subst, arith, length-append}
use Rattle.std.specs.Prelude.{◌==◌, if◌then◌else◌}
use Rattle.std.specs.Str.{bytes_eq}
use Rattle.std.proofs.lemmas.List.{append_cancel_left}
use Rattle.std.proofs.lemmas.Slice.Eq.{bytes_eq-Decides}
use Rattle.mw_checkpoint.specs.Pair.{other_of, pick}
use Rattle.mw_pair.specs.Folders.{AreShut}
use Rattle.mw_pair.specs.Names.{IsOther, file_names, journal_name}

pub first_apart : (choice : List ℕ) → (file_names choice).zero ≢ choice
first_apart choice same = let longer : length (choice ++ codes ".0") ≡ length choice = ap length same in omega (arith, longer, length-append choice (codes ".0"))

pub second_apart : (choice : List ℕ) → (file_names choice).one ≢ choice
second_apart choice same = let longer : length (choice ++ codes ".1") ≡ length choice = ap length same in omega (arith, longer, length-append choice (codes ".1"))

pub both_apart : (choice : List ℕ) → (file_names choice).zero ≢ (file_names choice).one
both_apart choice same =
    let ends : codes ".0" ≡ codes ".1" = append_cancel_left choice (codes ".0") (codes ".1") same in
    let tested : bytes_eq (codes ".0") (codes ".1") ≡ true = (bytes_eq-Decides (codes ".0") (codes ".1")).1 ends in
    cc

-- of any two names, either they are one or they aren't
pub either_name : (n name : List ℕ) (P : Type 0) → (n ≡ name → P) → (n ≢ name → P) → P
either_name n name P one other = by (bytes_eq n name) refl
  where
    by : (b : Bool) → bytes_eq n name ≡ b → P
    by true e = one ((bytes_eq-Decides n name).0 e)
    by false e = other (λ same. let is : bytes_eq n name ≡ true = (bytes_eq-Decides n name).1 same in cc)

-- what is so of the name of CHOICE, of those of both journals, by a number, and of all others, is so
-- of each name
pub all_names : (P : List ℕ → Type 0) (choice : List ℕ) (number : ℕ) → P choice → P (journal_name choice number) → P (journal_name choice (other_of number)) → ((n : List ℕ) → IsOther choice n → P n)
    → (n : List ℕ) → P n
all_names P choice number own journal other rest n =
    let both = by (number == 0) refl journal other in
    either_name n choice (P n) (λ same. subst P (sym same) own)
    (λ no_choice. either_name n (file_names choice).zero (P n) (λ same. subst P (sym same) both.0)
    (λ no_zero. either_name n (file_names choice).one (P n) (λ same. subst P (sym same) both.1)
    (λ no_one. rest n record { choice_other = no_choice; first_other = no_zero; second_other = no_one })))
  where
    by : (b : Bool) → (number == 0) ≡ b → P (journal_name choice number) → P (journal_name choice (other_of number)) → P (file_names choice).zero × P (file_names choice).one
    by true is p q = (
      subst (λ (c : Bool). P (if c then (file_names choice).zero else (file_names choice).one)) is p,
      subst (λ (c : Bool). P (pick (if c then 1 else 0) (file_names choice).zero (file_names choice).one)) is q,
    )
    by false is p q = (
      subst (λ (c : Bool). P (pick (if c then 1 else 0) (file_names choice).zero (file_names choice).one)) is q,
      subst (λ (c : Bool). P (if c then (file_names choice).zero else (file_names choice).one)) is p,
    )

pub shut_number : (was : List ℕ → Bool) (choice : List ℕ) → AreShut was choice → (n : ℕ) → was (journal_name choice n) ≡ false
shut_number was choice shut n = by (n == 0)
  where
    by : (c : Bool) → was (if c then (file_names choice).zero else (file_names choice).one) ≡ false
    by true = shut.first_shut
    by false = shut.second_shut
