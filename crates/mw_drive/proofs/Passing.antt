-- An error that is passed on.
use Rattle.std.proofs.Common.{◌≡◌, Result, Ok, Err, sym, subst}
use Rattle.std.specs.Prelude.{IfErr, IsErrAnd}
use Rattle.std.proofs.lemmas.Result.{err_from_is_err_and}

-- what is known of an error is known of the answer that passes it on
pub at_exit : {T E : Type 0} (answer : Result T E) (Q P : E → Type 0) → IsErrAnd answer Q → ((e : E) → Q e → P e) → IfErr answer P
at_exit answer Q P h f = let p = err_from_is_err_and answer h in subst (λ a. IfErr a P) (sym p.1) (f p.0 p.2)

-- the same where it is passed on as it is
pub passed_exit : {T E : Type 0} (P : E → Type 0) (answer : Result T E) (x : E) → P x → IsErrAnd answer (λ e. e ≡ x) → IfErr answer P
passed_exit P answer x h is = at_exit answer (λ e. e ≡ x) P is (λ e same. subst P (sym same) h)

module _ {T E : Type 0} where
  -- what is known of an error comes to what follows from it
  pub if_err : (P Q : E → Type 0) (r : Result T E) → IfErr r P → ((e : E) → P e → Q e) → IfErr r Q
  if_err P Q (Ok x) h f = tt
  if_err P Q (Err e) h f = f e h

  pub if_err_both : (P Q S : E → Type 0) (r : Result T E) → IfErr r P → IfErr r Q → ((e : E) → P e → Q e → S e) → IfErr r S
  if_err_both P Q S (Ok x) h k f = tt
  if_err_both P Q S (Err e) h k f = f e h k

  pub if_err_all : (P Q R S : E → Type 0) (r : Result T E) → IfErr r P → IfErr r Q → IfErr r R → ((e : E) → P e → Q e → R e → S e) → IfErr r S
  if_err_all P Q R S (Ok x) h k l f = tt
  if_err_all P Q R S (Err e) h k l f = f e h k l
