-- How a command ends, whatever its own causes are.
use Rattle.std.proofs.Common.{◌≡◌, ◌⊎◌, ℕ, List, Result, Ok, Err, refl, sym, ap, subst, ◌∙◌, inl, inr}
use Rattle.std.specs.Prelude.{IfErr, IsErrAnd, OnErr, OnOk}
use Rattle.std.proofs.lemmas.Result.{err_from_is_err_and}
use Rattle.std.specs.Io.KnownBytes.{Keeps}
use Rattle.mw_causes.specs.Ends.{Told, stop_with, Ended, HasLeft, Ends}
use Rattle.mw_causes.specs.declared.stop.Stop.{Stop}
use Rattle.mw_causes.specs.declared.stop.Stop.TheVariants.{Fault, Memory, Refused}

-- what is known of an error is known of the answer that passes it on
pub at_exit : {T E : Type 0} (answer : Result T E) (Q P : E → Type 0) → IsErrAnd answer Q → ((e : E) → Q e → P e) → IfErr answer P
at_exit answer Q P h f = let p = err_from_is_err_and answer h in subst (λ a. IfErr a P) (sym p.1) (f p.0 p.2)

-- the same where it is passed on as it is
pub passed_exit : {T E : Type 0} (P : E → Type 0) (answer : Result T E) (x : E) → P x → IsErrAnd answer (λ e. e ≡ x) → IfErr answer P
passed_exit P answer x h is = at_exit answer (λ e. e ≡ x) P is (λ e same. subst P (sym same) h)

fault_with : {C D : Type 0} (cause_of : C → D) (stop : Stop C) → stop_with cause_of stop ≡ Fault → stop ≡ Fault
fault_with cause_of Fault e = refl
fault_with cause_of Memory e = cc
fault_with cause_of (Refused cause) e = cc

-- a fault is passed on as one
pub fault_passed : {T C : Type 0} (answer : Result T (Stop C)) (stop : Stop C) → IsErrAnd answer (λ e. e ≡ stop) → answer ≡ Err Fault → stop ≡ Fault
fault_passed {T = T} {C = C} answer stop h e =
    let p = err_from_is_err_and answer h in
    let same : Err p.0 ≡ Err Fault = sym p.1 ∙ e in
    let is : p.0 ≡ Fault = cc in
    sym p.2 ∙ is

-- want of memory is none
pub memory_late : {T C : Type 0} (answer : Result T (Stop C)) → IsErrAnd answer (λ e. e ≡ Memory) → answer ≡ Err Fault → ⊥
memory_late {C = C} answer h e = let same : Memory ≡ Fault = fault_passed answer Memory h e in cc

-- and was one of the part
pub fault_exit : {T C D : Type 0} (cause_of : C → D) (answer : Result T (Stop D)) (stop : Stop C) → IsErrAnd answer (λ e. e ≡ stop_with cause_of stop) → answer ≡ Err Fault → stop ≡ Fault
fault_exit cause_of answer stop h e = fault_with cause_of stop (fault_passed answer (stop_with cause_of stop) h e)

module _ {C : Type 0} (why : Stop C → Type 0) (nothing some failed : Type 0) where
  -- nothing was touched before a reading failed or what was read was refused
  pub left_before : (stop : Stop C) → why stop → nothing → HasLeft why nothing some failed stop
  left_before Fault h k = inl (h, k)
  left_before Memory h k = inl k
  left_before (Refused cause) h k = (h, k)

  -- some was done before a device failed or memory ran out
  pub left_some : (stop : Stop C) → (stop ≡ Fault) ⊎ (stop ≡ Memory) → some → (stop ≡ Fault → failed) → HasLeft why nothing some failed stop
  left_some stop (inl e) h f = subst (HasLeft why nothing some failed) (sym e) (inr (h, f e))
  left_some stop (inr e) h f = subst (HasLeft why nothing some failed) (sym e) (inr h)

  pub left_exit : {T : Type 0} (answer : Result T (Stop C)) (stop : Stop C) → why stop → nothing → IsErrAnd answer (λ e. e ≡ stop) → IfErr answer (HasLeft why nothing some failed)
  left_exit answer stop h k is = passed_exit (HasLeft why nothing some failed) answer stop (left_before stop h k) is

  pub left_late : {T P : Type 0} (answer : Result T (Stop C)) → IfErr answer (λ stop. (stop ≡ Fault) ⊎ (stop ≡ Memory)) → OnErr answer P → (answer ≡ Err Fault → failed) → (P → some) → IfErr answer (HasLeft why nothing some failed)
  left_late (Ok x) late p rose f = tt
  left_late (Err stop) late p rose f = left_some stop late (f p) (λ e. rose (ap Err e))

  at_memory : (stop : Stop C) → HasLeft why nothing some failed stop → nothing ⊎ some
  at_memory Fault (inl h) = inl h.1
  at_memory Fault (inr h) = inr h.0
  at_memory Memory h = h
  at_memory (Refused cause) h = inl h.1

  named_left : (stop named : Stop C) → (named ≡ stop) ⊎ (named ≡ Memory) → HasLeft why nothing some failed stop → HasLeft why nothing some failed named
  named_left stop named (inl e) h = subst (HasLeft why nothing some failed) (sym e) h
  named_left stop named (inr e) h = subst (HasLeft why nothing some failed) (sym e) (at_memory stop h)

  module _ (status_of : C → ℕ) (line_of : C → List ℕ) (done : Type 0) (status : ℕ) (told : Told) where
    -- a command that did all, or left what it may where it stopped, ends as it says
    pub ends : {T : Type 0} (outcome : Result T (Stop C)) → OnOk outcome (status ≡ 0) → OnOk outcome (Keeps told.old told.new) → IfErr outcome (λ stop. Ended status_of line_of stop status told)
        → OnOk outcome done → IfErr outcome (HasLeft why nothing some failed) → Ends status_of line_of why nothing some failed done status told
    ends (Ok x) zero kept ended all left = inl (zero, all, kept)
    ends (Err stop) zero kept ended all left =
        inr (ended.named, record { is_status = ended.is_status; left = named_left stop ended.named ended.is left; line = ended.line })
