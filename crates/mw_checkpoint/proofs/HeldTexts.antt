-- What a journal stands for that is opened again.
use Rattle.std.proofs.Common.{◌∙◌, ◌≤◌, ◌+◌, ◌⊎◌, inl, inr, ℕ, List, [], ◌++◌, length, refl, subst, Option}
use Rattle.std.proofs.lemmas.List.{append-nil}
use Rattle.mw_disk.specs.Crash.{LeavesOnly}
use Rattle.mw_journal.specs.Image.{IsShut, Stands}
use Rattle.mw_journal.specs.Journal.{StandsFor, disk_of, gate_of}
use Rattle.mw_journal.specs.Opening.{RefusesOpen}
use Rattle.mw_journal.specs.Settled.{AllSettled, IsSettled}
use Rattle.mw_journal.specs.declared.error.AppendError.{AppendError}
use Rattle.mw_journal.specs.declared.error.AppendError.TheVariants as append_error
use Rattle.mw_journal.specs.declared.error.OpenError.{OpenError}
use Rattle.mw_journal.specs.declared.error.OpenError.TheVariants as open_error
use Rattle.mw_journal.specs.declared.journal.Journal.{Journal}
use Rattle.mw_journal.specs.Opening.{IsOutside as IsOpenOutside}
use Rattle.mw_journal.proofs.Unique.{settled_text, staged_stands}
use Rattle.mw_checkpoint.specs.Pair.{HoldsText}
use Rattle.mw_checkpoint.specs.Preparing.{RefusesReading}
use Rattle.mw_checkpoint.specs.Refused.{choice_error_of, pair_error_of}
use Rattle.mw_checkpoint.specs.Switching.{IsOutsideOrFull, RefusesSwitch}

pub held_settled : {D : Type 0} (may_leave : D → List ℕ → Type 0) (digest text body : List ℕ) (d : D) → HoldsText may_leave digest text d
    → AllSettled (may_leave d) digest text body
held_settled may_leave digest text body d h c left = inl (h.0, h.1 c left)

-- a journal that held a text holds it, whatever was read
pub reopened : {D : Type 0} (may_leave : D → List ℕ → Type 0) (moment : D → ℕ) (left_since : D → ℕ → List ℕ → Type 0)
    → ((d : D) (t : ℕ) (c : List ℕ) → t ≤ moment d → may_leave d c → left_since d t c)
    → (digest text found : List ℕ) (before : D) (j : Journal D)
    → LeavesOnly moment left_since before (disk_of j) (λ c. IsSettled c digest text [])
    → StandsFor may_leave digest found j → StandsFor may_leave digest text j
reopened may_leave moment left_since counts digest text found before j run stands = (
  stands.0,
  λ c left.
      let shut = stands.1 c left in
      elim (settled_text c digest text [] found (gate_of j) 0 (run.each c (counts (disk_of j) (moment before) c run.later left)) shut) [
        | inl is ↦ subst (λ l. IsShut c digest l (gate_of j) 0) is shut
        | inr is ↦ subst (λ l. IsShut c digest l (gate_of j) 0) (is ∙ append-nil text) shut
      ],
)

-- a settled image stands for the text, or for the text and the batch
pub settled_stands : (image digest text body : List ℕ) → IsSettled image digest text body → Stands image digest text ⊎ Stands image digest (text ++ body)
settled_stands image digest text body (inl shut) = inl (shut.0, (0, shut.1))
settled_stands image digest text body (inr staged) = elim (staged_stands image digest text body staged.0 staged.1) [
  | inl both ↦ inr (staged.0 + 5 + length body, (0, both))
  | inr one ↦ inl (staged.0, one)
]

pub refuses_reading : (place : ℕ) (told : Option (List ℕ)) (digest : List ℕ) (before after : ℕ) (e : OpenError)
    → RefusesOpen told digest before after e → RefusesReading place told digest before after (pair_error_of place e)
refuses_reading place told digest before after open_error.DiskFault refuses = (refl, refuses)
refuses_reading place told digest before after open_error.NotEmpty refuses = refuses
refuses_reading place told digest before after (open_error.NotJournal at) refuses = (refl, refuses)
refuses_reading place told digest before after (open_error.OtherSeed found) refuses = (refl, refuses)
refuses_reading place told digest before after open_error.Memory refuses = tt

pub refuses_switch : (told : Option (List ℕ)) (digest : List ℕ) (before after : ℕ) (e : OpenError)
    → RefusesOpen told digest before after e → RefusesSwitch told digest before after (pair_error_of 0 e)
refuses_switch told digest before after open_error.DiskFault refuses = (refl, refuses)
refuses_switch told digest before after open_error.NotEmpty refuses = refuses
refuses_switch told digest before after (open_error.NotJournal at) refuses = (refl, refuses)
refuses_switch told digest before after (open_error.OtherSeed found) refuses = (refl, refuses)
refuses_switch told digest before after open_error.Memory refuses = tt

pub switch_outside : (e : OpenError) → IsOpenOutside e → IsOutsideOrFull (pair_error_of 0 e)
switch_outside open_error.DiskFault out = tt
switch_outside open_error.NotEmpty out = out
switch_outside (open_error.NotJournal at) out = out
switch_outside (open_error.OtherSeed found) out = out
switch_outside open_error.Memory out = tt

pub append_outside : (e : AppendError) → IsOutsideOrFull (choice_error_of e)
append_outside append_error.DiskFault = tt
append_outside (append_error.JournalFull len) = tt
append_outside append_error.Memory = tt
