-- Files by name, of which one more was left.
use Rattle.std.proofs.Common.{◌≡◌, ◌≢◌, ℕ, List, ◌∷◌, arith, Bool, true, false, Some, inl, inr, refl, sym, ap, subst, ◌∙◌}
use Rattle.std.specs.Prelude.{bytes_eq}
use Rattle.std.proofs.lemmas.Bool.{cases_Bool}
use Rattle.std.proofs.lemmas.Slice.Eq.{bytes_eq-Decides}
use Rattle.mw_disk.specs.FileLogs.{FileLog, Leaves, opened_log, state_of}
use Rattle.mw_disk.specs.Crash.{Stays}
use Rattle.mw_edges.specs.Files.{entry_of, with_entry}
use Rattle.mw_edges.specs.MemoryLaws.{left_is_image}
use Rattle.mw_edges.specs.LeftFiles.{FilesLeft, HoldsFiles, MayBeLeft, bytes_left}
use Rattle.mw_edges.proofs.Replaced.{differ, entry_there, others_there}

pub left_there : (files : FilesLeft) (name : List ℕ) (log : FileLog) → entry_of ((name, log) ∷ files) name ≡ Some log
left_there files name log = rw ((bytes_eq-Decides name name).1 refl) refl

pub left_others : (files : FilesLeft) (name : List ℕ) (log : FileLog) (n : List ℕ) → n ≢ name → entry_of ((name, log) ∷ files) n ≡ entry_of files n
left_others files name log n other = rw (differ name n (λ e. other (sym e))) refl

-- the entries that hold a file with its bytes more
pub holds_more : (entries : List (List ℕ × List ℕ)) (files : FilesLeft) (name bytes : List ℕ) (log : FileLog) → bytes ≡ (state_of log).bytes → HoldsFiles entries files
    → HoldsFiles (with_entry entries name bytes) ((name, log) ∷ files)
holds_more entries files name bytes log is held n = elim (cases_Bool (bytes_eq n name)) [
  | inl same ↦
      let e : n ≡ name = (bytes_eq-Decides n name).0 same in
      subst (λ k. entry_of (with_entry entries name bytes) k ≡ bytes_left (entry_of ((name, log) ∷ files) k)) (sym e)
      (entry_there entries name bytes ∙ ap (λ (b : List ℕ). Some b) is ∙ sym (ap bytes_left (left_there files name log)))
  | inr not ↦
      let other : n ≢ name = λ e. away not ((bytes_eq-Decides n name).1 e) in
      others_there entries name bytes n other ∙ held n ∙ sym (ap bytes_left (left_others files name log n other))
]
  where
    away : {b : Bool} → b ≡ false → b ≡ true → ⊥
    away off on = absurd cc

-- a crash leaves of a file that is opened again just its bytes, which it might have left before
pub opened_stays : (files : FilesLeft) (name bytes : List ℕ) → Some bytes ≡ bytes_left (entry_of files name)
    → Stays (MayBeLeft files name) (λ c. Leaves (opened_log bytes false) c)
opened_stays files name bytes is = λ c now. elim now [
  | inl held ↦ elim held [
    | inl same ↦ left_is_image (entry_of files name) c (sym is ∙ ap (λ (b : List ℕ). Some b) (sym same))
    | inr besides ↦ absurd (omega (arith, besides.1))
  ]
  | inr gone ↦ absurd cc
]
