-- What is kept of disks that are opened and closed.
use Rattle.std.proofs.Common.{◌≡◌, ◌<◌, ◌≤◌, ◌≢◌, ℕ, List, [], ◌∷◌, Bool, true, false, None, Some, Option, ◌⊎◌, inl, inr, length, get_or, set, arith, refl, sym, ap, subst, ◌∙◌}
use Rattle.std.specs.Prelude.{bytes_eq, unwrap_or}
use Rattle.std.proofs.lemmas.Grind.{common_steps}
use Rattle.std.proofs.lemmas.Slice.Eq.{bytes_eq-Decides}
use Rattle.mw_disk.specs.Calls.{DiskHistory}
use Rattle.mw_edges.specs.Disks.{is_open_in, closed_disk, closed_of, opened_disk, written_disk, shown_file, IsLastImage, IsFileImage}
use Rattle.mw_edges.specs.Files.{entry_of, with_entry, HasPut}
use Rattle.mw_edges.specs.Folders.{SameImages}
use Rattle.mw_edges.specs.Laws.{steady_last}
use Rattle.mw_edges.specs.Places.{place_in}
use Rattle.mw_edges.specs.declared.disks.KeptDisk.{KeptDisk}
use Rattle.mw_edges.proofs.Replaced.{absent, changed, placed, put}

abbrev Disks : Type 0
Disks = List (List ℕ × KeptDisk)

-- the place of an open disk is one of them
pub open_within : (disks : Disks) (name : List ℕ) → is_open_in disks name ≡ true → place_in disks name < length disks
open_within [] name h = absurd cc
open_within (disk ∷ disks) name h = grind (arith, common_steps, open_within disks name)

module _ (disks : Disks) (name : List ℕ) (at : ℕ) (here : at ≡ place_in disks name) where
  stands : (e : List ℕ × KeptDisk) → at < length disks → e ≡ get_or disks at e → entry_of disks name ≡ Some e.1
  stands e within is = placed disks name e (subst (λ (k : ℕ). k < length disks) here within) (is ∙ ap (λ (k : ℕ). get_or disks k e) here)

  -- a disk is kept, and a further one is opened
  pub opened_again : (e : List ℕ × KeptDisk) → at < length disks → e ≡ get_or disks at e
      → HasPut disks (set disks at (e.0, record { opened = true; closed = e.1.closed })) name (Some (opened_disk (entry_of disks name)))
  opened_again e within is =
      let kept : KeptDisk = record { opened = true; closed = e.1.closed } in
      let P : Option KeptDisk → Type 0 = λ k. HasPut disks (set disks at (e.0, kept)) name (Some (opened_disk k)) in
      subst P (sym (stands e within is)) (changed disks name e kept at here within is)

  -- none is kept yet
  pub opened_first : length disks ≤ at → HasPut disks (with_entry disks name (record { opened = true; closed = None })) name (Some (opened_disk (entry_of disks name)))
  opened_first past =
      let kept : KeptDisk = record { opened = true; closed = None } in
      let P : Option KeptDisk → Type 0 = λ k. HasPut disks (with_entry disks name kept) name (Some (opened_disk k)) in
      subst P (sym (absent disks name (omega arith))) (put disks name kept)

  -- a disk is kept, and forgotten
  pub written_kept : (e : List ℕ × KeptDisk) → at < length disks → e ≡ get_or disks at e
      → HasPut disks (set disks at (e.0, record { opened = e.1.opened; closed = None })) name (written_disk (entry_of disks name))
  written_kept e within is =
      let kept : KeptDisk = record { opened = e.1.opened; closed = None } in
      let P : Option KeptDisk → Type 0 = λ k. HasPut disks (set disks at (e.0, kept)) name (written_disk k) in
      subst P (sym (stands e within is)) (changed disks name e kept at here within is)

  -- none is kept, and so none is forgotten
  pub none_written : length disks ≤ at → HasPut disks disks name (written_disk (entry_of disks name))
  none_written past =
      let none : entry_of disks name ≡ None = absent disks name (omega arith) in
      record { there = none ∙ ap written_disk (sym none); others = λ n other. refl }

-- the bytes of a name are what a crash may leave
pub shown_image : (files : List (List ℕ × List ℕ)) (disks : Disks) (name bytes : List ℕ)
    → bytes ≡ unwrap_or (shown_file files disks name) [] → IsFileImage files disks name bytes
shown_image files disks name bytes is = steady_last (closed_of disks name) (entry_of files name) bytes (sym is)

same_last : (closed : Option DiskHistory) (file later : Option (List ℕ)) → unwrap_or later [] ≡ unwrap_or file []
    → SameImages (IsLastImage closed file) (IsLastImage closed later)
same_last None file later same c = (λ now. now ∙ same, λ was. was ∙ sym same)
same_last (Some disk) file later same c = (λ now. now, λ was. was)

one_or_other : (b : Bool) → (b ≡ true) ⊎ (b ≡ false)
one_or_other true = inl refl
one_or_other false = inr refl

same_name : (n name : List ℕ) → (n ≡ name) ⊎ (n ≢ name)
same_name n name = elim (one_or_other (bytes_eq n name)) [
  | inl yes' ↦ inl ((bytes_eq-Decides n name).0 yes')
  | inr no' ↦ inr (λ e. absurd (let both : true ≡ false = sym ((bytes_eq-Decides n name).1 e) ∙ no' in cc))
]

-- an opening makes the file where it isn't there, and what was closed last stays
made_bytes : (files later : List (List ℕ × List ℕ)) (name n : List ℕ)
    → HasPut files later name (Some (unwrap_or (entry_of files name) []))
    → unwrap_or (entry_of later n) [] ≡ unwrap_or (entry_of files n) []
made_bytes files later name n made = elim (same_name n name) [
  | inl is ↦ ap (λ (k : List ℕ). unwrap_or (entry_of later k) []) is
      ∙ ap (λ (o : Option (List ℕ)). unwrap_or o []) made.there
      ∙ sym (ap (λ (k : List ℕ). unwrap_or (entry_of files k) []) is)
  | inr other ↦ ap (λ (o : Option (List ℕ)). unwrap_or o []) (made.others n other)
]

kept_closed : (disks later : Disks) (name n : List ℕ)
    → HasPut disks later name (Some (opened_disk (entry_of disks name))) → closed_of later n ≡ closed_of disks n
kept_closed disks later name n opened = elim (same_name n name) [
  | inl is ↦ ap (closed_of later) is ∙ ap closed_disk opened.there ∙ sym (ap (closed_of disks) is)
  | inr other ↦ ap closed_disk (opened.others n other)
]

-- so a crash may leave the same of each file, with or without the disk's being kept
pub made_images : (files later : List (List ℕ × List ℕ)) (disks : Disks) (name n : List ℕ)
    → HasPut files later name (Some (unwrap_or (entry_of files name) []))
    → SameImages (IsFileImage files disks n) (IsFileImage later disks n)
made_images files later disks name n made =
    same_last (closed_of disks n) (entry_of files n) (entry_of later n) (made_bytes files later name n made)

pub opened_images : (files later : List (List ℕ × List ℕ)) (disks kept : Disks) (name n : List ℕ)
    → HasPut files later name (Some (unwrap_or (entry_of files name) []))
    → HasPut disks kept name (Some (opened_disk (entry_of disks name)))
    → SameImages (IsFileImage files disks n) (IsFileImage later kept n)
opened_images files later disks kept name n made opened =
    let P : Option DiskHistory → Type 0 = λ d. SameImages (IsFileImage files disks n) (IsLastImage d (entry_of later n)) in
    subst P (sym (kept_closed disks kept name n opened)) (made_images files later disks name n made)
