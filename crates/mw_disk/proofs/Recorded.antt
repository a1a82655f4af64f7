-- What one call more makes of a record.
use Rattle.std.proofs.Common.{◌≡◌, ◌≤◌, ◌⊎◌, inl, inr, ℕ, List, [], ◌∷◌, ◌++◌, length, take, refl, sym, ap, subst, ◌∙◌, arith, length-append, Bool, true, false}
use Rattle.std.specs.Prelude.{is_ok, Result, Ok, Err, OnOk, Some}
use Rattle.std.proofs.lemmas.List.{take_all, take-append-le}
use Rattle.std.proofs.lemmas.Bool.{cases_lt}
use Rattle.mw_disk.specs.declared.disk.DiskError.{DiskError}
use Rattle.mw_disk.specs.declared.calls.MadeCall.{MadeCall}
use Rattle.mw_disk.specs.declared.calls.DiskCall.TheVariants.{Read, Write, Cut, Sync}
use Rattle.mw_disk.specs.declared.calls.DiskCall.{DiskCall}
use Rattle.mw_disk.specs.Crash.{Elapses, OnlyTold}
use Rattle.mw_disk.specs.Laws.{bytes_are_image}
use Rattle.mw_disk.specs.Calls.{bytes_of, bytes_after, ImageAfter, ImageOf, IsImage, IsImageSince, DiskHistory}

pub bytes_of_next : (bytes : List ℕ) (calls : List MadeCall) (made : MadeCall)
    → bytes_of bytes (calls ++ made ∷ []) ≡ bytes_after made (bytes_of bytes calls)
bytes_of_next bytes [] made = refl
bytes_of_next bytes (call ∷ calls) made = bytes_of_next (bytes_after call bytes) calls made

image_of_next : (bytes : List ℕ) (images : List ℕ → Type 0) (calls : List MadeCall) (made : MadeCall) (c : List ℕ)
    → ImageOf bytes images (calls ++ made ∷ []) c
    → ImageAfter made.call (is_ok made.answer) (bytes_of bytes calls) (ImageOf bytes images calls) c
image_of_next bytes images [] made c now = now
image_of_next bytes images (call ∷ calls) made c now =
    image_of_next (bytes_after call bytes) (ImageAfter call.call (is_ok call.answer) bytes images) calls made c now

-- an image after one call more comes from one before it
pub image_next : (start : List ℕ) (calls later : List MadeCall) (made : MadeCall) (c : List ℕ)
    → later ≡ calls ++ made ∷ [] → IsImage start later c
    → ImageAfter made.call (is_ok made.answer) (bytes_of start calls) (IsImage start calls) c
image_next start calls later made c is now =
    image_of_next start (λ d. d ≡ start) calls made c (subst (λ l. IsImage start l c) is now)

pub elapses_same : (start : List ℕ) (calls : List MadeCall)
    → Elapses (length calls) (length calls) (IsImageSince start calls) (IsImageSince start calls) (IsImage start calls)
elapses_same start calls = record { later = omega arith; nothing_else = λ t c le left. inl left; keeps = λ t c le left. left }

before_next : (calls later : List MadeCall) (made : MadeCall) (k : ℕ) → later ≡ calls ++ made ∷ [] → k ≤ length calls
    → take k later ≡ take k calls
before_next calls later made k is le = ap (take k) is ∙ take-append-le k calls (made ∷ []) le

elapsed : (start : List ℕ) (calls later : List MadeCall) (made : MadeCall) → later ≡ calls ++ made ∷ []
    → (t : ℕ) (c : List ℕ) → IsImageSince start later t c → IsImageSince start calls t c ⊎ IsImage start later c
elapsed start calls later made is t c left = elim (cases_lt (length calls) left.0) [
  | inr before ↦ inl (left.0, left.1, before, subst (λ l. IsImage start l c) (before_next calls later made left.0 is before) left.3)
  | inl past ↦ inr (subst (λ l. IsImage start l c) (take_all left.0 later (omega (arith, past, ap length is, length-append calls (made ∷ [])))) left.3)
]

pub elapses_next : (start : List ℕ) (calls later : List MadeCall) (made : MadeCall) → later ≡ calls ++ made ∷ []
    → Elapses (length calls) (length later) (IsImageSince start calls) (IsImageSince start later) (IsImage start later)
elapses_next start calls later made is = record {
  later = omega (arith, ap length is, length-append calls (made ∷ []));
  nothing_else = λ t c le left. elapsed start calls later made is t c left;
  keeps = λ t c le left. (
    left.0,
    left.1,
    omega (arith, left.2, ap length is, length-append calls (made ∷ [])),
    subst (λ l. IsImage start l c) (sym (before_next calls later made left.0 is left.2)) left.3,
  );
}

-- a disk's record after one call more
pub record Grew (h : DiskHistory) (start : List ℕ) (later : List MadeCall) (made : MadeCall) : Type 0 where
  pub start_is : h.start ≡ start
  pub calls_are : later ≡ h.calls ++ made ∷ []

pub grew : (h : DiskHistory) (start : List ℕ) (calls kept later : List MadeCall) (failing : List (ℕ × DiskError)) (made : MadeCall)
    → (let history : DiskHistory = record { start = start; calls = calls; failing = failing } in history) ≡ h
    → kept ≡ calls → later ≡ kept ++ made ∷ [] → Grew h start later made
grew h start calls kept later failing made is same next = record {
  start_is = sym (ap (λ d. d.start) is);
  calls_are = next ∙ ap (λ l. l ++ made ∷ []) (same ∙ ap (λ d. d.calls) is);
}

pub grew_image : (h : DiskHistory) (start : List ℕ) (later : List MadeCall) (made : MadeCall) (c : List ℕ)
    → Grew h start later made → IsImage start later c
    → ImageAfter made.call (is_ok made.answer) (bytes_of h.start h.calls) (IsImage h.start h.calls) c
grew_image h start later made c g now =
    image_next h.start h.calls later made c g.calls_are (subst (λ s. IsImage s later c) (sym g.start_is) now)

pub grew_bytes : (h : DiskHistory) (start : List ℕ) (later : List MadeCall) (made : MadeCall)
    → Grew h start later made → bytes_of start later ≡ bytes_after made (bytes_of h.start h.calls)
grew_bytes h start later made g =
    ap (λ s. bytes_of s later) (sym g.start_is) ∙ ap (bytes_of h.start) g.calls_are ∙ bytes_of_next h.start h.calls made

pub grew_elapses : (h : DiskHistory) (start : List ℕ) (later : List MadeCall) (made : MadeCall)
    → Grew h start later made
    → Elapses (length h.calls) (length later) (IsImageSince h.start h.calls) (IsImageSince start later) (IsImage start later)
grew_elapses h start later made g =
    let P : List ℕ → Type 0 = λ s. Elapses (length h.calls) (length later) (IsImageSince h.start h.calls) (IsImageSince s later) (IsImage s later) in
    subst P g.start_is (elapses_next h.start h.calls later made g.calls_are)

-- no call more
pub kept_image : (h : DiskHistory) (start : List ℕ) (calls kept : List MadeCall) (failing : List (ℕ × DiskError)) (c : List ℕ)
    → (let history : DiskHistory = record { start = start; calls = calls; failing = failing } in history) ≡ h
    → kept ≡ calls → IsImage start kept c → IsImage h.start h.calls c
kept_image h start calls kept failing c is same now =
    subst (λ d. IsImage d.start d.calls c) is (subst (λ l. IsImage start l c) same now)

-- the bytes after one call more are those of the record
pub grew_held : (h : DiskHistory) (start : List ℕ) (calls later : List MadeCall) (failing : List (ℕ × DiskError)) (made : MadeCall) (old new : List ℕ)
    → (let history : DiskHistory = record { start = start; calls = calls; failing = failing } in history) ≡ h
    → Grew h start later made → old ≡ bytes_of start calls → new ≡ bytes_after made old → new ≡ bytes_of start later
grew_held h start calls later failing made old new is g held next =
    next ∙ ap (bytes_after made) (held ∙ ap (λ d. bytes_of d.start d.calls) is) ∙ sym (grew_bytes h start later made g)

-- a sync adds no image
pub synced_image : (h : DiskHistory) (ok : Bool) (c : List ℕ)
    → ImageAfter Sync ok (bytes_of h.start h.calls) (IsImage h.start h.calls) c → IsImage h.start h.calls c
synced_image h true c now = bytes_are_image h.start h.calls c (ap (λ (l : List ℕ). Some l) (sym now))
synced_image h false c now = now

-- and after Ok leaves one
pub synced_safe : (h : DiskHistory) (start : List ℕ) (later : List MadeCall) (answer : Result (Unit {0}) DiskError)
    → Grew h start later (let made : MadeCall = record { call = Sync; answer = answer } in made)
    → OnOk answer (OnlyTold (Some (bytes_of start later)) (IsImage start later))
synced_safe h start later (Err e) g = tt
synced_safe h start later (Ok u) g = λ c now.
    let made : MadeCall = record { call = Sync; answer = Ok u } in
    ap (λ (l : List ℕ). Some l) (grew_bytes h start later made g ∙ sym (grew_image h start later made c g now))

-- what comes of one image is among what comes of a set of them
image_of_one : (call : DiskCall) (ok : Bool) (bytes old : List ℕ) (images : List ℕ → Type 0) (c : List ℕ) → images old
    → ImageAfter call ok bytes (λ d. d ≡ old) c → ImageAfter call ok bytes images c
image_of_one (Read at len) ok bytes old images c was now = subst images (sym now) was
image_of_one (Write at put) ok bytes old images c was now = (now.0, subst images (sym now.1) was, now.2)
image_of_one (Cut len) ok bytes old images c was now = (now.0, subst images (sym now.1) was, now.2)
image_of_one Sync true bytes old images c was now = now
image_of_one Sync false bytes old images c was now = subst images (sym now) was

image_of_last : (bytes : List ℕ) (images : List ℕ → Type 0) (calls : List MadeCall) (made : MadeCall) (c : List ℕ)
    → ImageAfter made.call (is_ok made.answer) (bytes_of bytes calls) (ImageOf bytes images calls) c
    → ImageOf bytes images (calls ++ made ∷ []) c
image_of_last bytes images [] made c now = now
image_of_last bytes images (call ∷ calls) made c now =
    image_of_last (bytes_after call bytes) (ImageAfter call.call (is_ok call.answer) bytes images) calls made c now

-- the replay of one call more
pub replayed : (start : List ℕ) (calls later : List MadeCall) (made : MadeCall) (bytes image next : List ℕ)
    → later ≡ calls ++ made ∷ [] → bytes ≡ bytes_of start calls → IsImage start calls image
    → ImageAfter made.call (is_ok made.answer) bytes (λ d. d ≡ image) next → IsImage start later next
replayed start calls later made bytes image next is held was now =
    let from = image_of_one made.call (is_ok made.answer) bytes image (IsImage start calls) next was now in
    let P : List ℕ → Type 0 = λ b. ImageAfter made.call (is_ok made.answer) b (IsImage start calls) next in
    subst (λ l. IsImage start l next) (sym is) (image_of_last start (λ d. d ≡ start) calls made next (subst P held from))
