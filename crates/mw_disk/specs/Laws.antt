-- The laws of a disk in memory.
use Rattle.std.specs.Prelude.{◌≡◌, ◌≤◌, ℕ, ◌+◌, ◌-◌, ◌++◌, min, max, List, [], ◌∷◌, length, take, drop, replicate, Bool, true, false, Some, is_ok, if◌then◌else◌}
use Rattle.std.proofs.Common.{refl, sym, ap, subst, ◌∙◌, arith, length-append, length-take, length-drop, append_assoc}
use Rattle.std.proofs.lemmas.List.{take_all, take_at, drop_at, take_min, length-replicate}
use Rattle.mw_disk.specs.declared.calls.DiskCall.{DiskCall}
use Rattle.mw_disk.specs.declared.calls.DiskCall.TheVariants.{Read, Write, Cut, Sync}
use Rattle.mw_disk.specs.declared.calls.MadeCall.{MadeCall}
use Rattle.mw_disk.specs.Range.{written}
use Rattle.mw_disk.specs.Crash.{Torn, CutShort}
use Rattle.mw_disk.specs.Calls.{bytes_of, bytes_after, done, ImageAfter, ImageOf, IsImage, IsImageSince}

abbrev zeros : ℕ → List ℕ
zeros n = replicate n 0

length-zeros : (n : ℕ) → length (zeros n) ≡ n
length-zeros n = let zero_byte : ℕ = 0 in length-replicate n zero_byte

-- a write that changed nothing
pub unwritten_torn : (at count : ℕ) (bytes : List ℕ) → Torn at count bytes bytes
unwritten_torn at count bytes = record {
  front = take_least at bytes;
  back = refl;
  no_shorter = omega arith;
  no_longer = omega arith;
}
  where
    take_least : (n : ℕ) (xs : List ℕ) → take (min n (length xs)) xs ≡ take n xs
    take_least n xs = take_min n xs

-- what a whole write leaves, a crash of it may leave
pub written_torn : (at : ℕ) (put bytes : List ℕ) → Torn at (length put) bytes (written at put bytes)
written_torn at put bytes =
    let front = take at bytes in
    let gap = zeros (at - length bytes) in
    let end = at + length put in
    let size : length (front ++ gap)
    ≡ at = omega (
      arith,
      length-append front gap,
      length-take at bytes,
      length-zeros
          (at - length bytes),
    ) in
    let front_put : length (front ++ gap ++ put)
    ≡ end = omega (arith, size, length-append (front ++ gap) put) in
    record {
      front = ap (λ l. take (min at (length bytes)) l)
          (append_assoc (front ++ gap) put (drop end bytes) ∙ append_assoc front gap
          (put ++ drop end bytes))
          ∙ take_at front (gap ++ (put ++ drop end bytes)) (min at (length bytes))
          (omega (arith, length-take at bytes));
      back = drop_at (front ++ gap ++ put) (drop end bytes) end front_put;
      no_shorter = omega (
        arith,
        front_put,
        length-append (front ++ gap ++ put) (drop end bytes),
        length-drop end
            bytes,
      );
      no_longer = omega (
        arith,
        front_put,
        length-append (front ++ gap ++ put) (drop end bytes),
        length-drop end
            bytes,
      );
    }

-- a cut that changed nothing
pub uncut : (len : ℕ) (bytes : List ℕ) → CutShort len bytes bytes
uncut len bytes = (
  max len (length bytes),
  omega arith,
  sym
      (take_all (max len (length bytes)) bytes (omega arith)),
)

-- what a read gives after a call, a crash may leave
done_is_image : (call : DiskCall) (ok : Bool) (bytes : List ℕ) (images : List ℕ → Type 0)
    → images bytes
    → ImageAfter call ok bytes images (if ok then done call bytes else bytes)
done_is_image (Read at len) true bytes images now = now
done_is_image (Read at len) false bytes images now = now
done_is_image (Write at put) true bytes images now = (bytes, now, written_torn at put bytes)
done_is_image (Write at put) false bytes images now =
    (bytes, now, unwritten_torn at (length put) bytes)
done_is_image (Cut len) true bytes images now = (bytes, now, (len, omega arith, refl))
done_is_image (Cut len) false bytes images now = (bytes, now, uncut len bytes)
done_is_image Sync true bytes images now = refl
done_is_image Sync false bytes images now = now

told_is_image : (calls : List MadeCall) (bytes : List ℕ) (images : List ℕ → Type 0) → images bytes
    → ImageOf bytes images calls (bytes_of bytes calls)
told_is_image [] bytes images now = now
told_is_image (made ∷ calls) bytes images now =
    told_is_image calls (bytes_after made bytes)
    (ImageAfter made.call (is_ok made.answer) bytes images)
    (done_is_image made.call (is_ok made.answer) bytes images now)

pub bytes_are_image : (start : List ℕ) (calls : List MadeCall) (c : List ℕ)
    → Some (bytes_of start calls) ≡ Some c → IsImage start calls c
bytes_are_image start calls c is =
    let same : bytes_of start calls ≡ c = cc in
    subst (IsImage start calls) same (told_is_image calls start (λ d. d ≡ start) refl)

pub counts_now : (start : List ℕ) (calls : List MadeCall) (t : ℕ) (c : List ℕ)
    → t ≤ length calls → IsImage start calls c → IsImageSince start calls t c
counts_now start calls t c le now = (
  length calls,
  le,
  omega arith,
  subst (λ l. IsImage start l c)
      (sym (take_all (length calls) calls (omega arith))) now,
)

pub only_now : (start : List ℕ) (calls : List MadeCall) (c : List ℕ)
    → IsImageSince start calls (length calls) c → IsImage start calls c
only_now start calls c left =
    subst (λ l. IsImage start l c) (take_all left.0 calls left.1) left.3
