-- Bytes that are written, or torn, behind a front that stays.
use Rattle.std.proofs.Common.{◌≡◌, ℕ, ◌+◌, min, List, [], ◌∷◌, ◌++◌, length, get_or, take, drop, sym, ap, ◌∙◌, append_assoc, length-append, take-append-drop, arith}
use Rattle.std.proofs.lemmas.List.{take_at, drop_at, drop_more}
use Rattle.std.proofs.Math.Seq.{drop-append-add}
use Rattle.mw_disk.specs.Range.{written}
use Rattle.mw_disk.specs.Crash.{Torn}
use Rattle.mw_disk.proofs.Ranges.{within_written}

-- a front of so many bytes, a gate, and the rest
pub record Seam (image front : List ℕ) (place gate : ℕ) (rest : List ℕ) : Type 0 where
  pub parts : image ≡ front ++ gate ∷ rest
  pub size : length front ≡ place

module _ (image front : List ℕ) (place gate : ℕ) (rest : List ℕ) (seam : Seam image front place gate rest) where
  long : length image ≡ place + 1 + length rest
  long = omega (arith, ap length seam.parts, length-append front (gate ∷ rest), seam.size)

  past : image ≡ (front ++ gate ∷ []) ++ rest
  past = seam.parts ∙ sym (append_assoc front (gate ∷ []) rest)

  past_size : length (front ++ gate ∷ []) ≡ place + 1
  past_size = omega (arith, length-append front (gate ∷ []), seam.size)

  -- whatever is torn behind the gate, front and gate stay
  pub torn_behind : (count : ℕ) (c : List ℕ) → Torn (place + 1) count image c → Seam c front place gate (drop (place + 1) c)
  torn_behind count c torn =
      let whole : min (place + 1) (length image) ≡ place + 1 = omega (arith, long) in
      let kept : take (place + 1) c ≡ front ++ gate ∷ [] =
      ap (λ n. take n c) (sym whole) ∙ torn.front ∙ ap (take (place + 1)) past ∙ take_at (front ++ gate ∷ []) rest (place + 1) past_size in
      record {
        parts = sym (take-append-drop (place + 1) c) ∙ ap (λ l. l ++ drop (place + 1) c) kept ∙ append_assoc front (gate ∷ []) (drop (place + 1) c);
        size = seam.size;
      }

  -- bytes that were written behind the gate
  pub put_behind : (put : List ℕ) → Seam (written (place + 1) put image) front place gate (put ++ drop (length put) rest)
  put_behind put =
      let kept : take (place + 1) image ≡ front ++ gate ∷ [] = ap (take (place + 1)) past ∙ take_at (front ++ gate ∷ []) rest (place + 1) past_size in
      let left : drop (place + 1 + length put) image ≡ drop (length put) rest =
      ap (drop (place + 1 + length put)) past ∙ ap (λ n. drop (n + length put) ((front ++ gate ∷ []) ++ rest)) (sym past_size) ∙ drop-append-add (front ++ gate ∷ []) rest (length put) in
      record {
        parts = sym (within_written (place + 1) put image (omega (arith, long)))
            ∙ (λ i. kept i ++ put ++ left i)
            ∙ append_assoc (front ++ gate ∷ []) put (drop (length put) rest)
            ∙ append_assoc front (gate ∷ []) (put ++ drop (length put) rest);
        size = seam.size;
      }

  -- a torn gate may hold any byte, and all else stays
  pub torn_gate : (c : List ℕ) → Torn place 1 image c → Seam c front place (get_or c place 0) rest
  torn_gate c torn =
      let whole : min place (length image) ≡ place = omega (arith, long) in
      let kept : take place c ≡ front = ap (λ n. take n c) (sym whole) ∙ torn.front ∙ ap (take place) seam.parts ∙ take_at front (gate ∷ rest) place seam.size in
      let behind : drop (place + 1) c ≡ rest = torn.back ∙ ap (drop (place + 1)) past ∙ drop_at (front ++ gate ∷ []) rest (place + 1) past_size in
      let split : drop place c ≡ get_or c place 0 ∷ rest = drop_more c place 0 (omega (arith, long, torn.no_shorter)) ∙ ap (λ l. get_or c place 0 ∷ l) behind in
      record {
        parts = sym (take-append-drop place c) ∙ (λ i. kept i ++ split i);
        size = seam.size;
      }

  -- a gate that was written
  pub put_gate : (byte : ℕ) → Seam (written place (byte ∷ []) image) front place byte rest
  put_gate byte =
      let kept : take place image ≡ front = ap (take place) seam.parts ∙ take_at front (gate ∷ rest) place seam.size in
      let behind : drop (place + 1) image ≡ rest = ap (drop (place + 1)) past ∙ drop_at (front ++ gate ∷ []) rest (place + 1) past_size in
      record {
        parts = sym (within_written place (byte ∷ []) image (omega (arith, long)))
            ∙ (λ i. kept i ++ (byte ∷ []) ++ behind i) ∙ append_assoc front (byte ∷ []) rest;
        size = seam.size;
      }
