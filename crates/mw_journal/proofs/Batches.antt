-- What the steps of an append make of an image.
use Rattle.std.proofs.Common.{◌≡◌, ◌≢◌, ◌<◌, ◌≤◌, ◌^◌, ℕ, ◌+◌, List, [], ◌∷◌, ◌++◌, length, get_or, take, drop, sym, ap, subst, ◌∙◌, append_assoc, length-append, take-append-drop, arith}
use Rattle.std.proofs.lemmas.List.{append-nil}
use Rattle.std.specs.Int.{w32, to_be_bytes}
use Rattle.std.specs.List.{concat}
use Rattle.mw_disk.specs.Range.{written}
use Rattle.mw_disk.specs.Crash.{Torn}
use Rattle.mw_journal.specs.Image.{magic, header, measured, batches, AreLaid, Begins, IsShut}
use Rattle.mw_journal.specs.Settled.{IsStaged}
use Rattle.mw_journal.specs.Opening.{Reaches}
use Rattle.mw_journal.proofs.Lifts.{drop_drop}
use Rattle.mw_journal.proofs.Seams.{Seam, torn_behind, put_behind, torn_gate, put_gate}

pub batches_more : (bodies : List (List ℕ)) (body rest : List ℕ)
    → batches (bodies ++ body ∷ []) ++ rest ≡ batches bodies ++ (1 ∷ measured body ++ rest)
batches_more [] body rest = ap (λ l. l ++ rest) (append-nil (1 ∷ measured body))
batches_more (b ∷ bodies) body rest =
    append_assoc (1 ∷ measured b) (batches (bodies ++ body ∷ [])) rest
    ∙ ap (λ l. (1 ∷ measured b) ++ l) (batches_more bodies body rest)
    ∙ sym (append_assoc (1 ∷ measured b) (batches bodies) (1 ∷ measured body ++ rest))

pub concat_more : (bodies : List (List ℕ)) (body : List ℕ) → concat (bodies ++ body ∷ []) ≡ concat bodies ++ body
concat_more [] body = append-nil body
concat_more (b ∷ bodies) body = ap (λ l. b ++ l) (concat_more bodies body) ∙ sym (append_assoc b (concat bodies) body)

pub length-measured : (body : List ℕ) → length (measured body) ≡ 4 + length body
length-measured body = length-append (to_be_bytes w32 (length body)) body

pub laid_more : (place : ℕ) (bodies : List (List ℕ)) (body : List ℕ) → AreLaid place bodies
    → place + length (batches bodies) < 2 ^ 30 → 1 ≤ length body → length body < 2 ^ 32
    → AreLaid place (bodies ++ body ∷ [])
laid_more place [] body laid within some short = (omega (arith, within), some, short, tt)
laid_more place (b ∷ bodies) body laid within some short = (
  laid.0,
  laid.1,
  laid.2,
  laid_more (place + 5 + length b) bodies body laid.3
      (omega (arith, within, length-append (1 ∷ measured b) (batches bodies), length-measured b)) some short,
)

-- an image as a seam at its first gate that isn't open
module _ (image digest : List ℕ) (bodies : List (List ℕ)) (place gate : ℕ) (rest : List ℕ) where
  pub seam_of : Begins image digest bodies place (gate ∷ rest) → Seam image (header digest ++ batches bodies) place gate rest
  seam_of begins = record { parts = begins.layout; size = sym begins.place_is }

  -- another image with the same front
  pub begins_with : (c : List ℕ) (byte : ℕ) (more : List ℕ) → Begins image digest bodies place (gate ∷ rest)
      → Seam c (header digest ++ batches bodies) place byte more → Begins c digest bodies place (byte ∷ more)
  begins_with c byte more begins seam = record {
    layout = seam.parts;
    place_is = begins.place_is;
    digest_size = begins.digest_size;
    laid = begins.laid;
  }

-- whatever is torn behind the gate, the image stands for the same text
pub shut_torn : (image digest text : List ℕ) (place gate count : ℕ) (c : List ℕ) → IsShut image digest text place gate
    → Torn (place + 1) count image c → IsShut c digest text place gate
shut_torn image digest text place gate count c shut torn =
    let seam = seam_of image digest shut.bodies place gate shut.rest shut.begins in
    let after = torn_behind image (header digest ++ batches shut.bodies) place gate shut.rest seam count c torn in
    record {
      bodies = shut.bodies;
      rest = drop (place + 1) c;
      begins = begins_with image digest shut.bodies place gate shut.rest c gate (drop (place + 1) c) shut.begins after;
      shut = shut.shut;
      within = shut.within;
      joined = shut.joined;
    }

-- a batch written behind the gate is staged
pub shut_put : (image digest text body put : List ℕ) (place gate : ℕ) → IsShut image digest text place gate
    → put ≡ measured body ++ 0 ∷ [] → 1 ≤ length body → place + 5 + length body < 2 ^ 30
    → IsStaged (written (place + 1) put image) digest text body place
shut_put image digest text body put place gate shut is some within =
    let seam = seam_of image digest shut.bodies place gate shut.rest shut.begins in
    let behind = drop (length put) shut.rest in
    let after = put_behind image (header digest ++ batches shut.bodies) place gate shut.rest seam put in
    let parts : put ++ behind ≡ measured body ++ 0 ∷ behind =
    ap (λ l. l ++ behind) is ∙ append_assoc (measured body) (0 ∷ []) behind in
    record {
      bodies = shut.bodies;
      gate = gate;
      rest = behind;
      begins = subst (λ l. Begins (written (place + 1) put image) digest shut.bodies place (gate ∷ l)) parts
          (begins_with image digest shut.bodies place gate shut.rest (written (place + 1) put image) gate (put ++ behind) shut.begins after);
      some = some;
      within = within;
      joined = shut.joined;
    }

-- its gate may be torn
pub staged_torn : (image digest text body : List ℕ) (place : ℕ) (c : List ℕ) → IsStaged image digest text body place
    → Torn place 1 image c → IsStaged c digest text body place
staged_torn image digest text body place c staged torn =
    let rest = measured body ++ 0 ∷ staged.rest in
    let seam = seam_of image digest staged.bodies place staged.gate rest staged.begins in
    let after = torn_gate image (header digest ++ batches staged.bodies) place staged.gate rest seam c torn in
    record {
      bodies = staged.bodies;
      gate = get_or c place 0;
      rest = staged.rest;
      begins = begins_with image digest staged.bodies place staged.gate rest c (get_or c place 0) rest staged.begins after;
      some = staged.some;
      within = staged.within;
      joined = staged.joined;
    }

-- a batch behind an open gate counts
pub opened : (image digest text body rest : List ℕ) (bodies : List (List ℕ)) (place : ℕ)
    → Begins image digest bodies place (1 ∷ measured body ++ 0 ∷ rest) → 1 ≤ length body
    → place + 5 + length body < 2 ^ 30 → text ≡ concat bodies
    → IsShut image digest (text ++ body) (place + 5 + length body) 0
opened image digest text body rest bodies place begins some within joined =
    let front = header digest ++ batches bodies in
    let behind : batches (bodies ++ body ∷ []) ≡ batches bodies ++ (1 ∷ measured body) =
    sym (append-nil (batches (bodies ++ body ∷ []))) ∙ batches_more bodies body [] ∙ ap (λ l. batches bodies ++ l) (append-nil (1 ∷ measured body)) in
    let whole : header digest ++ batches (bodies ++ body ∷ []) ≡ front ++ (1 ∷ measured body) =
    ap (λ l. header digest ++ l) behind ∙ sym (append_assoc (header digest) (batches bodies) (1 ∷ measured body)) in
    let at_place : place ≡ 40 + length (batches bodies) =
    omega (arith, begins.place_is, begins.digest_size, length-append (header digest) (batches bodies), length-append magic digest) in
    record {
      bodies = bodies ++ body ∷ [];
      rest = rest;
      begins = record {
        layout = begins.layout ∙ sym (append_assoc front (1 ∷ measured body) (0 ∷ rest)) ∙ ap (λ l. l ++ 0 ∷ rest) (sym whole);
        place_is = omega (arith, begins.place_is, ap length whole, length-append front (1 ∷ measured body), length-measured body);
        digest_size = begins.digest_size;
        laid = laid_more 40 bodies body begins.laid (omega (arith, at_place, within)) some (omega (arith, within));
      };
      shut = λ is. cc;
      within = within;
      joined = ap (λ l. l ++ body) joined ∙ sym (concat_more bodies body);
    }

pub staged_opened : (image digest text body : List ℕ) (place : ℕ) → IsStaged image digest text body place
    → IsShut (written place (1 ∷ []) image) digest (text ++ body) (place + 5 + length body) 0
staged_opened image digest text body place staged =
    let rest = measured body ++ 0 ∷ staged.rest in
    let seam = seam_of image digest staged.bodies place staged.gate rest staged.begins in
    let after = put_gate image (header digest ++ batches staged.bodies) place staged.gate rest seam 1 in
    opened (written place (1 ∷ []) image) digest text body staged.rest staged.bodies place
    (begins_with image digest staged.bodies place staged.gate rest (written place (1 ∷ []) image) 1 rest staged.begins after)
    staged.some staged.within staged.joined

-- one more batch behind those that were read
pub reaches_more : (f digest text text_1 body : List ℕ) (place size : ℕ) → Reaches f digest text place
    → drop place f ≡ (1 ∷ to_be_bytes w32 size) ++ drop (place + 5) f → body ≡ take size (drop (place + 5) f) → length body ≡ size
    → place < 2 ^ 30 → 1 ≤ size → size < 2 ^ 32 → text_1 ≡ text ++ body
    → Reaches f digest text_1 (place + (5 + size))
reaches_more f digest text text_1 body place size reaches seen body_is body_size near some short more =
    let bodies = reaches.0 in
    let begins = reaches.1 in
    let front = header digest ++ batches bodies in
    let behind : batches (bodies ++ body ∷ []) ≡ batches bodies ++ (1 ∷ measured body) =
    sym (append-nil (batches (bodies ++ body ∷ []))) ∙ batches_more bodies body [] ∙ ap (λ l. batches bodies ++ l) (append-nil (1 ∷ measured body)) in
    let whole : header digest ++ batches (bodies ++ body ∷ []) ≡ front ++ (1 ∷ measured body) =
    ap (λ l. header digest ++ l) behind ∙ sym (append_assoc (header digest) (batches bodies) (1 ∷ measured body)) in
    let at_place : place ≡ 40 + length (batches bodies) =
    omega (arith, begins.place_is, begins.digest_size, length-append (header digest) (batches bodies), length-append magic digest) in
    let rest_is : drop (place + 5) f ≡ body ++ drop (place + (5 + size)) f =
    sym (take-append-drop size (drop (place + 5) f))
    ∙ (λ i. sym body_is i ++ drop size (drop (place + 5) f))
    ∙ ap (λ l. body ++ l) (drop_drop (place + 5) size f ∙ ap (λ n. drop n f) (let n : place + 5 + size ≡ place + (5 + size) = omega arith in n)) in
    let tail : drop place f ≡ (1 ∷ measured body) ++ drop (place + (5 + size)) f =
    seen ∙ ap (λ l. (1 ∷ to_be_bytes w32 size) ++ l) rest_is
    ∙ ap (λ n. (1 ∷ to_be_bytes w32 n) ++ (body ++ drop (place + (5 + size)) f)) (sym body_size)
    ∙ sym (append_assoc (1 ∷ to_be_bytes w32 (length body)) body (drop (place + (5 + size)) f)) in (
      bodies ++ body ∷ [],
      record {
        layout = begins.layout ∙ ap (λ l. front ++ l) tail
            ∙ sym (append_assoc front (1 ∷ measured body) (drop (place + (5 + size)) f))
            ∙ ap (λ l. l ++ drop (place + (5 + size)) f) (sym whole);
        place_is = omega (arith, begins.place_is, ap length whole, length-append front (1 ∷ measured body), length-measured body, body_size);
        digest_size = begins.digest_size;
        laid = laid_more 40 bodies body begins.laid (omega (arith, at_place, near)) (omega (arith, body_size, some)) (omega (arith, body_size, short));
      },
      more ∙ ap (λ l. l ++ body) reaches.2 ∙ sym (concat_more bodies body),
    )

-- the first gate that isn't open
pub reaches_shut : (f digest text : List ℕ) (place gate : ℕ) → Reaches f digest text place
    → drop place f ≡ gate ∷ drop (place + 1) f → gate ≢ 1 → place < 2 ^ 30 → IsShut f digest text place gate
reaches_shut f digest text place gate reaches seen shut near = record {
  bodies = reaches.0;
  rest = drop (place + 1) f;
  begins = subst (λ l. Begins f digest reaches.0 place l) seen reaches.1;
  shut = shut;
  within = near;
  joined = reaches.2;
}

-- a gate that isn't open may be written 0
pub shut_closed : (image digest text : List ℕ) (place gate : ℕ) → IsShut image digest text place gate
    → IsShut (written place (0 ∷ []) image) digest text place 0
shut_closed image digest text place gate shut =
    let seam = seam_of image digest shut.bodies place gate shut.rest shut.begins in
    let after = put_gate image (header digest ++ batches shut.bodies) place gate shut.rest seam 0 in
    record {
      bodies = shut.bodies;
      rest = shut.rest;
      begins = begins_with image digest shut.bodies place gate shut.rest (written place (0 ∷ []) image) 0 shut.rest shut.begins after;
      shut = λ is. omega (arith, is);
      within = shut.within;
      joined = shut.joined;
    }
