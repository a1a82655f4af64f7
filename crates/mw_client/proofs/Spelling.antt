-- Entries and bodies are what their bytes say.
use Rattle.std.proofs.Common.{◌≡◌, ◌<◌, ◌≤◌, ◌^◌, ◌+◌, ◌*◌, ℕ, ℤ, pos, negsuc, Bool, true, false, List, [], ◌∷◌, ◌++◌, length, take, drop, get_or, refl, sym, ap, ◌∙◌, append_assoc, arith, length-append, length-drop}
use Rattle.std.specs.Prelude.{FitsSigned}
use Rattle.std.specs.Int.{w16, w32, w64, cast_signed, cast_unsigned, from_be_bytes, to_be_bytes}
use Rattle.std.specs.List.{flat_map, AllByRecursion}
use Rattle.std.proofs.lemmas.Int.{to_z-of_z}
use Rattle.std.proofs.lemmas.List.{take-append-drop}
use Rattle.std.proofs.lemmas.Nat.{from_be_bytes-to_be_bytes_2, from_be_bytes-to_be_bytes_4, from_be_bytes-to_be_bytes_8}
use Rattle.mw_model.specs.Items.{NetItem}
use Rattle.mw_client.specs.Bodies.{Begins, Body, IsBody, IsEntry, body_bytes, entry_bytes, kind_byte, long_bytes, short_bytes}

-- ---- entries

cast_below : (z : ℤ) → FitsSigned w64 z → cast_unsigned w64 z < 2 ^ 64
cast_below (pos n) h = omega (arith, h.sfits)
cast_below (negsuc n) h = omega arith

signed_back : (z : ℤ) → FitsSigned w64 z → cast_signed w64 (from_be_bytes w64 (to_be_bytes w64 (cast_unsigned w64 z))) ≡ z
signed_back z h = ap (cast_signed w64) (from_be_bytes-to_be_bytes_8 (cast_unsigned w64 z) (cast_below z h)) ∙ to_z-of_z w64 z h

abbrev made : ℤ → ℤ → ℕ → ℕ → NetItem
made item location player flags =
    record { item = item; location = location; player = player; flags = flags }

abbrev signed_in : List ℕ → ℤ
signed_in bytes = cast_signed w64 (from_be_bytes w64 (take 8 bytes))

-- the entry that begins some bytes
abbrev entry_in : List ℕ → NetItem
entry_in bytes =
    made (signed_in bytes) (signed_in (drop 8 bytes)) (from_be_bytes w16 (take 2 (drop 16 bytes))) (get_or bytes 18 0)

abbrev again : ℤ → ℤ
again z = cast_signed w64 (from_be_bytes w64 (to_be_bytes w64 (cast_unsigned w64 z)))

entry_again : (i : NetItem) (rest : List ℕ) → IsEntry i → entry_in (entry_bytes i ++ rest) ≡ i
unfolding long_bytes short_bytes
entry_again i rest h =
    let player : ℕ = from_be_bytes w16 (to_be_bytes w16 i.player) in
    ap (λ (z : ℤ). made z (again i.location) player i.flags) (signed_back i.item h.item)
    ∙ ap (λ (z : ℤ). made i.item z player i.flags) (signed_back i.location h.location)
    ∙ ap (λ (n : ℕ). made i.item i.location n i.flags) (from_be_bytes-to_be_bytes_2 i.player h.player)

-- the parts of nineteen bytes
pub parts_of : (bytes a b p : List ℕ) (f : ℕ) → length bytes ≡ 19 → a ≡ take 8 bytes → b ≡ take 8 (drop 8 bytes) → p ≡ take 2 (drop 8 (drop 8 bytes)) → f ≡ get_or (drop 2 (drop 8 (drop 8 bytes))) 0 0
    → a ++ b ++ p ++ f ∷ [] ≡ bytes
parts_of bytes a b p f len ea eb ep ef =
    let two : List ℕ = drop 8 bytes in
    let three : List ℕ = drop 8 two in
    let last : List ℕ = drop 2 three in
    let one : f ∷ [] ≡ last =
    ap (λ (n : ℕ). n ∷ []) ef ∙ sym (one_long last (omega (arith, len, length-drop 8 bytes, length-drop 8 two, length-drop 2 three))) in
    append_assoc (a ++ b) p (f ∷ []) ∙ append_assoc a b (p ++ f ∷ [])
    ∙ ap (λ (x : List ℕ). x ++ (b ++ (p ++ f ∷ []))) ea
    ∙ ap (λ (x : List ℕ). take 8 bytes ++ (x ++ (p ++ f ∷ []))) eb
    ∙ ap (λ (x : List ℕ). take 8 bytes ++ (take 8 two ++ (x ++ f ∷ []))) ep
    ∙ ap (λ (x : List ℕ). take 8 bytes ++ (take 8 two ++ (take 2 three ++ x))) one
    ∙ ap (λ (x : List ℕ). take 8 bytes ++ (take 8 two ++ x)) (take-append-drop 2 three)
    ∙ ap (λ (x : List ℕ). take 8 bytes ++ x) (take-append-drop 8 two)
    ∙ take-append-drop 8 bytes
  where
    one_long : (l : List ℕ) → length l ≡ 1 → l ≡ get_or l 0 0 ∷ []
    one_long [] e = absurd (omega (arith, e))
    one_long (x ∷ []) e = refl
    one_long (x ∷ y ∷ l) e = absurd (omega (arith, e))

-- an item whose numbers went through 64 bits
pub entry_spelled : (item location : ℤ) (player flags : ℕ) (i : NetItem) (bytes : List ℕ) → FitsSigned w64 item → FitsSigned w64 location
    → i ≡ made (cast_signed w64 (cast_unsigned w64 item)) (cast_signed w64 (cast_unsigned w64 location)) player flags → long_bytes item ++ long_bytes location ++ short_bytes player ++ flags ∷ [] ≡ bytes
    → entry_bytes i ≡ bytes
entry_spelled item location player flags i bytes fits fits2 is spelled =
    ap (λ (j : NetItem). entry_bytes j) is
    ∙ ap (λ (z : ℤ). entry_bytes (made z (cast_signed w64 (cast_unsigned w64 location)) player flags)) (to_z-of_z w64 item fits)
    ∙ ap (λ (z : ℤ). entry_bytes (made item z player flags)) (to_z-of_z w64 location fits2)
    ∙ spelled

pub entries_length : (xs : List NetItem) → length (flat_map entry_bytes xs) ≡ 19 * length xs
unfolding long_bytes short_bytes
entries_length [] = refl
entries_length (i ∷ xs) =
    omega (arith, entries_length xs, length-append (entry_bytes i) (flat_map entry_bytes xs))

entries_same : (xs ys : List NetItem) (x y : List ℕ) → length xs ≡ length ys → AllByRecursion IsEntry xs → AllByRecursion IsEntry ys
    → flat_map entry_bytes xs ++ x ≡ flat_map entry_bytes ys ++ y → (xs ≡ ys) × (x ≡ y)
unfolding long_bytes short_bytes
entries_same [] [] x y n a b e = (refl, e)
entries_same [] (j ∷ ys) x y n a b e = absurd (omega (arith, n))
entries_same (i ∷ xs) [] x y n a b e = absurd (omega (arith, n))
entries_same (i ∷ xs) (j ∷ ys) x y n a b e =
    let left : List ℕ = flat_map entry_bytes xs ++ x in
    let right : List ℕ = flat_map entry_bytes ys ++ y in
    let grouped : entry_bytes i ++ left ≡ entry_bytes j ++ right =
    sym (append_assoc (entry_bytes i) (flat_map entry_bytes xs) x) ∙ e ∙ append_assoc (entry_bytes j) (flat_map entry_bytes ys) y in
    let same : i ≡ j = sym (entry_again i left a.0) ∙ ap entry_in grouped ∙ entry_again j right b.0 in
    let rest : left ≡ right = ap (drop 19) grouped in
    let more = entries_same xs ys x y (omega (arith, n)) a.1 b.1 rest in
    (ap (λ (k : NetItem). k ∷ xs) same ∙ ap (λ (ks : List NetItem). j ∷ ks) more.0, more.1)

-- ---- bodies

kind_same : (p q : Bool) → kind_byte p ≡ kind_byte q → p ≡ q
kind_same true true e = refl
kind_same true false e = absurd (omega (arith, e))
kind_same false true e = absurd (omega (arith, e))
kind_same false false e = refl

abbrev body : Bool → List NetItem → Body
body replaces items = record { replaces = replaces; items = items }

-- no body's bytes begin another's
pub body_same : (b c : Body) (x y : List ℕ) → IsBody b → IsBody c → body_bytes b ++ x ≡ body_bytes c ++ y → (b ≡ c) × (x ≡ y)
body_same b c x y h k e =
    let kind : b.replaces ≡ c.replaces = kind_same b.replaces c.replaces (ap (λ (l : List ℕ). get_or l 0 0) e) in
    let count : length b.items ≡ length c.items =
    sym (from_be_bytes-to_be_bytes_4 (length b.items) h.few) ∙ ap (λ (l : List ℕ). from_be_bytes w32 (take 4 (drop 1 l))) e ∙ from_be_bytes-to_be_bytes_4 (length c.items) k.few in
    let rest : flat_map entry_bytes b.items ++ x ≡ flat_map entry_bytes c.items ++ y = ap (drop 5) e in
    let same = entries_same b.items c.items x y count h.entries k.entries rest in
    (ap (λ (r : Bool). body r b.items) kind ∙ ap (λ (l : List NetItem). body c.replaces l) same.0, same.1)

-- ---- what begins a text that a body begins

pub begun_kind : (text : List ℕ) (b : Body) → Begins text b → get_or text 0 0 ≡ kind_byte b.replaces
begun_kind text b h = ap (λ (l : List ℕ). get_or l 0 0) h.layout

pub begun_count : (text : List ℕ) (b : Body) → Begins text b → from_be_bytes w32 (take 4 (drop 1 text)) ≡ length b.items
begun_count text b h = ap (λ (l : List ℕ). from_be_bytes w32 (take 4 (drop 1 l))) h.layout ∙ from_be_bytes-to_be_bytes_4 (length b.items) h.is.few

pub begun_length : (text : List ℕ) (b : Body) → Begins text b → 5 + 19 * length b.items ≤ length text
begun_length text b h =
    omega (arith, ap length h.layout, length-append (flat_map entry_bytes b.items) h.rest, entries_length b.items)
