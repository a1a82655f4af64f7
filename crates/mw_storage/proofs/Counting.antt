-- What stands once a value is kept under a key.
use Rattle.std.proofs.Common.{◌≡◌, ◌+◌, ℕ, Bool, true, false, List, [], ◌∷◌, length, Option, Some, None, bytes_eq, refl, ap, sym, subst, option_map, arith}
use Rattle.std.specs.Prelude.{if◌then◌else◌, IfSome}
use denote.Ref.{Bor}
use Rattle.mw_json.specs.View.{view}
use Rattle.mw_json.specs.declared.tree.Tree.{Tree}
use Rattle.mw_model.specs.Json.{Json}
use Rattle.mw_model.specs.Spelling.{spelling}
use Rattle.mw_protocol.specs.Storage.{Kept, put, value_of, bytes_kept}
use Rattle.mw_storage.specs.Stored.{AreKept, IsKeepable}

-- where the key stands, its value gives way
pub counted_there : (key : List ℕ) (old new : Json) (kept : List Kept) → value_of key kept ≡ Some old
    → bytes_kept (put key new kept) + length (spelling old) ≡ bytes_kept kept + length (spelling new)
counted_there key old new [] h = cc
counted_there key old new (k ∷ ks) h = by (bytes_eq key k.key) (counted_there key old new ks) h
  where
    by : (b : Bool) → (value_of key ks ≡ Some old → bytes_kept (put key new ks) + length (spelling old) ≡ bytes_kept ks + length (spelling new))
        → (if b then Some k.value else value_of key ks) ≡ Some old
        → bytes_kept (if b then record { key = k.key; value = new } ∷ ks else k ∷ put key new ks) + length (spelling old) ≡ bytes_kept (k ∷ ks) + length (spelling new)
    by true rest h = let is : k.value ≡ old = cc in omega (arith, ap (λ j. length (spelling j)) is)
    by false rest h = omega (arith, rest h)

-- a new key comes with its value
pub counted_new : (key : List ℕ) (new : Json) (kept : List Kept) → value_of key kept ≡ None
    → bytes_kept (put key new kept) ≡ bytes_kept kept + length key + length (spelling new)
counted_new key new [] h = omega arith
counted_new key new (k ∷ ks) h = by (bytes_eq key k.key) (counted_new key new ks) h
  where
    by : (b : Bool) → (value_of key ks ≡ None → bytes_kept (put key new ks) ≡ bytes_kept ks + length key + length (spelling new))
        → (if b then Some k.value else value_of key ks) ≡ None
        → bytes_kept (if b then record { key = k.key; value = new } ∷ ks else k ∷ put key new ks) ≡ bytes_kept (k ∷ ks) + length key + length (spelling new)
    by true rest h = cc
    by false rest h = omega (arith, rest h)

-- a key that stands makes no more keys, a new one makes one more
pub keys_there : (key : List ℕ) (old new : Json) (kept : List Kept) → value_of key kept ≡ Some old → length (put key new kept) ≡ length kept
keys_there key old new [] h = cc
keys_there key old new (k ∷ ks) h = by (bytes_eq key k.key) (keys_there key old new ks) h
  where
    by : (b : Bool) → (value_of key ks ≡ Some old → length (put key new ks) ≡ length ks)
        → (if b then Some k.value else value_of key ks) ≡ Some old
        → length (if b then record { key = k.key; value = new } ∷ ks else k ∷ put key new ks) ≡ length (k ∷ ks)
    by true rest h = refl
    by false rest h = omega (arith, rest h)

pub keys_new : (key : List ℕ) (new : Json) (kept : List Kept) → value_of key kept ≡ None → length (put key new kept) ≡ length kept + 1
keys_new key new [] h = refl
keys_new key new (k ∷ ks) h = by (bytes_eq key k.key) (keys_new key new ks) h
  where
    by : (b : Bool) → (value_of key ks ≡ None → length (put key new ks) ≡ length ks + 1)
        → (if b then Some k.value else value_of key ks) ≡ None
        → length (if b then record { key = k.key; value = new } ∷ ks else k ∷ put key new ks) ≡ length (k ∷ ks) + 1
    by true rest h = cc
    by false rest h = omega (arith, rest h)

-- what holds of each value that is kept holds of a key's, and of all with a new one
pub value_kept : (key : List ℕ) (kept : List Kept) → AreKept kept → IfSome (value_of key kept) IsKeepable
value_kept key [] h = tt
value_kept key (k ∷ ks) h = by (bytes_eq key k.key) (value_kept key ks h.1)
  where
    by : (b : Bool) → IfSome (value_of key ks) IsKeepable → IfSome (if b then Some k.value else value_of key ks) IsKeepable
    by true rest = h.0
    by false rest = rest

pub put_kept : (key : List ℕ) (new : Json) (kept : List Kept) → IsKeepable new → AreKept kept → AreKept (put key new kept)
put_kept key new [] n h = (n, tt)
put_kept key new (k ∷ ks) n h = by (bytes_eq key k.key) (put_kept key new ks n h.1)
  where
    by : (b : Bool) → AreKept (put key new ks) → AreKept (if b then record { key = k.key; value = new } ∷ ks else k ∷ put key new ks)
    by true rest = (n, h.1)
    by false rest = (h.0, rest)

pub found_kept : (found : Option (Bor Tree)) (value : Option Json) → option_map (λ t. view t.now) found ≡ value → IfSome value IsKeepable → IfSome found (λ t. IsKeepable (view t.now))
found_kept None value e h = tt
found_kept (Some t) value e h = subst (λ v. IfSome v IsKeepable) (sym e) h
