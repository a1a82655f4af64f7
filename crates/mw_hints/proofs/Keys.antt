-- A map's entries beside the hints that they stand for.
use Rattle.std.proofs.Common.{◌≡◌, ℕ, ℤ, ◌==◌, ◌&&◌, List, [], ◌∷◌, ◌++◌, Bool, true, false, Some, None, map, option_map, refl, sym, ap, ◌∙◌, cond}
use Rattle.std.specs.Bool.{Decides}
use Rattle.std.specs.Map.{lookup}
use Rattle.std.specs.Ordering.{int_eq}
use Rattle.std.proofs.lemmas.Bool.Decides.{Decides-and, Decides-eqb, Decides-int_eq}
use Rattle.indexmap.specs.IndexMap.{insert_entry}
use Rattle.mw_protocol.specs.HintList.{is_at, hint_at, marked, with_status}
use Rattle.mw_protocol.specs.Records.{Hint}
use Rattle.mw_hints.specs.Book.{hint_of}
use Rattle.mw_hints.specs.declared.kept.Kept.{Kept}

abbrev pub Key : Type 0
Key = ℕ × ℕ × ℤ

abbrev pub Entries : Type 0
Entries = List (Key × Kept)

abbrev pub same_key : Key → Key → Bool
same_key k q = ((k.0 == q.0) && (k.1 == q.1)) && int_eq k.2 q.2

bools_same : (a b : Bool) → (a ≡ true → b ≡ true) → (b ≡ true → a ≡ true) → a ≡ b
bools_same true b f g = sym (f refl)
bools_same false true f g = g refl
bools_same false false f g = refl

tells_key : (k q : Key) → Decides (same_key k q) (((k.0 ≡ q.0) × (k.1 ≡ q.1)) × (k.2 ≡ q.2))
tells_key k q =
    Decides-and ((k.0 == q.0) && (k.1 == q.1)) (int_eq k.2 q.2) (Decides-and (k.0 == q.0) (k.1 == q.1) (Decides-eqb k.0 q.0) (Decides-eqb k.1 q.1)) (Decides-int_eq k.2 q.2)

-- a key is an entry's where the entry's hint is at it
same_test : (k : Key) (e : Key × Kept) → same_key k e.0 ≡ is_at k.0 k.1 k.2 (hint_of e)
same_test k e =
    bools_same (same_key k e.0) (same_key e.0 k)
    (λ h. let parts = (tells_key k e.0).0 h in (tells_key e.0 k).1 ((sym parts.0.0, sym parts.0.1), sym parts.1))
    (λ h. let parts = (tells_key e.0 k).0 h in (tells_key k e.0).1 ((sym parts.0.0, sym parts.0.1), sym parts.1))

own_hint : (k : Key) (e : Key × Kept) → same_key k e.0 ≡ true → hint_of (k, e.1) ≡ hint_of e
own_hint k e h =
    let parts = (tells_key k e.0).0 h in
    λ i. record { team = parts.0.0 i; finder = parts.0.1 i; location = parts.1 i; bought = e.1.bought; buyer = e.1.buyer; status = e.1.status }

pub hint_found : (k : Key) (es : Entries) → option_map (λ x. hint_of (k, x)) (lookup (same_key k) es) ≡ hint_at (map hint_of es) k.0 k.1 k.2
hint_found k [] = refl
hint_found k (e ∷ es) =
    (elim (same_key k e.0) as (λ b. same_key k e.0 ≡ b → option_map (λ x. hint_of (k, x)) (cond b (Some e.1) (lookup (same_key k) es)) ≡ cond b (Some (hint_of e)) (hint_at (map hint_of es) k.0 k.1 k.2)) [
      | true ↦ (λ test. ap (λ (h : Hint). Some h) (own_hint k e test))
      | false ↦ (λ test. hint_found k es)
    ]) refl
    ∙ ap (λ (b : Bool). cond b (Some (hint_of e)) (hint_at (map hint_of es) k.0 k.1 k.2)) (same_test k e)

-- a new hint goes last
pub hint_last : (k : Key) (x : Kept) (es : Entries) → hint_at (map hint_of es) k.0 k.1 k.2 ≡ None → map hint_of (insert_entry same_key es k x) ≡ map hint_of es ++ hint_of (k, x) ∷ []
hint_last k x [] none = refl
hint_last k x (e ∷ es) none =
    (elim (same_key k e.0) as (λ b. cond b (Some (hint_of e)) (hint_at (map hint_of es) k.0 k.1 k.2) ≡ None → map hint_of (cond b ((e.0, x) ∷ es) (e ∷ insert_entry same_key es k x)) ≡ hint_of e ∷ (map hint_of es ++ hint_of (k, x) ∷ [])) [
      | true ↦ (λ wrong. cc)
      | false ↦ (λ rest. ap (λ hs. hint_of e ∷ hs) (hint_last k x es rest))
    ]) (ap (λ (b : Bool). cond b (Some (hint_of e)) (hint_at (map hint_of es) k.0 k.1 k.2)) (same_test k e) ∙ none)

some_same : (a b : Hint) → Some a ≡ Some b → a ≡ b
some_same a b e = cc

-- a hint that is there takes the status
pub hint_marked : (k : Key) (old : Kept) (s : ℕ) (es : Entries) → Some (hint_of (k, old)) ≡ hint_at (map hint_of es) k.0 k.1 k.2
    → map hint_of (insert_entry same_key es k record { bought = old.bought; buyer = old.buyer; status = s }) ≡ marked (map hint_of es) k.0 k.1 k.2 s
hint_marked k old s [] there = cc
hint_marked k old s (e ∷ es) there =
    let new : Kept = record { bought = old.bought; buyer = old.buyer; status = s } in
    (elim (same_key k e.0) as (λ b. Some (hint_of (k, old)) ≡ cond b (Some (hint_of e)) (hint_at (map hint_of es) k.0 k.1 k.2)
    → map hint_of (cond b ((e.0, new) ∷ es) (e ∷ insert_entry same_key es k new)) ≡ cond b (with_status s (hint_of e) ∷ map hint_of es) (hint_of e ∷ marked (map hint_of es) k.0 k.1 k.2 s)) [
      | true ↦ (λ is.
          let same : hint_of (k, old) ≡ hint_of e = some_same (hint_of (k, old)) (hint_of e) is in
          λ i. record { team = e.0.0; finder = e.0.1; location = e.0.2; bought = (same i).bought; buyer = (same i).buyer; status = s } ∷ map hint_of es)
      | false ↦ (λ rest. ap (λ hs. hint_of e ∷ hs) (hint_marked k old s es rest))
    ]) (there ∙ ap (λ (b : Bool). cond b (Some (hint_of e)) (hint_at (map hint_of es) k.0 k.1 k.2)) (sym (same_test k e)))
    ∙ ap (λ (b : Bool). cond b (with_status s (hint_of e) ∷ map hint_of es) (hint_of e ∷ marked (map hint_of es) k.0 k.1 k.2 s)) (same_test k e)

-- where there is none, nothing is marked
pub none_marked : (hs : List Hint) (team finder : ℕ) (location : ℤ) (s : ℕ) → hint_at hs team finder location ≡ None → marked hs team finder location s ≡ hs
none_marked [] team finder location s none = refl
none_marked (h ∷ hs) team finder location s none =
    (elim (is_at team finder location h) as (λ b. cond b (Some h) (hint_at hs team finder location) ≡ None → cond b (with_status s h ∷ hs) (h ∷ marked hs team finder location s) ≡ h ∷ hs) [
      | true ↦ (λ wrong. cc)
      | false ↦ (λ rest. ap (λ gs. h ∷ gs) (none_marked hs team finder location s rest))
    ]) none
