-- What was made, in front of what is made next.
use Rattle.std.proofs.Common.{◌≡◌, ℕ, suc, ◌+◌, ◌<◌, List, [], ◌∷◌, ◌++◌, Result, Ok, Err, refl, ap, sym, ◌∙◌, length, drop, get_or, add-one}
use Rattle.std.proofs.Math.Seq.{drop-cons}
use Rattle.mw_multi.specs.JointOf.{◌>>=◌, slot_of, slots_from}
use Rattle.mw_multi.specs.Joint.{Slot}
use Rattle.mw_multi.specs.Players.{Player}
use Rattle.mw_multi.specs.World.{World, place_count}
use Rattle.mw_multi.specs.declared.refusal.JointRefusal.{JointRefusal}

abbrev pub with_front : {A : Type 0} → List A → Result (List A) JointRefusal → Result (List A) JointRefusal
with_front front made = made >>= (λ xs. Ok (front ++ xs))

regroup : {A : Type 0} (front : List A) (x : A) (xs : List A) → front ++ x ∷ xs ≡ (front ++ x ∷ []) ++ xs
regroup [] x xs = refl
regroup (y ∷ front) x xs = ap (λ zs. y ∷ zs) (regroup front x xs)

pub with_front-cons : {A : Type 0} (front : List A) (x : A) (made : Result (List A) JointRefusal) → with_front front (made >>= (λ xs. Ok (x ∷ xs))) ≡ with_front (front ++ x ∷ []) made
with_front-cons front x (Ok xs) = ap Ok (regroup front x xs)
with_front-cons front x (Err e) = refl

pub with_front-nil : {A : Type 0} (made : Result (List A) JointRefusal) → with_front [] made ≡ made
with_front-nil (Ok xs) = refl
with_front-nil (Err e) = refl

-- the next player's slot, in front of the later ones
pub slots_next : (named : List ℕ → World) (slot place item : ℕ) (front : List Slot) (players : List Player) (i : ℕ) (d : Player) (s : Slot) → i < length players
    → slot_of slot (get_or players i d) (named (get_or players i d).world) place item ≡ Ok s
    → with_front (front ++ s ∷ []) (slots_from named (slot + 1) (place + place_count (named (get_or players i d).world)) (item + length (named (get_or players i d).world).items) (drop (suc i) players))
    ≡ with_front front (slots_from named slot place item (drop i players))
slots_next named slot place item front players i d s h e =
    let p : Player = get_or players i d in
    let later : Result (List Slot) JointRefusal = slots_from named (slot + 1) (place + place_count (named p.world)) (item + length (named p.world).items) (drop (suc i) players) in
    let step : slots_from named slot place item (drop i players) ≡ (later >>= (λ others. Ok (s ∷ others))) = rw (drop-cons players i d h) (ap (λ judged. judged >>= (λ first. later >>= (λ others. Ok (first ∷ others)))) e) in
    sym (ap (with_front front) step ∙ with_front-cons front s later)

-- the same, where the tables and their counts have names of their own
pub slots_moved : (named : List ℕ → World) (slot place item : ℕ) (front new : List Slot) (players : List Player) (i : ℕ) (d : Player) (s : Slot) (w : World) (places items : ℕ) → i < length players
    → named (get_or players i d).world ≡ w → slot_of slot (get_or players i d) w place item ≡ Ok s → places ≡ place_count w → items ≡ length w.items → new ≡ front ++ s ∷ []
    → with_front new (slots_from named (slot + 1) (place + places) (item + items) (drop (i + 1) players)) ≡ with_front front (slots_from named slot place item (drop i players))
slots_moved named slot place item front new players i d s w places items h is e is_places is_items is_new =
    rw (is_new, is_places, is_items, ← is, add-one i) (slots_next named slot place item front players i d s h (rw is e))
