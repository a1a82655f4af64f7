-- What is found where copies were put.
use Rattle.std.proofs.Common.{◌≡◌, ℕ, suc, ◌+◌, ◌<◌, ◌≤◌, Bool, true, false, cond, inl, inr, List, [], ◌∷◌, ◌++◌, All, length, get_or, set, refl, sym, ap, subst, arith, zero-add, append_assoc, append-nil}
use Rattle.std.specs.Prelude.{filter, flat_map}
use Rattle.std.proofs.lemmas.List.Elements.{All-append, All-filter, All-nil}
use Rattle.std.proofs.lemmas.Bool.{cases_Bool}
use Rattle.std.proofs.lemmas.List.{length-append}
use Rattle.mw_rules.specs.Holds.{Bag, Places}
use Rattle.mw_multi.specs.Joint.{Joint, item_total}
use Rattle.mw_multi.specs.Placement.{Put, put_numbers, IsPlaced}
use Rattle.mw_multi.proofs.Standing.{placed_put}
use Rattle.mw_reach.specs.Reach.{Placed, times_in, found}
use Rattle.mw_reach.specs.GoingOn.{HasMore}
use Rattle.mw_fill.specs.Laying.{lies_in, numbers_found, IsLaid}
use Rattle.mw_reach.proofs.Items.{times_in-append}
use Rattle.mw_reach.proofs.Putting.{found_set}
use Rattle.mw_fill.proofs.Keeping.{found_alike}

first_found : (joint : Joint) (w : Places) (l : Put) (laid : List Put) (i : ℕ) (b : Bool) → w l.place ≡ b → times_in i (numbers_found joint w (l ∷ laid)) ≡ cond b (times_in i (put_numbers joint l)) 0 + times_in i (numbers_found joint w laid)
first_found joint w l laid i true e = rw e (times_in-append i (put_numbers joint l) (numbers_found joint w laid))
first_found joint w l laid i false e = rw e (omega arith)

-- what the copies add to what is found
pub found_laid : (joint : Joint) (laid puts : List Put) (before after : Placed) → All (IsLaid joint) laid → IsPlaced joint puts before → IsPlaced joint (puts ++ laid) after
    → (w : Places) (i : ℕ) → found after w i ≡ found before w i + times_in i (numbers_found joint w laid)
found_laid joint [] puts before after all p q w i =
    let same = subst (λ ps. IsPlaced joint ps after) (append-nil puts) q in
    omega (arith, found_alike joint puts after before w i same p)
found_laid joint (l ∷ laid) puts before after all p q w i =
    let here = all 0 l (omega arith) in
    let place = l.place in
    let own = put_numbers joint l in
    let within : place < length before = omega (arith, p.size, here.place) in
    let next = set before place (get_or before place [] ++ own) in
    let placed = placed_put joint puts l before next within refl p in
    let rest = subst (λ ps. IsPlaced joint ps after) (sym (append_assoc puts (l ∷ []) laid)) q in
    let later = found_laid joint laid (puts ++ l ∷ []) next after (λ k d h. all (suc k) d (omega arith)) placed rest w i in
    let at : cond (w (0 + place)) (times_in i own) 0 ≡ cond (w place) (times_in i own) 0 = ap (λ k. cond (w k) (times_in i own) 0) (zero-add place) in
    omega (arith, later, found_set 0 place before own w i within, at, first_found joint w l laid i (w place) refl)

pub more_found : (joint : Joint) (laid puts : List Put) (base : Bag) (before after : Placed) → All (IsLaid joint) laid → IsPlaced joint puts before → IsPlaced joint (puts ++ laid) after
    → (w : Places) → HasMore base base before after w (numbers_found joint w laid)
more_found joint laid puts base before after all p q w = record {
  counts = λ i. omega (arith, found_laid joint laid puts before after all p q w i);
  grows = λ v i. omega (arith, found_laid joint laid puts before after all p q v i);
}

all_within : (joint : Joint) (puts : List Put) → All (IsLaid joint) puts → All (λ i. i < item_total joint.slots) (flat_map (put_numbers joint) puts)
all_within joint [] all = All-nil (λ i. i < item_total joint.slots)
all_within joint (p ∷ puts) all =
    All-append (λ i. i < item_total joint.slots) (put_numbers joint p) (flat_map (put_numbers joint) puts) (all 0 p (omega arith)).numbers (all_within joint puts (λ k d h. all (suc k) d (omega (arith, h))))

pub numbers_within : (joint : Joint) (laid : List Put) (w : Places) → All (IsLaid joint) laid → All (λ i. i < item_total joint.slots) (numbers_found joint w laid)
numbers_within joint laid w all = all_within joint (filter (lies_in w) laid) (All-filter (lies_in w) (IsLaid joint) laid all)

-- those that are found have no more numbers than all
pub numbers_few : (joint : Joint) (laid : List Put) (w : Places) → length (numbers_found joint w laid) ≤ length (flat_map (put_numbers joint) laid)
numbers_few joint [] w = omega arith
numbers_few joint (l ∷ laid) w =
    let own = put_numbers joint l in
    let all : length (flat_map (put_numbers joint) (l ∷ laid)) ≡ length own + length (flat_map (put_numbers joint) laid) = length-append own (flat_map (put_numbers joint) laid) in
    elim (cases_Bool (w l.place)) [
      | inl here ↦
          let more : length (numbers_found joint w (l ∷ laid)) ≡ length own + length (numbers_found joint w laid) = rw here (length-append own (numbers_found joint w laid)) in
          omega (arith, all, more, numbers_few joint laid w)
      | inr away ↦
          let still : length (numbers_found joint w (l ∷ laid)) ≡ length (numbers_found joint w laid) = rw away refl in
          omega (arith, all, still, numbers_few joint laid w)
    ]
