-- The items in hand as copies are put.
use Rattle.std.proofs.Common.{◌≡◌, ℕ, ◌+◌, ◌-◌, ◌≤◌, List, take, drop, sym, ap, ◌∙◌, arith, take-append-drop}
use Rattle.std.proofs.lemmas.List.{drop-drop}
use Rattle.mw_rules.specs.Holds.{Places}
use Rattle.mw_multi.specs.Joint.{Joint}
use Rattle.mw_reach.specs.Reach.{Placed, times_in}
use Rattle.mw_reach.specs.GoingOn.{HasMore}
use Rattle.mw_fill.specs.Copies.{ItemCopy, copies_count}
use Rattle.mw_fill.specs.Fill.{in_hand}
use Rattle.mw_fill.specs.Laying.{numbers_between}
use Rattle.mw_fill.proofs.Owning.{count_append}

-- the copies from one number to another in hand as well
pub in_hand_more : (joint : Joint) (copies : List ItemCopy) (middle to : ℕ) → middle ≤ to → (n : ℕ)
    → in_hand joint (drop middle copies) n ≡ in_hand joint (drop to copies) n + times_in n (numbers_between joint copies middle to)
in_hand_more joint copies middle to h n =
    let rest = drop middle copies in
    let k = to - middle in
    let sum : middle + k ≡ to = omega arith in
    let past : drop k rest ≡ drop to copies = drop-drop k middle copies ∙ ap (λ m. drop m copies) sum in
    let both : copies_count joint rest n ≡ copies_count joint (take k rest) n + copies_count joint (drop k rest) n =
    ap (λ cs. copies_count joint cs n) (sym (take-append-drop k rest)) ∙ count_append joint (take k rest) (drop k rest) n in
    omega (arith, both, ap (λ cs. copies_count joint cs n) past)

pub held_more : (joint : Joint) (copies : List ItemCopy) (middle to : ℕ) → middle ≤ to → (placed : Placed) (w : Places)
    → HasMore (in_hand joint (drop to copies)) (in_hand joint (drop middle copies)) placed placed w (numbers_between joint copies middle to)
held_more joint copies middle to h placed w = record {
  counts = λ i. omega (arith, in_hand_more joint copies middle to h i);
  grows = λ v i. omega (arith, in_hand_more joint copies middle to h i);
}
