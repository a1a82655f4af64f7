-- There is a least list for any items, and a table of what was put.
use Rattle.std.proofs.Common.{◌≡◌, ℕ, zero, suc, ◌<◌, ◌≤◌, ◌++◌, ◌⊎◌, Bool, true, false, List, [], ◌∷◌, All, length, drop, replicate, set, length-set, take, refl, sym, subst, ◌∙◌, inl, inr, arith, true≢false, append_assoc, append-nil}
use Rattle.std.proofs.lemmas.Bool.{cases_Bool}
use Rattle.std.proofs.lemmas.List.{length-replicate}
use Rattle.std.proofs.lemmas.List.Elements.{All-map, All-take}
use Rattle.mw_rules.specs.Holds.{Bag, Places, places_of}
use Rattle.mw_rules.specs.Laws.{IsPartOf}
use Rattle.mw_multi.specs.Joint.{Joint, place_total}
use Rattle.mw_multi.specs.Placement.{Put, put_numbers, numbers_at, IsPlaced}
use Rattle.mw_multi.specs.Steps.{Step, steps_of}
use Rattle.mw_multi.specs.Events.{events_of}
use Rattle.mw_multi.proofs.Standing.{placed_put}
use Rattle.mw_reach.specs.Reach.{Placed, bag_with, is_open, Closed, IsLeast}
use Rattle.mw_reach.specs.Counts.{missing}
use Rattle.mw_reach.specs.Reached.{IsWorkFor}
use Rattle.mw_reach.specs.Rows.{step_of}
use Rattle.mw_reach.specs.declared.work.Work.{Work}
use Rattle.mw_reach.proofs.Found.{Adds-set, IsPartOf-Adds}
use Rattle.mw_reach.proofs.Waking.{missing-set, room_left}
use Rattle.mw_reach.proofs.Walks.{bag_more, open_more, replicate-false}
use Rattle.mw_fill.specs.Copies.{ItemCopy}
use Rattle.mw_fill.specs.Fill.{in_hand}
use Rattle.mw_fill.specs.Asks.{AreLists}
use Rattle.mw_fill.specs.Laying.{IsLaid}

-- ---- least lists

module _ (steps : List Step) (base : Bag) (placed : Placed) (n : ℕ) where
  -- the list, with a flag for each of so many places
  pub record HasLeastList : Type 0 where
    pub list : List Bool
    pub size : length list ≡ n
    pub least : IsLeast steps base placed (places_of list)

  -- a place that isn't in the list, and is in each closed list that the list is part of
  record LacksOne (w : List Bool) : Type 0 where
    place : ℕ
    within : place < n
    new : places_of w place ≡ false
    due : (v : Places) → Closed steps base placed v → IsPartOf (places_of w) v → v place ≡ true

  module _ (w : List Bool) where
    abbrev open_here : Step → Bool
    open_here step = is_open step (bag_with base placed (places_of w)) (places_of w)

    one_step : (step : Step) → step.to < n → ((v : Places) → Closed steps base placed v → is_open step (bag_with base placed v) v ≡ true → v step.to ≡ true)
        → (open_here step ≡ true → places_of w step.to ≡ true) ⊎ LacksOne w
    one_step step fits leads = elim (cases_Bool (places_of w step.to)) [
      | inl there ↦ inl (λ o. there)
      | inr new ↦ elim (cases_Bool (open_here step)) [
        | inl opens ↦ inr record {
          place = step.to;
          within = fits;
          new = new;
          due = λ v closed part. leads v closed (open_more step (bag_with base placed (places_of w)) (bag_with base placed v) (places_of w) v (bag_more base placed (places_of w) v part) part opens);
        }
        | inr shut ↦ inl (λ o. absurd (true≢false (sym o ∙ shut)))
      ]
    ]

    each_step : (left : List Step) → All (λ step. step.to < n) left → ((v : Places) → Closed steps base placed v → Closed left base placed v) → Closed left base placed (places_of w) ⊎ LacksOne w
    each_step [] fits leads = inl tt
    each_step (step ∷ left) fits leads = elim (one_step step (fits 0 step (omega arith)) (λ v closed. (leads v closed).0)) [
      | inl here ↦ elim (each_step left (λ k d h. fits (suc k) d (omega arith)) (λ v closed. (leads v closed).1)) [ inl rest ↦ inl (here, rest) | inr lacks ↦ inr lacks ]
      | inr lacks ↦ inr lacks
    ]

  module _ (fits : All (λ step. step.to < n) steps) where
    grown : (fuel : ℕ) (w : List Bool) → length w ≡ n → missing w ≤ fuel → ((v : Places) → Closed steps base placed v → IsPartOf (places_of w) v) → HasLeastList
    grown zero w size few part = elim (each_step w steps fits (λ v closed. closed)) [
      | inl closed ↦ record { list = w; size = size; least = record { closed = closed; least = part } }
      | inr lacks ↦ absurd (omega (arith, few, room_left w lacks.place (omega (arith, size, lacks.within)) lacks.new))
    ]
    grown (suc fuel) w size few part = elim (each_step w steps fits (λ v closed. closed)) [
      | inl closed ↦ record { list = w; size = size; least = record { closed = closed; least = part } }
      | inr lacks ↦ grown fuel (set w lacks.place true) (length-set w lacks.place true ∙ size) (omega (arith, few, missing-set w lacks.place (omega (arith, size, lacks.within)) lacks.new))
          (λ v closed. IsPartOf-Adds (Adds-set w lacks.place (omega (arith, size, lacks.within)) lacks.new) v (part v closed) (lacks.due v closed (part v closed)))
    ]

    pub least_list : HasLeastList
    least_list = grown (missing (replicate n false)) (replicate n false) (length-replicate n false) (omega arith) (λ v closed p e. absurd (true≢false (sym e ∙ replicate-false n p)))

-- each step of a joint leads to one of its places
pub steps_fit : (joint : Joint) (work : Work) → IsWorkFor joint work → All (λ step. step.to < place_total joint.slots) (steps_of joint)
steps_fit joint work made =
    subst (All (λ (step : Step). step.to < place_total joint.slots)) made.steps
    (All-map (λ (step : Step). step.to < place_total joint.slots) (step_of joint) work.rows.rows (λ k d h. (made.rows.fit k d h).to_fits))

-- ---- tables

-- the table with these copies where they were put
abbrev pub table_after : Joint → Placed → List Put → Placed
table_after joint table [] = table
table_after joint table (l ∷ laid) = table_after joint (set table l.place (numbers_at table l.place ++ put_numbers joint l)) laid

after_placed : (joint : Joint) (laid : List Put) (puts : List Put) (table : Placed) → All (IsLaid joint) laid → IsPlaced joint puts table → IsPlaced joint (puts ++ laid) (table_after joint table laid)
after_placed joint [] puts table all placed = subst (λ ps. IsPlaced joint ps table) (sym (append-nil puts)) placed
after_placed joint (l ∷ laid) puts table all placed =
    let here = all 0 l (omega arith) in
    let next = set table l.place (numbers_at table l.place ++ put_numbers joint l) in
    let one = placed_put joint puts l table next (omega (arith, placed.size, here.place)) refl placed in
    subst (λ ps. IsPlaced joint ps (table_after joint next laid)) (append_assoc puts (l ∷ []) laid) (after_placed joint laid (puts ++ l ∷ []) next (λ k d h. all (suc k) d (omega arith)) one)

-- ---- the lists of a fill

module _ (joint : Joint) (copies : List ItemCopy) (laid : List Put) (begin : Placed) (work : Work) (made : IsWorkFor joint work) where
  pub tables_of : ℕ → Placed
  tables_of from = table_after joint begin (take from laid)

  list_without : (from to : ℕ) → HasLeastList (steps_of joint) (in_hand joint (drop to copies)) (tables_of from) (place_total joint.slots)
  list_without from to = least_list (steps_of joint) (in_hand joint (drop to copies)) (tables_of from) (place_total joint.slots) (steps_fit joint work made)

  pub lists_of : ℕ → ℕ → List Bool
  lists_of from to = (list_without from to).list

  pub there_are_lists : IsPlaced joint (events_of joint) begin → All (IsLaid joint) laid → AreLists joint copies laid tables_of lists_of
  unfolding tables_of lists_of list_without
  there_are_lists placed each = record {
    tables_are = λ from. after_placed joint (take from laid) (events_of joint) begin (All-take (IsLaid joint) from laid each) placed;
    sizes = λ from to. (list_without from to).size;
    least = λ from to. (list_without from to).least;
  }
