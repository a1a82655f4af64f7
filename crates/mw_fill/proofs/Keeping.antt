-- What is put where it can be reached counts as much as what is in hand; where a copy was missed,
-- what is required holds.
use Rattle.std.proofs.Common.{◌≡◌, ℕ, suc, ◌+◌, ◌<◌, ◌≤◌, ◌⊎◌, Bool, true, cond, List, [], ◌∷◌, ◌++◌, Option, Some, None, MatchOption, All, length, get_or, set, refl, sym, subst, ◌∙◌, inl, inr, arith, zero-add, append_assoc}
use Rattle.mw_rules.specs.Holds.{Bag, Places}
use Rattle.mw_multi.specs.Joint.{Joint, place_total}
use Rattle.mw_multi.specs.Bags.{start_count}
use Rattle.mw_multi.specs.Steps.{steps_of}
use Rattle.mw_multi.specs.Placement.{Put, IsPlaced}
use Rattle.mw_multi.specs.Events.{events_of}
use Rattle.mw_multi.proofs.Standing.{placed_put}
use Rattle.mw_reach.specs.Reach.{Placed, times_in, found_from, found, bag_with, Closed, IsLeast}
use Rattle.mw_reach.specs.Required.{Required}
use Rattle.mw_reach.proofs.Items.{times_in-append}
use Rattle.mw_reach.proofs.Putting.{found_set}
use Rattle.mw_reach.proofs.Requiring.{required_more}
use Rattle.mw_reach.proofs.SameLeast.{Closed-less}
use Rattle.mw_reach.proofs.Walks.{bag_more}
use Rattle.mw_fill.specs.Copies.{ItemCopy, copy_numbers, all_numbers, copies_count}
use Rattle.mw_fill.specs.Openings.{Opening}
use Rattle.mw_fill.specs.Fill.{filled, stuck_with, put_of, first_fit, in_hand, is_allowed, FillRun}
use Rattle.mw_fill.proofs.Allowing.{reached_or_required}
use Rattle.mw_fill.proofs.Fitting.{find_all, free_there}

-- ---- what is found in a table

pub found_same : (k : ℕ) (a b : Placed) (w : Places) (i : ℕ) → length a ≡ length b → ((q : ℕ) → get_or a q [] ≡ get_or b q []) → found_from k a w i ≡ found_from k b w i
found_same k [] [] w i l h = refl
found_same k [] (y ∷ b) w i l h = absurd (omega arith)
found_same k (x ∷ a) [] w i l h = absurd (omega arith)
found_same k (x ∷ a) (y ∷ b) w i l h =
    let first : x ≡ y = h 0 in
    rw first (omega (arith, found_same (suc k) a b w i (omega arith) (λ q. h (suc q))))

-- two tables of the same puts
pub found_alike : (joint : Joint) (puts : List Put) (a b : Placed) (w : Places) (i : ℕ) → IsPlaced joint puts a → IsPlaced joint puts b → found a w i ≡ found b w i
found_alike joint puts a b w i p q = found_same 0 a b w i (p.size ∙ sym q.size) (λ place. p.entries place ∙ sym (q.entries place))

-- ---- one copy, in hand or where it lies

module _ (joint : Joint) (copy : ItemCopy) (later : List ItemCopy) (table : Placed) (place : ℕ) (within : place < length table) (w : Places) (least : IsLeast (steps_of joint) (in_hand joint later) table w) (reached : w place ≡ true) where
  abbrev next : Placed
  next = set table place (get_or table place [] ++ copy_numbers joint copy)

  same_bag : (u : Places) → u place ≡ true → (j : ℕ) → bag_with (in_hand joint (copy ∷ later)) table u j ≡ bag_with (in_hand joint later) next u j
  same_bag u e j =
      let own = copy_numbers joint copy in
      let more = found_set 0 place table own u j within in
      let here : cond (u (0 + place)) (times_in j own) 0 ≡ times_in j own = rw (zero-add place, e) refl in
      let count : copies_count joint (copy ∷ later) j ≡ times_in j own + copies_count joint later j = times_in-append j own (all_numbers joint later) in
      omega (arith, more, here, count)

  pub where_it_lies : (u : Places) → Closed (steps_of joint) (in_hand joint later) next u
      → Closed (steps_of joint) (in_hand joint (copy ∷ later)) table u × ((j : ℕ) → bag_with (in_hand joint (copy ∷ later)) table u j ≡ bag_with (in_hand joint later) next u j)
  where_it_lies u c =
      let without : Closed (steps_of joint) (in_hand joint later) table u =
      Closed-less (steps_of joint) (in_hand joint later) (in_hand joint later) table next u (λ j. omega (arith, found_set 0 place table (copy_numbers joint copy) u j within)) c in
      let there : u place ≡ true = least.least u without place reached in
      (Closed-less (steps_of joint) (in_hand joint (copy ∷ later)) (in_hand joint later) table next u (λ j. omega (arith, same_bag u there j)) c, same_bag u there)

-- ---- the run

-- what follows for a list that is closed with all that was put where it lies: it is closed with the
-- copies in hand, and the items are the same; or a copy was missed, and what is required holds
abbrev pub Follows : Joint → List ItemCopy → Placed → Placed → Places → Type 0
Follows joint copies table end u =
    (Closed (steps_of joint) (in_hand joint copies) table u × ((j : ℕ) → bag_with (in_hand joint copies) table u j ≡ bag_with (start_count joint.slots) end u j))
    ⊎ Required joint (bag_with (start_count joint.slots) end u) u

pub record IsAsGood (joint : Joint) (copies : List ItemCopy) (table : Placed) (result : List Put) : Type 0 where
  pub end : Placed
  pub placed : IsPlaced joint (events_of joint ++ result) end
  pub good : (u : Places) → Closed (steps_of joint) (start_count joint.slots) end u → Follows joint copies table end u

pub least_alike : (joint : Joint) (puts : List Put) (base : Bag) (a b : Placed) (w : Places) → IsPlaced joint puts a → IsPlaced joint puts b → IsLeast (steps_of joint) base a w → IsLeast (steps_of joint) base b w
least_alike joint puts base a b w p q l = record {
  closed = Closed-less (steps_of joint) base base b a w (λ j. omega (arith, found_alike joint puts a b w j p q)) l.closed;
  least = λ v k. l.least v (Closed-less (steps_of joint) base base a b v (λ j. omega (arith, found_alike joint puts a b v j p q)) k);
}

-- the copy is at an allowed location
module _ (joint : Joint) (copy : ItemCopy) (later : List ItemCopy) (table : Placed) (place : ℕ) (within : place < length table) (w : Places) (least : IsLeast (steps_of joint) (in_hand joint later) table w) (end : Placed) where
  abbrev after : Placed
  after = set table place (get_or table place [] ++ copy_numbers joint copy)

  one_reached : (u : Places) → w place ≡ true → Follows joint later after end u → Follows joint (copy ∷ later) table end u
  one_reached u there (inl good) = let here = where_it_lies joint copy later table place within w least there u good.0 in inl (here.0, λ j. here.1 j ∙ good.1 j)
  one_reached u there (inr required) = inr required

  one_missed : (u : Places) → Required joint (bag_with (in_hand joint later) table w) w → Follows joint later after end u → Follows joint (copy ∷ later) table end u
  one_missed u required (inl good) =
      let hand = in_hand joint later in
      let own = copy_numbers joint copy in
      let without : Closed (steps_of joint) hand table u = Closed-less (steps_of joint) hand hand table after u (λ j. omega (arith, found_set 0 place table own u j within)) good.0 in
      let part = least.least u without in
      let more : (j : ℕ) → bag_with hand table w j ≤ bag_with (start_count joint.slots) end u j = λ j. omega (arith, bag_more hand table w u part j, found_set 0 place table own u j within, good.1 j) in
      inr (required_more joint (bag_with hand table w) (bag_with (start_count joint.slots) end u) w u more part required)
  one_missed u required (inr already) = inr already

  one_allowed : (u : Places) → (w place ≡ true) ⊎ Required joint (bag_with (in_hand joint later) table w) w → Follows joint later after end u → Follows joint (copy ∷ later) table end u
  one_allowed u (inl there) follows = one_reached u there follows
  one_allowed u (inr required) follows = one_missed u required follows

one_as_good : (joint : Joint) (openings : List Opening) (copy : ItemCopy) (later : List ItemCopy) (puts result : List Put) (table : Placed) (w : Places) (test : Opening → Bool)
    → ((s : Opening) → test s ≡ true → (w s.place ≡ true) ⊎ Required joint (bag_with (in_hand joint later) table w) w)
    → All (λ s. s.place < place_total joint.slots) openings → IsPlaced joint (events_of joint ++ puts) table
    → IsLeast (steps_of joint) (in_hand joint later) table w
    → ((opening : Opening) (next : Placed) → IsPlaced joint (events_of joint ++ (puts ++ put_of copy opening ∷ [])) next → FillRun joint openings later (puts ++ put_of copy opening ∷ []) (filled result) → IsAsGood joint later next result)
    → (o : Option Opening) → first_fit test puts openings ≡ o
    → MatchOption o (filled result ≡ stuck_with copy) (λ opening. FillRun joint openings later (puts ++ put_of copy opening ∷ []) (filled result))
    → IsAsGood joint (copy ∷ later) table result
one_as_good joint openings copy later puts result table w test allowed inside placed least rest None e r = let never : ⊥ = cc in absurd never
one_as_good joint openings copy later puts result table w test allowed inside placed least rest (Some opening) e r =
    let fits = free_there test puts openings opening e in
    let within : opening.place < length table = omega (arith, placed.size, find_all (λ s. s.place < place_total joint.slots) _ openings opening inside e) in
    let next = set table opening.place (get_or table opening.place [] ++ copy_numbers joint copy) in
    let put : IsPlaced joint ((events_of joint ++ puts) ++ put_of copy opening ∷ []) next = placed_put joint (events_of joint ++ puts) (put_of copy opening) table next within refl placed in
    let then_good = rest opening next (subst (λ ps. IsPlaced joint ps next) (append_assoc (events_of joint) puts (put_of copy opening ∷ [])) put) r in
    record {
      end = then_good.end;
      placed = then_good.placed;
      good = λ u c. one_allowed joint copy later table opening.place within w least then_good.end u (allowed opening fits.1) (then_good.good u c);
    }

-- by another table of the same puts
required_here : (joint : Joint) (copy : ItemCopy) (puts : List Put) (hand : Bag) (a b : Placed) (w : Places) (s : Opening) → IsPlaced joint puts a → IsPlaced joint puts b → is_allowed joint (bag_with hand a w) w copy s ≡ true
    → (w s.place ≡ true) ⊎ Required joint (bag_with hand b w) w
required_here joint copy puts hand a b w s p q e = elim (reached_or_required joint (bag_with hand a w) w copy s e) [
  | inl there ↦ inl there
  | inr required ↦ inr (required_more joint (bag_with hand a w) (bag_with hand b w) w w (λ i. omega (arith, found_alike joint puts a b w i p q)) (λ place h. h) required)
]

pub as_good : (joint : Joint) (openings : List Opening) (copies : List ItemCopy) (puts result : List Put) (table : Placed) → All (λ s. s.place < place_total joint.slots) openings
    → IsPlaced joint (events_of joint ++ puts) table → FillRun joint openings copies puts (filled result) → IsAsGood joint copies table result
as_good joint openings [] puts result table inside placed r =
    let same : result ≡ puts = cc in
    rw same record {
      end = table;
      placed = placed;
      good = λ u c. inl (Closed-less (steps_of joint) (in_hand joint []) (start_count joint.slots) table table u (λ j. omega arith) c, λ j. omega arith);
    }
as_good joint openings (copy ∷ later) puts result table inside placed r =
    let hand = in_hand joint later in
    let test = is_allowed joint (bag_with hand r.0 r.1) r.1 copy in
    one_as_good joint openings copy later puts result table r.1 test (λ s e. required_here joint copy (events_of joint ++ puts) hand r.0 table r.1 s r.2 placed e) inside placed
    (least_alike joint (events_of joint ++ puts) hand r.0 table r.1 r.2 placed r.3)
    (λ opening next p rest. as_good joint openings later (puts ++ put_of copy opening ∷ []) result next inside p rest)
    (first_fit test puts openings) refl r.4
