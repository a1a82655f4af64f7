-- The run over the copies that rules ask for, copy by copy.
use Rattle.std.proofs.Common.{◌≡◌, ℕ, ◌+◌, ◌-◌, ◌<◌, ◌≤◌, Bool, List, [], ◌∷◌, ◌++◌, Option, Some, None, All, length, get_or, map, set, take, drop, refl, sym, ap, subst, ◌∙◌, arith, append_assoc, append-nil, take-append-drop}
use Rattle.std.specs.Prelude.{flat_map, sum_by}
use Rattle.std.proofs.lemmas.List.{drop_all, length-append, length-drop, map_more, map_push, take_all}
use Rattle.std.proofs.lemmas.List.Concat.{length-flat_map}
use Rattle.std.proofs.lemmas.List.Sums.{sum_by-append, sum_by-le}
use Rattle.std.proofs.lemmas.List.Elements.{All-push, All-nil}
use Rattle.mw_rules.specs.Holds.{Places, bag_of, places_of}
use Rattle.mw_multi.specs.Joint.{Joint, IsJoint}
use Rattle.mw_multi.specs.Bags.{start_count, IsBagOf}
use Rattle.mw_multi.specs.Steps.{steps_of}
use Rattle.mw_multi.specs.Placement.{Put, put_numbers, IsPlaced}
use Rattle.mw_multi.specs.Events.{events_of}
use Rattle.mw_multi.proofs.Counts.{start_bound}
use Rattle.mw_multi.proofs.Few.{events_are_few}
use Rattle.mw_multi.proofs.Owners.{put_numbers_le}
use Rattle.mw_reach.specs.Reach.{Placed, bag_with, IsLeast}
use Rattle.mw_reach.specs.GoingOn.{IsFinished}
use Rattle.mw_reach.specs.Reached.{IsPlacedFor}
use Rattle.mw_reach.proofs.Found.{found-le}
use Rattle.mw_reach.proofs.Placing.{placed_for, numbers_placed-le}
use Rattle.mw_reach.proofs.Settling.{settled_alike}
use Rattle.mw_fill.specs.Copies.{ItemCopy, copy_numbers, all_numbers}
use Rattle.mw_fill.specs.Openings.{Opening}
use Rattle.mw_fill.specs.Fill.{filled, stuck_with, put_of, first_fit, in_hand, is_allowed, FillRun}
use Rattle.mw_fill.specs.Kept.{CopyKept, OpeningKept, IsHeldFor}
use Rattle.mw_fill.specs.Asks.{FindsNone}
use Rattle.mw_fill.specs.Laying.{IsLaid, AreLaid}
use Rattle.mw_fill.proofs.Fitting.{find_all}
use Rattle.mw_fill.proofs.Owning.{count_le, rest_le}
use Rattle.mw_fill.proofs.Stepping.{next_copy, held_next}

-- ---- the list of places

-- with no copy in hand
none_in_hand : (joint : Joint) (copies : List ItemCopy) (bag : List ℕ) (to : ℕ) → length copies ≤ to → IsBagOf joint.slots (start_count joint.slots) bag → (i : ℕ) → bag_of bag i ≡ in_hand joint (drop to copies) i
none_in_hand joint copies bag to h start i = let none : drop to copies ≡ [] = drop_all to copies h in rw none (omega (arith, start.counts i))

-- the list that a fill begins with
pub first_list : (joint : Joint) (copies : List ItemCopy) (bag : List ℕ) (table : Placed) (done : List Bool) (counts : List ℕ) → IsBagOf joint.slots (start_count joint.slots) bag
    → IsFinished (steps_of joint) (bag_of bag) table done counts → IsFinished (steps_of joint) (in_hand joint (drop (length copies) copies)) table done counts
first_list joint copies bag table done counts start settled =
    settled_alike (steps_of joint) (bag_of bag) (in_hand joint (drop (length copies) copies)) table table done counts (λ v i. omega (arith, none_in_hand joint copies bag (length copies) (omega arith) start i)) settled

module _ (joint : Joint) (kept : IsJoint joint) (puts : List Put) (table : Placed) (placed : IsPlaced joint (events_of joint ++ puts) table) where
  -- events are no more than places, and each has no more than 1,024 numbers
  pub table_few : sum_by length table ≤ 204800000 + length (flat_map (put_numbers joint) puts)
  table_few =
      omega (
        arith,
        numbers_placed-le joint (events_of joint ++ puts) table placed,
        sum_by-append (λ p. length (put_numbers joint p)) (events_of joint) puts,
        sum_by-le (λ p. length (put_numbers joint p)) 1024 (events_of joint) (λ k d h. put_numbers_le joint (get_or (events_of joint) k d) kept),
        events_are_few joint kept,
        length-flat_map (put_numbers joint) puts,
      )

  -- no item is in hand and at the places of the list more often than there are items
  pub counts_few : (copies : List ItemCopy) (to : ℕ) (done : List Bool) (counts : List ℕ) → IsFinished (steps_of joint) (in_hand joint (drop to copies)) table done counts
      → (i : ℕ) → bag_of counts i ≤ 205062144 + length (all_numbers joint copies) + length (flat_map (put_numbers joint) puts)
  counts_few copies to done counts settled i =
      omega (
        arith,
        settled.tally i,
        start_bound joint.slots i kept.each,
        kept.few,
        count_le joint (drop to copies) i,
        rest_le joint copies to,
        found-le 0 table (places_of done) i,
        table_few,
      )

-- ---- the copies that were put

pub begin : (joint : Joint) (openings : List Opening) (copies : List ItemCopy) (laid : List Put) (held : List (Option Put)) (table : Placed)
    → laid ≡ [] → IsHeldFor joint [] held → IsPlaced joint (events_of joint) table → AreLaid joint openings copies laid held table
begin joint openings copies laid held table none nothing events =
    rw none record {
      held_is = nothing;
      table_is = subst (λ ps. IsPlaced joint ps table) (sym (append-nil (events_of joint))) events;
      each = All-nil (IsLaid joint);
      numbers = refl;
      runs = λ out r. r;
    }

module _ (joint : Joint) (kept : IsJoint joint) (openings : List Opening) (copies : List ItemCopy) (laid : List Put) (held : List (Option Put)) (table : Placed) (so_far : AreLaid joint openings copies laid held table) where
  pub placed_here : IsPlacedFor joint table
  placed_here = placed_for joint kept (events_of joint ++ laid) table so_far.table_is

  pub end_is : length copies ≤ length laid → FillRun joint openings copies [] (filled laid)
  end_is past = so_far.runs (filled laid) (rw (drop_all (length laid) copies past) refl)

  module _ (copy : ItemCopy) (within : length laid < length copies) (is : copy ≡ get_or copies (length laid) copy) (w : Places)
      (least : IsLeast (steps_of joint) (in_hand joint (drop (length laid + 1) copies)) table w) where
    rest_is : drop (length laid) copies ≡ copy ∷ drop (length laid + 1) copies
    rest_is = next_copy copies (length laid) copy within is

    abbrev own : ItemCopy → List ℕ
    own = copy_numbers joint

    -- where the next copy may stand
    abbrev pub here : Opening → Bool
    here = is_allowed joint (bag_with (in_hand joint (drop (length laid + 1) copies)) table w) w copy

    numbers_more : map own (take (length laid + 1) copies) ≡ map own (take (length laid) copies) ++ own copy ∷ []
    numbers_more = map_more own copies (length laid) copy within ∙ ap (λ c. map own (take (length laid) copies) ++ own c ∷ []) (sym is)

    pub stuck_here : first_fit here laid openings ≡ None → FillRun joint openings copies [] (stuck_with copy)
    stuck_here e = so_far.runs (stuck_with copy) (rw rest_is (table, w, so_far.table_is, least, rw e refl))

    -- the next copy finds no location
    pub none_here : first_fit here laid openings ≡ None → FindsNone joint openings (drop (length laid) copies) laid
    none_here e = (copy, drop (length laid + 1) copies, table, w, rest_is, so_far.table_is, least, e)

    pub one_placed : CopyKept joint copy → All (OpeningKept joint) openings → (opening : Opening) (next : Placed)
        → first_fit here laid openings ≡ Some opening
        → IsPlaced joint ((events_of joint ++ laid) ++ put_of copy opening ∷ []) next
        → AreLaid joint openings copies (laid ++ put_of copy opening ∷ []) (set held opening.place (Some (put_of copy opening))) next
    one_placed copy_kept there opening next e placed =
        let l : Put = put_of copy opening in
        let site = find_all (OpeningKept joint) _ openings opening there e in
        let long : length (laid ++ l ∷ []) ≡ length laid + 1 = length-append laid (l ∷ []) in
        record {
          held_is = held_next joint copy here laid openings opening held copy_kept there so_far.held_is e;
          table_is = subst (λ ps. IsPlaced joint ps next) (append_assoc (events_of joint) laid (l ∷ [])) placed;
          numbers = map_push (put_numbers joint) laid l ∙ ap (λ ns. ns ++ own copy ∷ []) so_far.numbers ∙ sym numbers_more ∙ ap (λ k. map own (take k copies)) (sym long);
          each = All-push (IsLaid joint) laid l so_far.each record { place = site.place; numbers = copy_kept.numbers };
          runs = λ out r. so_far.runs out (rw rest_is (table, w, so_far.table_is, least, rw e (rw long at r)));
        }

-- ---- one half after the other

-- those that were put since a number
pub since_at : (joint : Joint) (laid : List Put) (n : ℕ) (table : Placed) → IsPlaced joint (events_of joint ++ laid) table
    → IsPlaced joint ((events_of joint ++ take n laid) ++ drop n laid) table
since_at joint laid n table placed =
    subst (λ ps. IsPlaced joint ps table) (sym (append_assoc (events_of joint) (take n laid) (drop n laid))) (subst (λ ps. IsPlaced joint (events_of joint ++ ps) table) (sym (take-append-drop n laid)) placed)

pub rest_of : (later slice : List Put) (k from : ℕ) → slice ≡ later → from ≡ k → take (length slice - from) (drop from slice) ≡ drop k later
rest_of later slice k from same at = rw (same, at) (take_all (length later - k) (drop k later) (omega (arith, length-drop k later)))
