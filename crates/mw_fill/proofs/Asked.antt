-- The asks of a fill, half by half.
use Rattle.std.proofs.Common.{◌≡◌, ℕ, zero, suc, ◌+◌, ◌-◌, ◌*◌, ◌^◌, ◌<◌, ◌≤◌, Bool, false, List, [], ◌∷◌, ◌++◌, All, length, get_or, map, take, drop, refl, sym, ap, ap₂, subst, ◌∙◌, inl, inr, arith, append-nil, take-append-drop}
use Rattle.std.specs.Prelude.{Result, Ok, Err, IsErrAnd, flat_map, sum_by}
use Rattle.std.proofs.Math.Nat.{add-mul, mul-add, mul-div-le}
use Rattle.std.proofs.lemmas.Bool.{cases_Bool}
use Rattle.std.proofs.lemmas.List.{drop-drop, drop-map, drop-take, ext_get_or, length-drop, length-take, take-take, take_all}
use Rattle.std.proofs.lemmas.List.Concat.{flat_map-append}
use Rattle.std.proofs.lemmas.List.Sums.{sum_by-append, sum_by-cons}
use Rattle.mw_rules.specs.Holds.{Places, places_of}
use Rattle.mw_multi.specs.Joint.{Joint, place_total}
use Rattle.mw_multi.specs.Placement.{Put, put_numbers, IsPlaced}
use Rattle.mw_multi.specs.Events.{events_of}
use Rattle.mw_multi.specs.Steps.{Step, steps_of}
use Rattle.mw_reach.specs.Reach.{Placed, IsLeast, one_if}
use Rattle.mw_reach.specs.Bound.{asks_allowed, asks_naming, asks_at, new_in, items_named, names_item_at}
use Rattle.mw_reach.specs.Reached.{IsMadeFor, flags_in, places_in}
use Rattle.mw_reach.specs.declared.reached.Reached.{Reached}
use Rattle.mw_fill.specs.Copies.{ItemCopy, copy_numbers, all_numbers}
use Rattle.mw_fill.specs.Openings.{Opening}
use Rattle.mw_fill.specs.Fill.{in_hand}
use Rattle.mw_fill.specs.Asks.{AreRun, AreLists, half_way, goals_for, asks_of_goals, asks_of_levels, FindsNone, EndsWith, AnswersAt, AsksWhere, AsksWithin}
use Rattle.mw_fill.specs.Laying.{numbers_found, numbers_between, goals_between, AreFirst, IsLaid, RunsOn, asks_more, asks_of_range, RangeWithin}
use Rattle.mw_fill.specs.Answer.{OnStuck}
use Rattle.mw_fill.specs.declared.error.FillError.{FillError}
use Rattle.mw_fill.specs.declared.error.FillError.TheVariants.{Stuck, Memory}
use Rattle.mw_fill.proofs.Owning.{middle_le}
use Rattle.mw_fill.proofs.Keeping.{least_alike}
use Rattle.mw_fill.proofs.Stepping.{next_copy}
use Rattle.mw_fill.proofs.Trying.{on_stuck, passed_on}
use Rattle.mw_fill.proofs.Determined.{same_places}
use Rattle.mw_fill.proofs.Existing.{tables_of, lists_of, there_are_lists}

-- ---- what was put

-- the first puts are those of the copies that were put first
pub front_puts : (front later : List Put) (puts : List Put) → take (length front) later ≡ front → take (length later) puts ≡ later → take (length front) puts ≡ front
front_puts front later puts same all =
    let short : length front ≤ length later = omega (arith, ap length same, length-take (length front) later) in
    sym (take-take (length front) (length later) puts short) ∙ ap (take (length front)) all ∙ same

-- the numbers of the copies that were put from one on
pub first_since : (joint : Joint) (copies : List ItemCopy) (laid : List Put) (from : ℕ) → from ≤ length laid → AreFirst joint copies laid
    → map (put_numbers joint) (drop from laid) ≡ map (copy_numbers joint) (take (length laid - from) (drop from copies))
first_since joint copies laid from h first =
    let own = copy_numbers joint in
    let sum : length laid ≡ from + (length laid - from) = omega arith in
    sym (drop-map (put_numbers joint) from laid) ∙ ap (drop from) (first ∙ ap (λ k. map own (take k copies)) sum) ∙ drop-map own from (take (from + (length laid - from)) copies)
    ∙ ap (map own) (drop-take from (length laid - from) copies)

pub rest_first : (joint : Joint) (copies : List ItemCopy) (laid slice : List Put) (from : ℕ) → from ≤ length laid → slice ≡ drop from laid → AreFirst joint copies laid
    → map (put_numbers joint) slice ≡ map (copy_numbers joint) (take (length slice) (drop from copies))
rest_first joint copies laid slice from h is first =
    ap (map (put_numbers joint)) is ∙ first_since joint copies laid from h first
    ∙ ap (λ n. map (copy_numbers joint) (take n (drop from copies))) (sym (ap length is ∙ length-drop from laid))

-- lists of the same numbers
end_to_end : {X : Type 0} (f : X → List ℕ) (xs : List X) → flat_map (λ (ns : List ℕ). ns) (map f xs) ≡ flat_map f xs
end_to_end f [] = refl
end_to_end f (x ∷ xs) = ap (λ ns. f x ++ ns) (end_to_end f xs)

joined : {X Y : Type 0} (f : X → List ℕ) (g : Y → List ℕ) (xs : List X) (ys : List Y) → map f xs ≡ map g ys → flat_map f xs ≡ flat_map g ys
joined f g xs ys same = sym (end_to_end f xs) ∙ ap (flat_map (λ (ns : List ℕ). ns)) same ∙ end_to_end g ys

pub half_numbers : (joint : Joint) (copies : List ItemCopy) (laid : List Put) (from : ℕ) → from ≤ length laid → AreFirst joint copies laid → flat_map (put_numbers joint) (drop from laid) ≡ numbers_between joint copies from (length laid)
half_numbers joint copies laid from h first = joined (put_numbers joint) (copy_numbers joint) (drop from laid) (take (length laid - from) (drop from copies)) (first_since joint copies laid from h first)

-- the copies that were put have no more numbers than all
pub laid_le : (joint : Joint) (copies : List ItemCopy) (laid : List Put) → AreFirst joint copies laid → length (flat_map (put_numbers joint) laid) ≤ length (all_numbers joint copies)
laid_le joint copies laid first = omega (arith, ap length (half_numbers joint copies laid 0 (omega arith) first), middle_le joint copies 0 (length laid) (omega arith))

-- ---- fewer items

fewer_in_step : (joint : Joint) (step : Step) (w : Places) (laid : List Put) → items_named step (numbers_found joint w laid) ≤ items_named step (flat_map (put_numbers joint) laid)
fewer_in_step joint step w [] = omega arith
fewer_in_step joint step w (l ∷ laid) =
    let f : ℕ → ℕ = λ i. one_if (names_item_at step i) in
    let own = put_numbers joint l in
    let all : items_named step (flat_map (put_numbers joint) (l ∷ laid)) ≡ items_named step own + items_named step (flat_map (put_numbers joint) laid) = sum_by-append f own (flat_map (put_numbers joint) laid) in
    elim (cases_Bool (w l.place)) [
      | inl here ↦
          let more : items_named step (numbers_found joint w (l ∷ laid)) ≡ items_named step own + items_named step (numbers_found joint w laid) = rw here (sum_by-append f own (numbers_found joint w laid)) in
          omega (arith, all, more, fewer_in_step joint step w laid)
      | inr away ↦
          let still : items_named step (numbers_found joint w (l ∷ laid)) ≡ items_named step (numbers_found joint w laid) = rw away refl in
          omega (arith, all, still, fewer_in_step joint step w laid)
    ]

sums_less : {X : Type 0} (f g : X → ℕ) (xs : List X) → ((x : X) → f x ≤ g x) → sum_by f xs ≤ sum_by g xs
sums_less f g [] h = omega arith
sums_less f g (x ∷ xs) h = omega (arith, sum_by-cons f x xs, sum_by-cons g x xs, h x, sums_less f g xs h)

-- those that are found name no more than all
pub fewer_named : (joint : Joint) (steps : List Step) (w : Places) (laid : List Put) → asks_naming steps (numbers_found joint w laid) ≤ asks_naming steps (flat_map (put_numbers joint) laid)
fewer_named joint steps w laid = sums_less (λ step. items_named step (numbers_found joint w laid)) (λ step. items_named step (flat_map (put_numbers joint) laid)) steps (λ step. fewer_in_step joint step w laid)

-- ---- items of two halves

naming_append : (steps : List Step) (is js : List ℕ) → asks_naming steps (is ++ js) ≡ asks_naming steps is + asks_naming steps js
naming_append [] is js = omega arith
naming_append (step ∷ steps) is js =
    let named : List ℕ → ℕ = items_named step in
    omega (
      arith,
      sum_by-cons (λ s. items_named s (is ++ js)) step steps,
      sum_by-cons (λ s. items_named s is) step steps,
      sum_by-cons (λ s. items_named s js) step steps,
      sum_by-append (λ i. one_if (names_item_at step i)) is js,
      naming_append steps is js,
    )

-- the copies of a range are those of its halves
both_parts : (copies : List ItemCopy) (from middle to : ℕ) → from ≤ middle → middle ≤ to → take (to - from) (drop from copies) ≡ take (middle - from) (drop from copies) ++ take (to - middle) (drop middle copies)
both_parts copies from middle to low high =
    let rest = drop from copies in
    let k = middle - from in
    let n = to - middle in
    let wide : to - from ≡ k + n = omega arith in
    let at : from + k ≡ middle = omega arith in
    let first : take k (take (k + n) rest) ≡ take k rest = take-take k (k + n) rest (omega arith) in
    let second : drop k (take (k + n) rest) ≡ take n (drop middle copies) = drop-take k n rest ∙ ap (take n) (drop-drop k from copies ∙ ap (λ m. drop m copies) at) in
    ap (λ m. take m rest) wide ∙ sym (take-append-drop k (take (k + n) rest)) ∙ ap₂ (λ (xs ys : List ItemCopy). xs ++ ys) first second

both_numbers : (joint : Joint) (copies : List ItemCopy) (from middle to : ℕ) → from ≤ middle → middle ≤ to
    → numbers_between joint copies from to ≡ numbers_between joint copies from middle ++ numbers_between joint copies middle to
both_numbers joint copies from middle to low high =
    ap (all_numbers joint) (both_parts copies from middle to low high) ∙ flat_map-append (copy_numbers joint) (take (middle - from) (drop from copies)) (take (to - middle) (drop middle copies))

both_goals : (joint : Joint) (copies : List ItemCopy) (from middle to : ℕ) → from ≤ middle → middle ≤ to → goals_between joint copies from to ≡ goals_between joint copies from middle + goals_between joint copies middle to
both_goals joint copies from middle to low high =
    ap (asks_of_goals joint) (both_parts copies from middle to low high) ∙ sum_by-append (goals_for joint) (take (middle - from) (drop from copies)) (take (to - middle) (drop middle copies))

-- those of one copy
pub goals_of_one : (joint : Joint) (copies : List ItemCopy) (k : ℕ) (copy : ItemCopy) → k < length copies → copy ≡ get_or copies k copy → goals_between joint copies k (k + 1) ≡ goals_for joint copy
goals_of_one joint copies k copy within is =
    let one : k + 1 - k ≡ 1 = omega arith in
    let sum : goals_for joint copy + 0 ≡ goals_for joint copy = omega arith in
    ap (λ n. asks_of_goals joint (take n (drop k copies))) one ∙ ap (λ cs. asks_of_goals joint (take 1 cs)) (next_copy copies k copy within is) ∙ sum_by-cons (goals_for joint) copy [] ∙ sum

-- ---- halves

-- a range that has room in so many levels has halves that have room in one less
pub record IsHalved (from middle to levels below : ℕ) : Type 0 where
  pub one_less : levels ≡ suc below
  pub first : middle ≤ from + 2 ^ below
  pub second : to ≤ middle + 2 ^ below

halved : (from to levels : ℕ) → from + 2 ≤ to → to ≤ from + 2 ^ levels → (below : ℕ) × IsHalved from (half_way from to) to levels below
halved from to zero long few = absurd (omega arith)
halved from to (suc below) long few = (below, record { one_less = refl; first = omega (arith, mul-div-le (to - from) 2); second = omega (arith, mul-div-le (to - from) 2) })

-- the list with the copies from `to` on in hand, and with those below `from` where they were put
pub record IsListFor (joint : Joint) (copies : List ItemCopy) (puts : List Put) (from to : ℕ) (table : Placed) (w : List Bool) : Type 0 where
  pub table_is : IsPlaced joint (events_of joint ++ take from puts) table
  pub size : length w ≡ place_total joint.slots
  pub least : IsLeast (steps_of joint) (in_hand joint (drop to copies)) table (places_of w)

module _ (joint : Joint) (copies : List ItemCopy) (puts : List Put) (tables : ℕ → Placed) (lists : ℕ → ℕ → List Bool) (are : AreLists joint copies puts tables lists) where
  module _ (from to : ℕ) (table : Placed) (w : List Bool) (list : IsListFor joint copies puts from to table w) where
    pub same_table : table ≡ tables from
    same_table = let there = are.tables_are from in ext_get_or [] table (tables from) (list.table_is.size ∙ sym there.size) (λ k h. list.table_is.entries k ∙ sym (there.entries k))

    pub same_list : w ≡ lists from to
    same_list =
        let steps = steps_of joint in
        let base = in_hand joint (drop to copies) in
        let there = are.least from to in
        let here : IsLeast steps base (tables from) (places_of w) = least_alike joint (events_of joint ++ take from puts) base table (tables from) (places_of w) list.table_is (are.tables_are from) list.least in
        ext_get_or false w (lists from to) (list.size ∙ sym (are.sizes from to))
        (λ k h. same_places (places_of w) (places_of (lists from to)) (here.least (places_of (lists from to)) there.closed) (there.least (places_of w) here.closed) k)

  pub first_is : (to : ℕ) (table : Placed) (w : List Bool) → IsListFor joint copies puts 0 to table w → asks_allowed (steps_of joint) table w ≡ asks_allowed (steps_of joint) (tables 0) (lists 0 to)
  first_is to table w list = rw (same_table 0 to table w list, same_list 0 to table w list) refl

  -- what it costs to go on from one list to the next, by the lists
  pub cost_is : (from to next till : ℕ) (table other : Placed) (w later : List Bool) (more : List ℕ) → IsListFor joint copies puts from to other w → IsListFor joint copies puts next till table later
      → asks_more joint table more w later ≡ asks_naming (steps_of joint) more + asks_at (steps_of joint) (tables next) (new_in (lists from to) (lists next till))
  cost_is from to next till table other w later more list there = rw (same_table next till table later there, same_list from to other w list, same_list next till table later there) refl

  module _ (from middle to : ℕ) (half : middle ≡ half_way from to) (low : from ≤ middle) (high : middle ≤ to) where
    abbrev asked_for : ℕ → ℕ → ℕ
    asked_for k n = asks_naming (steps_of joint) (numbers_between joint copies k n)

    abbrev new_there : ℕ → ℕ → ℕ
    new_there k n = asks_at (steps_of joint) (tables k) (new_in (lists from to) (lists k n))

    -- a level more
    splits : (below : ℕ) → asks_of_range joint copies tables lists (suc below) from to
        ≡ (asked_for middle to + new_there from middle + asks_of_range joint copies tables lists below from middle) + (asked_for from middle + new_there middle to + asks_of_range joint copies tables lists below middle to)
    splits below =
        let naming : asked_for from to ≡ asked_for from middle + asked_for middle to =
        ap (asks_naming (steps_of joint)) (both_numbers joint copies from middle to low high) ∙ naming_append (steps_of joint) (numbers_between joint copies from middle) (numbers_between joint copies middle to) in
        let levels : asks_of_levels joint tables lists (suc below) from to
        ≡ new_there from middle + new_there middle to + (asks_of_levels joint tables lists below from middle + asks_of_levels joint tables lists below middle to) = rw half refl in
        omega (
          arith,
          naming,
          levels,
          add-mul 1 below (asked_for from to),
          both_goals joint copies from middle to low high,
          ap (λ n. below * n) naming,
          mul-add below (asked_for from middle) (asked_for middle to),
        )

    module _ (levels : ℕ) (long : from + 2 ≤ to) (few : to ≤ from + 2 ^ levels) (before then : ℕ)
        (first : (below : ℕ) → middle ≤ from + 2 ^ below → then ≤ before + (asked_for middle to + new_there from middle) + asks_of_range joint copies tables lists below from middle) where
      room : (below : ℕ) × IsHalved from middle to levels below
      room = rw half (halved from to levels long few)

      -- where the fill ended in the first half
      pub first_counted : then ≤ before + asks_of_range joint copies tables lists levels from to
      first_counted = rw room.1.one_less (omega (arith, splits room.0, first room.0 room.1.first))

      -- where it went on
      pub both_counted : (last : ℕ) → ((below : ℕ) → to ≤ middle + 2 ^ below → last ≤ then + (asked_for from middle + new_there middle to) + asks_of_range joint copies tables lists below middle to)
          → last ≤ before + asks_of_range joint copies tables lists levels from to
      both_counted last second = rw room.1.one_less (omega (arith, splits room.0, first room.0 room.1.first, second room.0 room.1.second))

-- the list of what was put so far
pub list_there : (joint : Joint) (copies : List ItemCopy) (puts : List Put) (laid : List Put) (from to : ℕ) (table : Placed) (w : List Bool) → from ≡ length laid → take (length laid) puts ≡ laid
    → IsPlaced joint (events_of joint ++ laid) table → length w ≡ place_total joint.slots → IsLeast (steps_of joint) (in_hand joint (drop to copies)) table (places_of w) → IsListFor joint copies puts from to table w
list_there joint copies puts laid from to table w is same placed size least = record { table_is = rw (is, same) placed; size = size; least = least }

-- ---- the whole

are_run : (joint : Joint) (openings : List Opening) (copies : List ItemCopy) (laid : List Put) → RunsOn joint openings copies laid → AreRun joint openings copies laid
are_run joint openings copies laid runs = runs

-- the asks for the first list, and then those within the whole
pub whole_within : {X : Type 0} (joint : Joint) (openings : List Opening) (copies : List ItemCopy) (begin laid : List Put) (table : Placed) (reached : Reached) (before begun last : ℕ) → begin ≡ [] → IsPlaced joint (events_of joint ++ begin) table
    → IsMadeFor joint reached → IsLeast (steps_of joint) (in_hand joint (drop (length copies) copies)) table (places_in reached) → begun ≤ before + asks_allowed (steps_of joint) table (flags_in reached)
    → All (IsLaid joint) laid → RunsOn joint openings copies laid → RangeWithin joint copies laid (length begin) (length copies) begun last → (result : Result X FillError) → AnswersAt joint openings copies result laid → AsksWithin joint openings copies result before last
whole_within joint openings copies begin laid table reached before begun last none placed made least first each runs within result ends =
    let events : IsPlaced joint (events_of joint) table = subst (λ ps. IsPlaced joint ps table) (append-nil (events_of joint)) (rw none at placed) in
    let tables = tables_of joint copies laid table reached.work made in
    let lists = lists_of joint copies laid table reached.work made in
    let are = there_are_lists joint copies laid table reached.work made events each in
    let puts = laid in
    let w = flags_in reached in
    inr (
      puts,
      tables,
      lists,
      are_run joint openings copies laid runs,
      ends,
      are,
      λ levels few.
          let nothing : List Put = [] in
          let list = list_there joint copies puts nothing 0 (length copies) table w refl refl (rw none at placed) made.tally.done least in
          let first_list : asks_allowed (steps_of joint) table w ≡ asks_allowed (steps_of joint) (tables 0) (lists 0 (length copies)) =
          first_is joint copies puts tables lists are (length copies) table w list in
          let all : numbers_between joint copies 0 (length copies) ≡ all_numbers joint copies = ap (all_numbers joint) (take_all (length copies - 0) copies (omega arith)) in
          let same = take_all (length laid) laid (omega arith) in
          let rest : last ≤ begun + asks_of_range joint copies tables lists levels 0 (length copies) =
          subst (λ (ls : List Put). last ≤ begun + asks_of_range joint copies tables lists levels (length ls) (length copies)) none (within levels puts tables lists (omega (arith, few)) same are) in
          let goals : goals_between joint copies 0 (length copies) ≡ asks_of_goals joint copies = ap (asks_of_goals joint) (take_all (length copies - 0) copies (omega arith)) in
          omega (arith, first, first_list, rest, ap (λ ns. levels * asks_naming (steps_of joint) ns) all, goals),
    )

-- ---- answers that are passed on

-- what is known of how a fill ended may be said in other words
pub asks_where : (P Q : List Put → Type 0) (joint : Joint) (openings : List Opening) (copies : List ItemCopy) (before after : ℕ) → ((puts : List Put) → P puts → Q puts) → AsksWhere P joint openings copies before after → AsksWhere Q joint openings copies before after
asks_where P Q joint openings copies before after h (inl none) = inl none
asks_where P Q joint openings copies before after h (inr some) = inr (some.0, some.1, some.2, some.3, h some.0 some.4, some.5, some.6)

-- where each copy was put, whatever is answered
all_put : {X : Type 0} (joint : Joint) (openings : List Opening) (copies : List ItemCopy) (result : Result X FillError) (puts : List Put) → length puts ≡ length copies → AnswersAt joint openings copies result puts
all_put joint openings copies (Ok x) puts all = all
all_put joint openings copies (Err (Stuck slot item)) puts all = inl all
all_put joint openings copies (Err Memory) puts all = tt

pub asks_all : {X : Type 0} (joint : Joint) (openings : List Opening) (copies : List ItemCopy) (result : Result X FillError) (before after : ℕ) → AsksWhere (λ puts. length puts ≡ length copies) joint openings copies before after → AsksWithin joint openings copies result before after
asks_all joint openings copies result before after = asks_where (λ puts. length puts ≡ length copies) (AnswersAt joint openings copies result) joint openings copies before after (all_put joint openings copies result)

-- where the same error is answered
pub asks_passed : {X : Type 0} (joint : Joint) (openings : List Opening) (copies : List ItemCopy) (e : FillError) (result : Result X FillError) (before after : ℕ) → AsksWhere (λ puts. OnStuck e (λ slot item. EndsWith joint openings copies puts)) joint openings copies before after
    → IsErrAnd result (λ x. x ≡ e) → AsksWithin joint openings copies result before after
asks_passed joint openings copies e result before after h is =
    let Ends : List Put → FillError → Type 0 = λ puts x. OnStuck x (λ slot item. EndsWith joint openings copies puts) in
    asks_where (λ puts. Ends puts e) (AnswersAt joint openings copies result) joint openings copies before after
    (λ puts ends. passed_on result (λ x. length puts ≡ length copies) (Ends puts) e ends is) h

-- where the next copy found no location, or memory ran out
pub ends_there : {X : Type 0} (joint : Joint) (openings : List Opening) (copies : List ItemCopy) (laid : List Put) (e : FillError) (result : Result X FillError) → OnStuck e (λ slot item. FindsNone joint openings (drop (length laid) copies) laid)
    → IsErrAnd result (λ x. x ≡ e) → AnswersAt joint openings copies result laid
ends_there joint openings copies laid e result none is =
    let there : OnStuck e (λ slot item. EndsWith joint openings copies laid) =
    on_stuck e (λ slot item. FindsNone joint openings (drop (length laid) copies) laid) (λ slot item. EndsWith joint openings copies laid)
    (λ slot item found. inr found) none in
    passed_on result (λ x. length laid ≡ length copies) (λ x. OnStuck x (λ slot item. EndsWith joint openings copies laid)) e there is

-- of lists that are the same
pub asks_alike : {X : Type 0} (joint : Joint) (openings other : List Opening) (copies more : List ItemCopy) (result : Result X FillError) (before after : ℕ) → openings ≡ other → copies ≡ more → AsksWithin joint openings copies result before after → AsksWithin joint other more result before after
asks_alike joint openings other copies more result before after s c h =
    subst (λ os. AsksWithin joint os more result before after) s (subst (λ cs. AsksWithin joint openings cs result before after) c h)
