-- The numbers of copies over all slots, one for each owner of each.
use Rattle.std.proofs.Common.{◌≡◌, ℕ, suc, ◌+◌, ◌-◌, ◌<◌, ◌≤◌, Bool, true, false, cond, List, [], ◌∷◌, ◌++◌, All, length, get_or, map, take, drop, refl, sym, ap, ◌∙◌, inl, inr, arith, append_assoc, append-nil, take-add, take-append-drop}
use Rattle.std.specs.Prelude.{filter, flat_map, sum_by}
use Rattle.std.proofs.lemmas.Bool.{cases_lt}
use Rattle.std.proofs.lemmas.List.{drop_at, drop_more, get_or-drop, get_or-map, get_or-take, get_or_append_left, get_or_push, length-append, length-drop, length-map, length-take, take_at, take_more}
use Rattle.std.proofs.lemmas.List.Concat.{flat_map-append}
use Rattle.std.proofs.lemmas.List.Elements.{All-append, All-nil, filter-append}
use Rattle.std.proofs.lemmas.List.Sums.{sum_by-cons}
use Rattle.mw_rules.specs.Holds.{Places}
use Rattle.mw_multi.specs.Joint.{Joint, item_total}
use Rattle.mw_multi.specs.Placement.{Put, put_numbers}
use Rattle.mw_reach.specs.Reach.{times_in}
use Rattle.mw_reach.proofs.Found.{times_in-le}
use Rattle.mw_reach.proofs.Items.{times_in-append}
use Rattle.mw_fill.specs.declared.locality.Locality.TheVariants.{Anywhere}
use Rattle.mw_fill.specs.Copies.{ItemCopy, copy_numbers, all_numbers, copies_count}
use Rattle.mw_fill.specs.Kept.{CopyKept}
use Rattle.mw_fill.specs.Laying.{lies_in, numbers_found, numbers_between, AreFirst}

-- ---- how many

-- no more of an item than there are numbers
pub count_le : (joint : Joint) (copies : List ItemCopy) (n : ℕ) → copies_count joint copies n ≤ length (all_numbers joint copies)
count_le joint copies n = times_in-le n (all_numbers joint copies)

-- what is left has no more numbers than all
pub rest_le : (joint : Joint) (copies : List ItemCopy) (from : ℕ) → length (all_numbers joint (drop from copies)) ≤ length (all_numbers joint copies)
rest_le joint copies from =
    let own = copy_numbers joint in
    let parts : all_numbers joint copies ≡ all_numbers joint (take from copies) ++ all_numbers joint (drop from copies) =
    ap (all_numbers joint) (sym (take-append-drop from copies)) ∙ flat_map-append own (take from copies) (drop from copies) in
    omega (arith, ap length parts, length-append (all_numbers joint (take from copies)) (all_numbers joint (drop from copies)))

-- the first puts have no more numbers than all
pub front_le : (joint : Joint) (puts : List Put) (n : ℕ) → length (flat_map (put_numbers joint) (take n puts)) ≤ length (flat_map (put_numbers joint) puts)
front_le joint puts n =
    let own = put_numbers joint in
    let parts : flat_map own puts ≡ flat_map own (take n puts) ++ flat_map own (drop n puts) = ap (flat_map own) (sym (take-append-drop n puts)) ∙ flat_map-append own (take n puts) (drop n puts) in
    omega (arith, ap length parts, length-append (flat_map own (take n puts)) (flat_map own (drop n puts)))

-- ---- whose

-- the numbers of copies of the joint are its own
pub copies_within : (joint : Joint) (copies : List ItemCopy) → All (CopyKept joint) copies → All (λ n. n < item_total joint.slots) (all_numbers joint copies)
copies_within joint [] all = All-nil (λ n. n < item_total joint.slots)
copies_within joint (copy ∷ later) all =
    All-append (λ n. n < item_total joint.slots) (copy_numbers joint copy) (all_numbers joint later) (all 0 copy (omega arith)).numbers (copies_within joint later (λ k d h. all (suc k) d (omega (arith, h))))

-- ---- counts

pub count_append : (joint : Joint) (xs ys : List ItemCopy) (n : ℕ) → copies_count joint (xs ++ ys) n ≡ copies_count joint xs n + copies_count joint ys n
count_append joint xs ys n = ap (times_in n) (flat_map-append (copy_numbers joint) xs ys) ∙ times_in-append n (all_numbers joint xs) (all_numbers joint ys)

-- they are counted copy by copy
pub count_each : (joint : Joint) (copies : List ItemCopy) (n : ℕ) → copies_count joint copies n ≡ sum_by (λ c. times_in n (copy_numbers joint c)) copies
count_each joint [] n = refl
count_each joint (copy ∷ later) n =
    times_in-append n (copy_numbers joint copy) (all_numbers joint later) ∙ ap (λ k. times_in n (copy_numbers joint copy) + k) (count_each joint later n) ∙ sym (sum_by-cons (λ c. times_in n (copy_numbers joint c)) copy later)

-- ---- one copy more

pub numbers_more : (joint : Joint) (copies : List ItemCopy) (i : ℕ) (copy : ItemCopy) → i < length copies → copy ≡ get_or copies i copy → all_numbers joint (take (i + 1) copies) ≡ all_numbers joint (take i copies) ++ copy_numbers joint copy
numbers_more joint copies i copy within is =
    let front = take i copies in
    ap (all_numbers joint) (take_more copies i copy within ∙ ap (λ c. front ++ c ∷ []) (sym is)) ∙ flat_map-append (copy_numbers joint) front (copy ∷ [])
    ∙ ap (λ ns. all_numbers joint front ++ ns) (append-nil (copy_numbers joint copy))

-- where each of the first copies begins, and the next
pub begins_more : (joint : Joint) (copies : List ItemCopy) (begins : List ℕ) (i end : ℕ) → length begins ≡ i + 1 → ((k d : ℕ) → k ≤ i → get_or begins k d ≡ length (all_numbers joint (take k copies)))
    → end ≡ length (all_numbers joint (take (i + 1) copies)) → (k d : ℕ) → k ≤ i + 1 → get_or (begins ++ end ∷ []) k d ≡ length (all_numbers joint (take k copies))
begins_more joint copies begins i end size each is k d low = elim (cases_lt k (i + 1)) [
  | inl before ↦ get_or_append_left begins (end ∷ []) d k (omega (arith, size, before)) ∙ each k d (omega (arith, before))
  | inr last ↦ let at : i + 1 ≡ k = omega (arith, low, last) in get_or_push begins end d k (size ∙ at) ∙ is ∙ ap (λ n. length (all_numbers joint (take n copies))) at
]

-- ---- the numbers of a range

module _ (joint : Joint) (copies : List ItemCopy) (from to : ℕ) (low : from ≤ to) where
  abbrev front : List ℕ
  front = all_numbers joint (take from copies)

  abbrev middle : List ℕ
  middle = numbers_between joint copies from to

  abbrev rest : List ℕ
  rest = all_numbers joint (drop to copies)

  up_to : all_numbers joint (take to copies) ≡ front ++ middle
  up_to =
      let sum : to ≡ from + (to - from) = omega arith in
      ap (λ n. all_numbers joint (take n copies)) sum ∙ ap (all_numbers joint) (take-add from (to - from) copies) ∙ flat_map-append (copy_numbers joint) (take from copies) (take (to - from) (drop from copies))

  whole : all_numbers joint copies ≡ front ++ (middle ++ rest)
  whole =
      ap (all_numbers joint) (sym (take-append-drop to copies)) ∙ flat_map-append (copy_numbers joint) (take to copies) (drop to copies) ∙ ap (λ ns. ns ++ rest) up_to ∙ append_assoc front middle rest

  pub end_is : length (all_numbers joint (take to copies)) ≡ length front + length middle
  end_is = ap length up_to ∙ length-append front middle

  pub middle_le : length middle ≤ length (all_numbers joint copies)
  middle_le = omega (arith, ap length whole, length-append front (middle ++ rest), length-append middle rest)

  pub end_within : length (all_numbers joint (take to copies)) ≤ length (all_numbers joint copies)
  end_within = omega (arith, end_is, ap length whole, length-append front (middle ++ rest), length-append middle rest)

  pub part_is : (begin end : ℕ) → begin ≡ length front → end ≡ length (all_numbers joint (take to copies)) → take (end - begin) (drop begin (all_numbers joint copies)) ≡ middle
  part_is begin end b e =
      let wide : length middle ≡ end - begin = omega (arith, end_is, b, e) in
      ap (λ ns. take (end - begin) (drop begin ns)) whole ∙ ap (take (end - begin)) (drop_at front (middle ++ rest) begin (sym b)) ∙ take_at middle rest (end - begin) wide

-- ---- the numbers of the copies that were put

pub first_short : (joint : Joint) (copies : List ItemCopy) (laid : List Put) → AreFirst joint copies laid → length laid ≤ length copies
first_short joint copies laid first =
    let front = take (length laid) copies in
    omega (arith, ap length first, length-map laid (put_numbers joint), length-map front (copy_numbers joint), length-take (length laid) copies)

any_copy : ItemCopy
any_copy = record { receiver = 0; item = 0; locality = Anywhere }

-- those of one
pub one_between : (joint : Joint) (copies : List ItemCopy) (laid : List Put) (from i : ℕ) (put : Put) → from + length laid ≤ length copies
    → map (put_numbers joint) laid ≡ map (copy_numbers joint) (take (length laid) (drop from copies)) → i < length laid → put ≡ get_or laid i put → numbers_between joint copies (from + i) (from + i + 1) ≡ put_numbers joint put
one_between joint copies laid from i put within same inside is =
    let at = from + i in
    let copy = get_or copies at any_copy in
    let some = drop from copies in
    let one : at + 1 - at ≡ 1 = omega arith in
    let short : i < length (take (length laid) some) = omega (arith, length-take (length laid) some, length-drop from copies, within, inside) in
    let there : copy_numbers joint copy ≡ put_numbers joint put =
    ap (copy_numbers joint) (sym (get_or-take (length laid) some i any_copy inside ∙ get_or-drop from copies i any_copy)) ∙ sym (get_or-map (copy_numbers joint) (take (length laid) some) i any_copy [] short)
    ∙ ap (λ (ns : List (List ℕ)). get_or ns i []) (sym same) ∙ get_or-map (put_numbers joint) laid i put [] inside ∙ ap (put_numbers joint) (sym is) in
    ap (λ n. all_numbers joint (take n (drop at copies))) one ∙ ap (λ cs. all_numbers joint (take 1 cs)) (drop_more copies at any_copy (omega (arith, within, inside))) ∙ append-nil (copy_numbers joint copy) ∙ there

module _ (joint : Joint) (w : Places) (laid : List Put) (i : ℕ) (put : Put) (within : i < length laid) (is : put ≡ get_or laid i put) where
  found_step : (b : Bool) → w put.place ≡ b → numbers_found joint w (take (i + 1) laid) ≡ numbers_found joint w (take i laid) ++ flat_map (put_numbers joint) (cond b (put ∷ []) [])
  found_step b e =
      let before = take i laid in
      ap (numbers_found joint w) (take_more laid i put within ∙ ap (λ p. before ++ p ∷ []) (sym is)) ∙ ap (flat_map (put_numbers joint)) (filter-append (lies_in w) before (put ∷ []))
      ∙ flat_map-append (put_numbers joint) (filter (lies_in w) before) (filter (lies_in w) (put ∷ [])) ∙ ap (λ t. numbers_found joint w before ++ flat_map (put_numbers joint) (cond t (put ∷ []) [])) e

  -- one more is found
  pub found_more : w put.place ≡ true → numbers_found joint w (take (i + 1) laid) ≡ numbers_found joint w (take i laid) ++ put_numbers joint put
  found_more e = found_step true e ∙ ap (λ ns. numbers_found joint w (take i laid) ++ ns) (append-nil (put_numbers joint put))

  pub found_still : w put.place ≡ false → numbers_found joint w (take (i + 1) laid) ≡ numbers_found joint w (take i laid)
  found_still e = found_step false e ∙ append-nil (numbers_found joint w (take i laid))
