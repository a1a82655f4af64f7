-- Names and ids that each stand at no earlier place are distinct.
use Rattle.std.proofs.Common.{◌≡◌, ℕ, ℤ, suc, ◌+◌, ◌<◌, List, [], ◌∷◌, ◌++◌, length, Bool, true, false, Option, Some, None, option_map, if◌then◌else◌, refl, sym, subst, arith, append_assoc, length-append}
use Rattle.std.specs.Prelude.{bytes_eq, filter_map}
use Rattle.std.specs.List.{IsDistinct, AllByRecursion}
use Rattle.std.specs.Ordering.{int_eq}
use Rattle.mw_multi.specs.Indexes.{index_of_name, index_of_id}

-- ---- what a found place says of the ones before it

not_here : (b : Bool) (found : Option ℕ) (j : ℕ) → (if b then Some 0 else found) ≡ Some j → 0 < j → b ≡ false
not_here true found j e h = let none : 0 ≡ j = cc in absurd (omega (arith, none))
not_here false found j e h = refl

further : (b : Bool) (found : Option ℕ) (j n : ℕ) → (if b then Some 0 else option_map suc found) ≡ Some j → suc n < j → (m : ℕ) × (found ≡ Some m) × (n < m)
further true found j n e h = let none : 0 ≡ j = cc in absurd (omega (arith, none))
further false (Some m) j n e h = let is : suc m ≡ j = cc in (m, refl, omega (arith, is))
further false None j n e h = let never : ⊥ = cc in absurd never

further_id : (found : Option ℕ) (j n : ℕ) → option_map suc found ≡ Some j → suc n < j → (m : ℕ) × (found ≡ Some m) × (n < m)
further_id found j n e h = further false found j n e h

name_passed : (before : List (List ℕ)) (x : List ℕ) (rest : List (List ℕ)) (q : List ℕ) (j : ℕ) → index_of_name (before ++ x ∷ rest) q ≡ Some j → length before < j → bytes_eq x q ≡ false
name_passed [] x rest q j e h = not_here (bytes_eq x q) _ j e h
name_passed (y ∷ before) x rest q j e h =
    let more = further (bytes_eq y q) (index_of_name (before ++ x ∷ rest) q) j (length before) e h in
    name_passed before x rest q more.0 more.1 more.2

id_passed : (before : List (Option ℤ)) (x : ℤ) (rest : List (Option ℤ)) (q : ℤ) (j : ℕ) → index_of_id (before ++ Some x ∷ rest) q ≡ Some j → length before < j → int_eq x q ≡ false
id_passed [] x rest q j e h = not_here (int_eq x q) _ j e h
id_passed (Some y ∷ before) x rest q j e h =
    let more = further (int_eq y q) (index_of_id (before ++ Some x ∷ rest) q) j (length before) e h in
    id_passed before x rest q more.0 more.1 more.2
id_passed (None ∷ before) x rest q j e h =
    let more = further_id (index_of_id (before ++ Some x ∷ rest) q) j (length before) e h in
    id_passed before x rest q more.0 more.1 more.2

-- ---- tables whose rows stand first

abbrev pub FirstAt : List (List ℕ) → ℕ → List (List ℕ) → Type 0
FirstAt whole i [] = Unit {0}
FirstAt whole i (n ∷ ns) = (index_of_name whole n ≡ Some i) × FirstAt whole (i + 1) ns

abbrev pub FirstIdAt : List (Option ℤ) → ℕ → List (Option ℤ) → Type 0
FirstIdAt whole i [] = Unit {0}
FirstIdAt whole i (Some x ∷ ids) = (index_of_id whole x ≡ Some i) × FirstIdAt whole (i + 1) ids
FirstIdAt whole i (None ∷ ids) = FirstIdAt whole (i + 1) ids

abbrev somes : List (Option ℤ) → List ℤ
somes ids = filter_map (λ id. id) ids

names_apart : (before : List (List ℕ)) (x : List ℕ) (rest : List (List ℕ)) (i : ℕ) (ns : List (List ℕ)) → length before < i → FirstAt (before ++ x ∷ rest) i ns → AllByRecursion (λ y. bytes_eq x y ≡ false) ns
names_apart before x rest i [] h first = tt
names_apart before x rest i (n ∷ ns) h first = (name_passed before x rest n i first.0 h, names_apart before x rest (i + 1) ns (omega arith) first.1)

ids_apart : (before : List (Option ℤ)) (x : ℤ) (rest : List (Option ℤ)) (i : ℕ) (ids : List (Option ℤ)) → length before < i → FirstIdAt (before ++ Some x ∷ rest) i ids → AllByRecursion (λ y. int_eq x y ≡ false) (somes ids)
ids_apart before x rest i [] h first = tt
ids_apart before x rest i (Some y ∷ ids) h first = (id_passed before x rest y i first.0 h, ids_apart before x rest (i + 1) ids (omega arith) first.1)
ids_apart before x rest i (None ∷ ids) h first = ids_apart before x rest (i + 1) ids (omega arith) first

pub regroup : {A : Type 0} (front : List A) (x : A) (xs : List A) → front ++ x ∷ xs ≡ (front ++ x ∷ []) ++ xs
regroup front x xs = sym (append_assoc front (x ∷ []) xs)

one_longer : {A : Type 0} (front : List A) (x : A) → length front + 1 ≡ length (front ++ x ∷ [])
one_longer front x = omega (arith, length-append front (x ∷ []))

names_from : (before ns : List (List ℕ)) → FirstAt (before ++ ns) (length before) ns → IsDistinct bytes_eq ns
unfolding IsDistinct
names_from before [] first = tt
names_from before (n ∷ ns) first = (
  names_apart before n ns (length before + 1) ns (omega arith) first.1,
  names_from (before ++ n ∷ []) ns
      (subst (λ whole. FirstAt whole (length (before ++ n ∷ [])) ns) (regroup before n ns)
      (subst (λ i. FirstAt (before ++ n ∷ ns) i ns) (one_longer before n) first.1)),
)

ids_from : (before ids : List (Option ℤ)) → FirstIdAt (before ++ ids) (length before) ids → IsDistinct int_eq (somes ids)
unfolding IsDistinct
ids_from before [] first = tt
ids_from before (Some x ∷ ids) first = (
  ids_apart before x ids (length before + 1) ids (omega arith) first.1,
  ids_from (before ++ Some x ∷ []) ids
      (subst (λ whole. FirstIdAt whole (length (before ++ Some x ∷ [])) ids) (regroup before (Some x) ids)
      (subst (λ i. FirstIdAt (before ++ Some x ∷ ids) i ids) (one_longer before (Some x)) first.1)),
)
ids_from before (None ∷ ids) first =
    ids_from (before ++ None ∷ []) ids
    (subst (λ whole. FirstIdAt whole (length (before ++ None ∷ [])) ids) (regroup before None ids)
    (subst (λ i. FirstIdAt (before ++ None ∷ ids) i ids) (one_longer before None) first))

pub names_differ : (ns : List (List ℕ)) → FirstAt ns 0 ns → IsDistinct bytes_eq ns
names_differ ns first = names_from [] ns first

pub ids_differ : (ids : List (Option ℤ)) → FirstIdAt ids 0 ids → IsDistinct int_eq (somes ids)
ids_differ ids first = ids_from [] ids first
