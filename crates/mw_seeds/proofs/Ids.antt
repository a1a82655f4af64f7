-- Where ids stand in a table.
use Rattle.std.proofs.Common.{◌≡◌, ℕ, ℤ, zero, suc, List, [], ◌∷◌, Bool, true, false, Option, Some, None, option_map, filter_map, int_eq, refl, ap, subst, ◌∙◌, arith, slice_get}
use Rattle.std.specs.Prelude.{is_some, if◌then◌else◌}
use Rattle.std.specs.List.{AllByRecursion}
use Rattle.mw_multi.specs.Names.{IdsDiffer}
use Rattle.mw_multi.specs.Indexes.{index_of_id}
use Rattle.mw_seeds.proofs.SeedHeld.{rest_differ, first_differs}

one_found : (x id : ℤ) (ids : List (Option ℤ)) (k : ℕ) (found : Option ℕ) (b : Bool) → int_eq x id ≡ b → (if b then Some 0 else option_map suc found) ≡ Some k → ((m : ℕ) → found ≡ Some m → slice_get ids m ≡ Some (Some id))
    → slice_get (Some x ∷ ids) k ≡ Some (Some id)
one_found x id ids zero found true is e rest = let same : x ≡ id = grind (arith, is) in ap (λ v. Some (Some v)) same
one_found x id ids (suc k) found true is e rest = cc
one_found x id ids k None false is e rest = cc
one_found x id ids zero (Some m) false is e rest = cc
one_found x id ids (suc k) (Some m) false is e rest = let same : m ≡ k = cc in rest k (ap Some same)

none_found : (id : ℤ) (ids : List (Option ℤ)) (k : ℕ) (found : Option ℕ) → option_map suc found ≡ Some k → ((m : ℕ) → found ≡ Some m → slice_get ids m ≡ Some (Some id)) → slice_get (None ∷ ids) k ≡ Some (Some id)
none_found id ids k None e rest = cc
none_found id ids zero (Some m) e rest = cc
none_found id ids (suc k) (Some m) e rest = let same : m ≡ k = cc in rest k (ap Some same)

pub id_found : (ids : List (Option ℤ)) (id : ℤ) (k : ℕ) → index_of_id ids id ≡ Some k → slice_get ids k ≡ Some (Some id)
id_found [] id k e = cc
id_found (Some x ∷ ids) id k e = one_found x id ids k (index_of_id ids id) (int_eq x id) refl e (λ m f. id_found ids id m f)
id_found (None ∷ ids) id k e = none_found id ids k (index_of_id ids id) e (λ m f. id_found ids id m f)

apart_at : (x id : ℤ) (ids : List (Option ℤ)) (k : ℕ) → AllByRecursion (λ y. int_eq x y ≡ false) (filter_map (λ i. i) ids) → slice_get ids k ≡ Some (Some id) → int_eq x id ≡ false
apart_at x id [] k h e = cc
apart_at x id (None ∷ ids) zero h e = cc
apart_at x id (None ∷ ids) (suc k) h e = apart_at x id ids k h e
apart_at x id (Some y ∷ ids) zero h e = let same : y ≡ id = cc in subst (λ v. int_eq x v ≡ false) same h.0
apart_at x id (Some y ∷ ids) (suc k) h e = apart_at x id ids k h.1 e

-- an id stands first where it stands at all
pub first_id : (ids : List (Option ℤ)) (id : ℤ) (k : ℕ) → IdsDiffer ids → slice_get ids k ≡ Some (Some id) → index_of_id ids id ≡ Some k
first_id [] id k d e = cc
first_id (o ∷ ids) id zero d e =
    let same : o ≡ Some id = cc in
    let own : int_eq id id ≡ true = grind arith in
    ap (λ v. index_of_id (v ∷ ids) id) same ∙ ap (λ b. if b then Some 0 else option_map suc (index_of_id ids id)) own
first_id (None ∷ ids) id (suc k) d e = ap (option_map suc) (first_id ids id k (rest_differ None ids d) e)
first_id (Some x ∷ ids) id (suc k) d e =
    ap (λ b. if b then Some 0 else option_map suc (index_of_id ids id)) (apart_at x id ids k (first_differs x (Some x) ids refl d) e)
    ∙ ap (option_map suc) (first_id ids id k (rest_differ (Some x) ids d) e)

one_some : (b : Bool) (found : Option ℕ) → is_some found ≡ true → is_some (if b then Some 0 else option_map suc found) ≡ true
one_some true found e = refl
one_some false None e = cc
one_some false (Some k) e = refl

pub some_id : (ids : List (Option ℤ)) (id : ℤ) (k : ℕ) → slice_get ids k ≡ Some (Some id) → is_some (index_of_id ids id) ≡ true
some_id [] id k e = cc
some_id (o ∷ ids) id zero e =
    let same : o ≡ Some id = cc in
    let own : int_eq id id ≡ true = grind arith in
    ap (λ v. is_some (index_of_id (v ∷ ids) id)) same ∙ ap (λ b. is_some (if b then Some 0 else option_map suc (index_of_id ids id))) own
some_id (None ∷ ids) id (suc k) e = one_some false (index_of_id ids id) (some_id ids id k e)
some_id (Some x ∷ ids) id (suc k) e = one_some (int_eq x id) (index_of_id ids id) (some_id ids id k e)
