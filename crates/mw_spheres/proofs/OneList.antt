-- A placement has one list of spheres.
use Rattle.std.proofs.Common.{◌≡◌, ℕ, Bool, true, false, ◌&&◌, not, List, [], ◌∷◌, ◌++◌, refl, sym, ap, ap₂, subst, ◌∙◌}
use Rattle.mw_model.specs.Seed.{Spot}
use Rattle.mw_rules.specs.Holds.{Bag, Places}
use Rattle.mw_multi.specs.Joint.{Joint}
use Rattle.mw_multi.specs.Steps.{Step}
use Rattle.mw_reach.specs.Reach.{Placed, IsLeast}
use Rattle.mw_spheres.specs.Spots.{spot_place, spots_of, is_listed, placement_table, holds_progression}
use Rattle.mw_spheres.specs.Spheres.{is_due, IsSphere, AreSpheres}
use Rattle.mw_spheres.specs.Laws.{SpheresAreOne}
use Rattle.mw_spheres.proofs.Comparing.{nothing_claimed}
use Rattle.mw_spheres.proofs.Hand.{filter-same}

same_bool : (a b : Bool) → (a ≡ true → b ≡ true) → (b ≡ true → a ≡ true) → a ≡ b
same_bool true b f g = sym (f refl)
same_bool false true f g = g refl
same_bool false false f g = refl

pub least_same : (steps : List Step) (base : Bag) (placed : Placed) (v w : Places) → IsLeast steps base placed v → IsLeast steps base placed w → (p : ℕ) → v p ≡ w p
least_same steps base placed v w a b p = same_bool (v p) (w p) (a.least w b.closed p) (b.least v a.closed p)

sphere_same : (joint : Joint) (table : Placed) (earlier a b : List Spot) → IsSphere joint table earlier a → IsSphere joint table earlier b → a ≡ b
sphere_same joint table earlier a b x y =
    x.due
    ∙ filter-same (is_due joint.slots table x.reached (is_listed joint.slots earlier)) (is_due joint.slots table y.reached (is_listed joint.slots earlier))
    (λ s. ap (λ r. (r && holds_progression table (spot_place joint.slots s)) && not (is_listed joint.slots earlier (spot_place joint.slots s)))
    (least_same _ _ [] x.reached y.reached x.least y.least (spot_place joint.slots s))) (spots_of joint)
    ∙ sym y.due

one_list : (joint : Joint) (table : Placed) (earlier : List Spot) (a b : List (List Spot)) → AreSpheres joint table earlier a → AreSpheres joint table earlier b → a ≡ b
one_list joint table earlier [] [] x y = refl
one_list joint table earlier [] (t ∷ b) x y = absurd (nothing_claimed t y.1 (sphere_same joint table earlier [] t x y.0))
one_list joint table earlier (s ∷ a) [] x y = absurd (nothing_claimed s x.1 (sphere_same joint table earlier [] s y x.0))
one_list joint table earlier (s ∷ a) (t ∷ b) x y =
    let same : s ≡ t = sphere_same joint table earlier s t x.0 y.0 in
    ap₂ ◌∷◌ same (one_list joint table (earlier ++ s) a b x.2 (subst (λ u. AreSpheres joint table (earlier ++ u) b) (sym same) y.2))

pub spheres_are_one : SpheresAreOne
spheres_are_one joint puts a b x y = one_list joint (placement_table joint puts) [] a b x y
