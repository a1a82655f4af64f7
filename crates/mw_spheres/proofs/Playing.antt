-- The entries of a playthrough.
use Rattle.std.proofs.Common.{◌≡◌, ℕ, suc, ◌<◌, ◌≤◌, ◌||◌, Bool, false, List, [], ◌∷◌, ◌++◌, length, get_or, map, replicate, All, refl, sym, ap, subst, ◌∙◌, arith}
use Rattle.std.specs.Prelude.{filter}
use Rattle.std.proofs.lemmas.List.{get_or-map, length-map}
use Rattle.std.proofs.lemmas.List.Concat.{flat_map-cons}
use Rattle.std.proofs.lemmas.List.Elements.{All-nil, All-cons, All-append, All-filter}
use Rattle.mw_model.specs.Seed.{Spot}
use Rattle.mw_rules.specs.Holds.{places_of}
use Rattle.mw_rules.specs.Names.{is_among}
use Rattle.mw_multi.specs.Joint.{Joint, IsJoint, place_total}
use Rattle.mw_multi.specs.Placement.{Put}
use Rattle.mw_reach.specs.Reach.{Placed}
use Rattle.mw_reach.proofs.Walks.{replicate-false}
use Rattle.mw_spheres.specs.Spots.{IsSpot, spot_at, spot_place, spots_of, is_listed, placement_table}
use Rattle.mw_spheres.specs.Spheres.{is_due, AreSpheres, listed}
use Rattle.mw_spheres.specs.Playthrough.{IsThinned, is_kept, IsPlaythrough}
use Rattle.mw_spheres.proofs.Locations.{spot_within, spots_are}

-- ---- the entries are locations

pub spheres_are_spots : (joint : Joint) (table : Placed) (earlier : List Spot) (spheres : List (List Spot)) → AreSpheres joint table earlier spheres → All (All (IsSpot joint.slots)) spheres
spheres_are_spots joint table earlier [] is = All-nil (All (IsSpot joint.slots))
spheres_are_spots joint table earlier (s ∷ spheres) is =
    All-cons (All (IsSpot joint.slots)) s spheres
    (subst (All (IsSpot joint.slots)) (sym is.0.due) (All-filter (is_due joint.slots table is.0.reached (is_listed joint.slots earlier)) (IsSpot joint.slots) (spots_of joint) (spots_are joint)))
    (spheres_are_spots joint table (earlier ++ s) spheres is.2)

pub all_listed : (P : Spot → Type 0) (spheres : List (List Spot)) → All (All P) spheres → All P (listed spheres)
all_listed P [] all = All-nil P
all_listed P (s ∷ spheres) all =
    rw (flat_map-cons (λ (t : List Spot). t) s spheres) (All-append P s (listed spheres) (all 0 s (omega arith)) (all_listed P spheres (λ i d h. all (suc i) d (omega arith))))

-- their places are the joint's
pub entries_within : (joint : Joint) (spheres : List (List Spot)) (places : List ℕ) (n : ℕ) → IsJoint joint → All (All (IsSpot joint.slots)) spheres → places ≡ map (spot_place joint.slots) (listed spheres) → place_total joint.slots ≤ n
    → All (λ p. p < n) places
entries_within joint spheres places n kept spots is many =
    subst (All (λ p. p < n)) (sym is) (λ k d h.
    let within : k < length (listed spheres) = omega (arith, length-map (listed spheres) (spot_place joint.slots)) in
    let some : Spot = spot_at 0 0 in
    rw (get_or-map (spot_place joint.slots) (listed spheres) k some d within) (omega (arith, spot_within joint (get_or (listed spheres) k some) kept (all_listed (IsSpot joint.slots) spheres spots k some within))))

-- ---- the whole

or_first : (b c : Bool) → b ≡ false → (b || c) ≡ c
or_first b c e = rw e refl

pub played_is : (joint : Joint) (puts : List Put) (spheres played : List (List Spot)) (table : Placed) (none first kept : List Bool) (places : List ℕ) (n : ℕ)
    → table ≡ placement_table joint puts → none ≡ replicate n false → length first ≡ place_total joint.slots → places ≡ map (spot_place joint.slots) (listed spheres)
    → ((p : ℕ) → places_of first p ≡ (places_of none p || is_among places p)) → IsThinned joint table places first kept → played ≡ map (filter (is_kept joint.slots kept)) spheres
    → IsPlaythrough joint puts spheres played
played_is joint puts spheres played table none first kept places n same empty size places_are marked thinned is = record {
  first = first;
  size = size;
  entries = λ p.
      marked p ∙ or_first (places_of none p) (is_among places p) (ap (λ ns. places_of ns p) empty ∙ replicate-false n p) ∙ ap (λ ps. is_among ps p) places_are;
  kept = kept;
  thinned = subst (λ t. IsThinned joint t (map (spot_place joint.slots) (listed spheres)) first kept) same (subst (λ ps. IsThinned joint table ps first kept) places_are thinned);
  is = is;
}
