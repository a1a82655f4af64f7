-- The locations that are made of what stands at the places of a joint.
use Rattle.std.proofs.Common.{◌≡◌, List, Option, None, slice_index_or, is_lt, IsPermutation, IsSortedBy, sym, ap, subst, ◌∙◌}
use Rattle.std.specs.List.{IsDistinct}
use mathlib.Core.Path.{fun_ext}
use Rattle.mw_model.specs.Seed.{Held}
use Rattle.mw_multi.specs.Joint.{Joint, IsJoint}
use Rattle.mw_multi.specs.Placement.{Put, what_stands, AreStanding}
use Rattle.mw_multidata.specs.SeedKept.{held_cmp}
use Rattle.mw_seeds.specs.SeedFile.{all_held, AreLocations}
use Rattle.mw_seeds.proofs.Sorting.{same_held, held_ascends}
use Rattle.mw_seeds.proofs.SeedHeld.{all_apart}

module _ (joint : Joint) (puts : List Put) (stands : List (Option Put)) (kept : IsJoint joint) (told : AreStanding puts stands) where
  pub locations_are : (entries sorted : List Held) → entries ≡ all_held joint (λ p. slice_index_or stands p None) → IsPermutation entries sorted → IsSortedBy (λ a b. is_lt (held_cmp a b)) sorted
      → AreLocations joint puts sorted
  locations_are entries sorted is p s =
      let same : entries ≡ all_held joint (what_stands puts) = is ∙ ap (all_held joint) (fun_ext told) in
      let apart_all : IsDistinct same_held (all_held joint (what_stands puts)) = all_apart joint (what_stands puts) 1 joint.slots (λ k d l. (kept.each k d l).world.locations.ids) in
      record {
        same = subst (λ xs. IsPermutation xs sorted) same p;
        ascend = held_ascends entries sorted p s (subst (IsDistinct same_held) (sym same) apart_all);
      }
