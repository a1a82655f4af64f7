use Rattle.std.proofs.Common.{◌≡◌, ◌∙◌, None, slice_index_or, is_lt, rules, ap, sym, subst}
use Rattle.std.proofs.lemmas.List.Sorted.{answers_always, ranks_by}
use Rattle.mw_multi.specs.Joint.{IsJoint}
use Rattle.mw_multidata.specs.SeedKept.{held_cmp}
use Rattle.mw_seeds.specs.SeedFile.{all_held, AreLocations}
use Rattle.mw_seeds.proofs.SeedLocations.{locations_are}
use Rattle.mw_multidata.proofs.NamesKept.{held_total}
use Rattle.mw_seeds.proofs.seed_locations.locations_of.Goals as goal

pub returns : goal.returns
returns c =
    let joint = c.args.joint.now in
    let stands = c.in_ok-stands.stands.items in
    let held : c.in_ok-held.held.items ≡ all_held joint (λ p. slice_index_or stands p None) = c.in_ok-held.ensures ∙ ap (λ xs. all_held joint (λ p. slice_index_or xs p None)) c.as_slice.ensures.value in
    subst (AreLocations joint c.args.placement.now) (sym c.from_vec.ensures)
    (locations_are joint c.args.placement.now stands (subst IsJoint c.joint.view_is c.joint.invariant) c.in_ok-stands.ensures.entries c.in_ok-held.held.items c.sort_unstable_by.new.self.items held
    c.sort_unstable_by.ensures.permutation (c.sort_unstable_by.ensures.sorted (λ a b. is_lt (held_cmp a b)) (ranks_by held_total (λ h. h)) (answers_always _ _ _ (λ f a r g h. search rules))))
