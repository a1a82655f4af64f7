use Rattle.std.proofs.Common.{◌≡◌, ◌<◌, List, ℕ, Some, length, map, option_map, slice_get, ap, sym, ◌∙◌, arith}
use Rattle.mw_multi.proofs.Sites.{get_some}
use Rattle.mw_seeds.specs.Agreeing.{link_members, group_members}
use Rattle.mw_seeds.proofs.Elements.{get_mapped}
use Rattle.mw_seeds.proofs.seed_groups.links_agree.Goals as goal

-- lists that are the same have the same members at each index
pub returns-then-not-is_of_link : goal.returns-then-not-is_of_link
returns-then-not-is_of_link c =
    let i = c.loop-index.index in
    let groups = c.args.groups.now in
    let links = c.args.links.now in
    let g = c.index-groups-index.result in
    let l = c.index-links-index.result in
    let inside : i < length links = omega (arith, c.loop-index-test.true, c.if-groups-links.false) in
    let left : slice_get (map group_members groups) i ≡ Some (group_members g) = get_mapped group_members groups i ∙ ap (option_map group_members) (get_some groups i g c.loop-index-test.true ∙ ap Some (sym c.index-groups-index.is)) in
    let right : slice_get (map link_members links) i ≡ Some (link_members l) = get_mapped link_members links i ∙ ap (option_map link_members) (get_some links i l inside ∙ ap Some (sym c.index-links-index.is)) in (
      λ h. cc,
      λ e.
          let both : Some (group_members g) ≡ Some (link_members l) = sym left ∙ ap (λ (xs : List (List ℕ)). slice_get xs i) e ∙ right in
          let same : group_members g ≡ link_members l = cc in
          c.if-not-is_of_link.ensures.1 same,
    )
