use Rattle.std.proofs.Common.{◌≡◌, IfOk, ap, map, pos, refl, subst}
use Rattle.mw_model.specs.Json.{whole, words}
use Rattle.mw_model.specs.Seed.{Seed}
use Rattle.mw_json.specs.View.{member_view}
use Rattle.mw_multidata.specs.Written.{other_members}
use Rattle.mw_multidata.proofs.Listed.{made_as_list}
use Rattle.mw_multidata.proofs.writing.other_members.Goals as goal

pub returns-clause-value : goal.returns-clause-value
returns-clause-value c =
    subst (λ (s : Seed). IfOk c.members.result (λ ms. map member_view ms ≡ other_members s)) c.seed.view_is
    (made_as_list c.members.result _ (c.members.ensures.value _ (
      refl,
      rw c.as_slice.ensures at c.locations_tree.ensures.value,
      (
        refl,
        ap words c.as_str.ensures,
        (
          refl,
          c.server_tree.ensures.value,
          (
            refl,
            rw c.as_slice-2.ensures at c.slots_tree.ensures.value,
            (
              refl,
              rw c.as_slice-3.ensures at c.spheres_tree.ensures.value,
              (
                refl,
                ap (λ n. whole (pos n)) c.from.ensures,
                tt,
              ),
            ),
          ),
        ),
      ),
    )))
