use Rattle.std.proofs.Common.{◌≡◌, ◌∙◌, IfOk, ap, refl, subst}
use Rattle.mw_model.specs.Json.{members}
use Rattle.mw_model.specs.Seed.{Seed}
use Rattle.mw_protocol.specs.Packages.{package_json}
use Rattle.mw_json.specs.View.{view, members_of}
use Rattle.mw_datapack.proofs.Packaged.{same_members}
use Rattle.mw_datapack.proofs.games.package_tree.Goals as goal

pub returns : goal.returns
returns c =
    subst (λ (s : Seed). IfOk c.object.result (λ t. view t ≡ package_json s c.args.wanted.now)) c.seed.view_is
    (c.object.ensures.value _ (
      refl,
      c.object_tree.ensures
          ∙ ap (λ ms. members (members_of ms)) (rw (c.as_slice.ensures, c.as_slice-2.ensures, c.in_ok-wanted.ensures) at c.in_ok-games.ensures)
          ∙ ap members (same_members c.seed.inside.slots c.args.wanted.now c.seed.inside.games),
      tt,
    ))
