use Rattle.std.proofs.Common.{◌≡◌, ◌∙◌, IfOk, ap, pos, refl, subst}
use Rattle.mw_model.specs.Json.{members, whole}
use Rattle.mw_protocol.specs.Messages.{Connected, connected_json}
use Rattle.mw_json.specs.View.{view, members_view}
use Rattle.mw_packets_out.proofs.connected.connected_tree.Goals as goal

pub returns-clause-value : goal.returns-clause-value
returns-clause-value c =
    subst (λ (i : Connected). IfOk c.object.result (λ t. view t ≡ connected_json i)) c.it.view_is
    (c.object.ensures.value _ (
      refl,
      rw c.as_slice.ensures at c.ids_tree.ensures.value,
      (
        refl,
        refl,
        (
          refl,
          refl,
          (
            refl,
            rw c.as_slice-2.ensures at c.ids_tree-2.ensures.value,
            (
              refl,
              rw c.as_slice-3.ensures at c.players_tree.ensures.value,
              (
                refl,
                ap (λ n. whole (pos n)) (c.from.ensures ∙ c.get.ensures.value),
                (
                  refl,
                  c.object_tree.ensures ∙ ap (λ ms. members (members_view ms)) c.new.ensures,
                  (
                    refl,
                    rw c.as_slice-4.ensures at c.slot_info_tree.ensures.value,
                    (
                      refl,
                      ap (λ n. whole (pos n)) (c.from-2.ensures ∙ c.get-2.ensures.value),
                      tt,
                    ),
                  ),
                ),
              ),
            ),
          ),
        ),
      ),
    ))
