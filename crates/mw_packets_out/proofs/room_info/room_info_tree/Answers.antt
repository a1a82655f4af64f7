use Rattle.std.proofs.Common.{◌≡◌, ◌∙◌, IfOk, ap, pos, refl, subst, sym}
use Rattle.mw_model.specs.Json.{many, whole, words}
use Rattle.mw_protocol.specs.Messages.{RoomInfo, permissions_json, room_info_json}
use Rattle.mw_json.specs.View.{view, items_view}
use Rattle.mw_packets_out.proofs.room_info.room_info_tree.Goals as goal

pub returns-clause-value : goal.returns-clause-value
returns-clause-value c =
    subst (λ (i : RoomInfo). IfOk c.object.result (λ t. view t ≡ room_info_json i)) c.info.view_is
    (c.object.ensures.value _ (
      refl,
      refl,
      (
        refl,
        rw c.as_slice.ensures at c.checksums_tree.ensures.value,
        (
          refl,
          rw c.as_slice-2.ensures at c.games_tree.ensures.value,
          (
            refl,
            c.version_tree.ensures.value,
            (
              refl,
              ap (λ n. whole (pos n)) c.from.ensures,
              (
                refl,
                ap (λ n. whole (pos n)) c.from-2.ensures,
                (
                  refl,
                  refl,
                  (
                    refl,
                    subst (λ (i : RoomInfo). IfOk c.permissions_tree.result (λ t. view t ≡ permissions_json i)) (sym c.info.view_is) c.permissions_tree.ensures.value,
                    (
                      refl,
                      ap words c.as_str.ensures,
                      (
                        refl,
                        c.array_tree.ensures ∙ ap (λ ts. many (items_view ts)) c.new.ensures,
                        (
                          refl,
                          refl,
                          (
                            refl,
                            c.version_tree-2.ensures.value,
                            tt,
                          ),
                        ),
                      ),
                    ),
                  ),
                ),
              ),
            ),
          ),
        ),
      ),
    ))
