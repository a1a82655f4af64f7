use Rattle.std.proofs.Common.{◌∙◌, ap, pos, refl}
use Rattle.mw_model.specs.Json.{whole}
use Rattle.mw_chat.proofs.Kept.{tagged_prints}
use Rattle.mw_chat.proofs.print.tagged_members.Goals as goal

pub returns-clause-value : goal.returns-clause-value
returns-clause-value c = c.in_ok-further.ensures.value _ (refl, ap (λ n. whole (pos n)) (c.from.ensures ∙ c.get.ensures.value), (refl, c.texts_tree.ensures.value, (refl, ap (λ n. whole (pos n)) (c.from-2.ensures ∙ c.get-2.ensures.value), tt)))

pub returns-clause-prints : goal.returns-clause-prints
returns-clause-prints c kind =
    tagged_prints kind c.args.team c.args.slot c.args.tags.now _ (returns-clause-value c)
    (c.in_ok-further.ensures.writable (tt, (c.texts_tree.ensures.writable, (tt, tt))))
