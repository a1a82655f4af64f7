use Rattle.std.proofs.Common.{◌∙◌, ap, pos, refl}
use Rattle.mw_model.specs.Json.{whole}
use Rattle.mw_chat.proofs.Kept.{message_prints}
use Rattle.mw_chat.proofs.print.message_members.Goals as goal

pub returns-clause-value : goal.returns-clause-value
returns-clause-value c = c.in_ok-further.ensures.value _ (refl, refl, (refl, ap (λ n. whole (pos n)) (c.from.ensures ∙ c.get.ensures.value), (refl, ap (λ n. whole (pos n)) (c.from-2.ensures ∙ c.get-2.ensures.value), tt)))

pub returns-clause-prints : goal.returns-clause-prints
returns-clause-prints c kind =
    message_prints kind c.args.team c.args.slot c.args.message.now _ (returns-clause-value c)
    (c.in_ok-further.ensures.writable (tt, (tt, (tt, tt))))
