use Rattle.std.proofs.Common.{ap, pos, refl}
use Rattle.mw_model.specs.Json.{whole}
use Rattle.mw_chat.proofs.Kept.{item_prints}
use Rattle.mw_chat.proofs.found.item_members.Goals as goal

pub returns-clause-value : goal.returns-clause-value
returns-clause-value c = c.in_ok-further.ensures.value _ (refl, c.item_tree.ensures.value, (refl, ap (λ n. whole (pos n)) c.from.ensures, tt))

pub returns-clause-prints : goal.returns-clause-prints
returns-clause-prints c kind =
    item_prints kind c.args.item.now c.args.receiver _ (returns-clause-value c)
    (c.in_ok-further.ensures.writable (c.item_tree.ensures.writable, (tt, tt)))
