use Rattle.std.proofs.Common.{List, ℕ, drop, take, get_or, ap, ◌∙◌}
use Rattle.mw_client.proofs.Spelling.{entry_spelled, parts_of}
use Rattle.mw_client.proofs.entry.entry_of.Goals as goal

pub returns-clause-bytes : goal.returns-clause-bytes
returns-clause-bytes c =
    let two = c.split_at.ensures.back in
    let three = c.split_at-2.ensures.back ∙ ap (λ (l : List ℕ). drop 8 l) two in
    let four = c.split_at-3.ensures.back ∙ ap (λ (l : List ℕ). drop 2 l) three in
    entry_spelled c.long_of.result c.long_of-2.result c.short_of.result (get_or c.split_at-3.result.1.now 0 0) c.net_item.result c.args.bytes.now
    c.long_of.ensures.fits c.long_of-2.ensures.fits c.net_item.ensures.value
    (parts_of c.args.bytes.now _ _ _ _ c.requires
    (c.long_of.ensures.bytes ∙ c.split_at.ensures.front)
    (c.long_of-2.ensures.bytes ∙ c.split_at-2.ensures.front ∙ ap (λ (l : List ℕ). take 8 l) two)
    (c.short_of.ensures ∙ c.split_at-3.ensures.front ∙ ap (λ (l : List ℕ). take 2 l) three)
    (ap (λ (l : List ℕ). get_or l 0 0) four))
