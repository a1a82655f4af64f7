use Rattle.std.proofs.Common.{◌∙◌, sym, ap, map}
use Rattle.mw_multi.specs.Words.{word_of}
use Rattle.mw_multi.proofs.Words.{none_worded}
use Rattle.mw_multi.proofs.entries.Entries.none.Goals as goal

pub invariant_of-result : goal.invariant_of-result
invariant_of-result c = c.in_ok-words.ensures.items_if_clones_equal (λ y e. e) ∙ none_worded c.args.places ∙ ap (map word_of) (sym c.in_ok-lists.ensures.value)
