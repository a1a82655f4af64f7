use Rattle.std.proofs.Common.{length, map, sym, ap, ◌∙◌}
use Rattle.mw_protocol.specs.HintList.{bought_by}
use Rattle.mw_hints.specs.Book.{hint_of}
use Rattle.mw_hints.proofs.Counting.{bought_marked}
use Rattle.mw_hints.proofs.book.HintBook.enter.Goals as goal

-- a status changes no count
pub invariant_of-self : goal.invariant_of-self
invariant_of-self c = λ team slot.
    c.self.invariant team slot
    ∙ sym (ap (λ hs. length (bought_by hs team slot)) c.mark.ensures.entries
    ∙ bought_marked (map hint_of c.self.inside.hints.entries) c.in-Marked.team c.in-Marked.finder c.in-Marked.loc c.in-Marked.status team slot)
