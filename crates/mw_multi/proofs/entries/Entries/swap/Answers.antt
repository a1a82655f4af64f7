use Rattle.std.proofs.Common.{◌<◌, ◌∙◌, length, set, sym, ap, subst}
use Rattle.mw_multi.specs.Placement.{numbers_at}
use Rattle.mw_multi.specs.Words.{word_of}
use Rattle.mw_multi.proofs.Words.{word_noted}
use Rattle.mw_multi.proofs.entries.Entries.swap.Goals as goal

pub invariant_of-self : goal.invariant_of-self
invariant_of-self c =
    let place = c.args.place in
    let lists = c.self.inside.lists.items in
    let words = c.self.inside.words.items in
    let within : place < length lists = subst (λ now. place < length now) (sym c.self.view_is) c.requires in
    let noted = c.note.ensures ∙ ap (λ ws. set ws place (word_of (numbers_at c.as_slice.result.now place))) c.as_mut_slice.ensures.value ∙ ap (λ now. set words place (word_of (numbers_at now place))) c.as_slice.ensures.value in
    word_noted lists words c.note.new.words _ _ place _ within c.self.invariant noted (ap length (sym c.as_mut_slice.ensures.value) ∙ c.as_mut_slice.ensures.len)
