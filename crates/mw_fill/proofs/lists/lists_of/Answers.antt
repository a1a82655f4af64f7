use Rattle.std.proofs.Common.{◌≡◌, List, sym, ap, ap₂, subst, ◌∙◌, arith}
use Rattle.rand_chacha.specs.ChaCha.{ChaCha}
use Rattle.mw_fill.specs.Draws.{start_of, words_of, at_place, shuffled, place_after}
use Rattle.mw_fill.specs.Copies.{ItemCopy}
use Rattle.mw_fill.specs.Openings.{Opening}
use Rattle.mw_fill.specs.Try.{Lists, shuffled_lists, openings_begin, helping_begin, filling_begin}
use Rattle.mw_fill.specs.Kept.{CopyKept, OpeningKept}
use Rattle.mw_fill.specs.ListsKept.{AreKept}
use Rattle.mw_fill.proofs.Permuting.{words_small, shuffled_numbers}
use Rattle.mw_fill.proofs.Shuffling.{shuffled_all, shuffled_length, shuffled_wraps, moved_on}
use Rattle.mw_fill.proofs.lists.lists_of.Goals as goal

same_lists : (lists : Lists) (asked : List ItemCopy) (openings : List Opening) (helping filling : List ItemCopy) → asked ≡ lists.asked → openings ≡ lists.openings → helping ≡ lists.helping → filling ≡ lists.filling
    → record { asked = asked; openings = openings; helping = helping; filling = filling } ≡ lists
same_lists lists asked openings helping filling a s h f =
    ap₂ (λ (x : List ItemCopy) (y : List Opening). record { asked = x; openings = y; helping = helping; filling = filling }) a s
    ∙ ap₂ (λ (x : List ItemCopy) (y : List ItemCopy). record { asked = lists.asked; openings = lists.openings; helping = x; filling = y }) h f

pub returns-clause-lists : goal.returns-clause-lists
returns-clause-lists c =
    let stock = c.args.stock.now in
    let start = start_of c.args.seed c.args.stream in
    let asked : c.as_slice.result.now ≡ stock.asked = c.as_slice.ensures ∙ ap (λ (l : Lists). l.asked) c.stock.view_is in
    let openings : c.as_slice-2.result.now ≡ stock.openings = c.as_slice-2.ensures ∙ ap (λ (l : Lists). l.openings) c.stock.view_is in
    let helping : c.as_slice-3.result.now ≡ stock.helping = c.as_slice-3.ensures ∙ ap (λ (l : Lists). l.helping) c.stock.view_is in
    let filling : c.as_slice-4.result.now ≡ stock.filling = c.as_slice-4.ensures ∙ ap (λ (l : Lists). l.filling) c.stock.view_is in
    let first : c.shuffled_copy.new.words ≡ at_place start (openings_begin stock) =
    c.in_ok-asked.ensures.words ∙ ap₂ (λ (w : ChaCha) (xs : List ItemCopy). at_place w (place_after w.word_pos xs)) c.new-words.ensures asked in
    let second : c.shuffled_copy-2.new.words ≡ at_place start (helping_begin stock) =
    c.in_ok-openings.ensures.words ∙ ap₂ (λ (w : ChaCha) (xs : List Opening). at_place w (place_after w.word_pos xs)) first openings ∙ moved_on start (openings_begin stock) stock.openings in
    let third : c.shuffled_copy-3.new.words ≡ at_place start (filling_begin stock) =
    c.in_ok-helping.ensures.words ∙ ap₂ (λ (w : ChaCha) (xs : List ItemCopy). at_place w (place_after w.word_pos xs)) second helping ∙ moved_on start (helping_begin stock) stock.helping in
    same_lists (shuffled_lists stock (words_of start)) c.in_ok-asked.asked c.in_ok-openings.openings c.in_ok-helping.helping c.in_ok-filling.filling
    (c.in_ok-asked.ensures.list ∙ ap₂ (λ (w : ChaCha) (xs : List ItemCopy). shuffled (words_of w) w.word_pos xs) c.new-words.ensures asked)
    (c.in_ok-openings.ensures.list ∙ ap₂ (λ (w : ChaCha) (xs : List Opening). shuffled (words_of w) w.word_pos xs) first openings ∙ shuffled_wraps start (openings_begin stock) stock.openings)
    (c.in_ok-helping.ensures.list ∙ ap₂ (λ (w : ChaCha) (xs : List ItemCopy). shuffled (words_of w) w.word_pos xs) second helping ∙ shuffled_wraps start (helping_begin stock) stock.helping)
    (c.in_ok-filling.ensures.list ∙ ap₂ (λ (w : ChaCha) (xs : List ItemCopy). shuffled (words_of w) w.word_pos xs) third filling ∙ shuffled_wraps start (filling_begin stock) stock.filling)

pub returns-clause-kept : goal.returns-clause-kept
returns-clause-kept c = λ joint kept.
    let stock = c.args.stock.now in
    let same = returns-clause-lists c in
    let start = start_of c.args.seed c.args.stream in
    let words = words_of start in
    subst (AreKept joint) (sym same) record {
      asked = shuffled_all (CopyKept joint) words 0 stock.asked kept.asked;
      few = omega (arith, shuffled_length words 0 stock.asked, kept.few);
      few_numbers = omega (arith, shuffled_numbers joint words (words_small start) 0 stock.asked, kept.few_numbers);
      openings = shuffled_all (OpeningKept joint) words (openings_begin stock) stock.openings kept.openings;
      helping = shuffled_all (CopyKept joint) words (helping_begin stock) stock.helping kept.helping;
      filling = shuffled_all (CopyKept joint) words (filling_begin stock) stock.filling kept.filling;
    }
