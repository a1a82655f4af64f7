use Rattle.std.proofs.Common.{map, arith}
use Rattle.std.proofs.lemmas.List.{length-map}
use Rattle.mw_hints.specs.Book.{hint_of}
use Rattle.mw_hints.proofs.Counting.{few_bought}
use Rattle.mw_hints.proofs.book.HintBook.make.Goals as goal

pub count_one-requires-clause-few : goal.count_one-requires-clause-few
count_one-requires-clause-few c =
    let es = c.self.inside.hints.entries in
    let team = c.args.key.0 in
    let slot = c.args.kept.buyer in
    omega (arith, c.self.invariant team slot, few_bought (map hint_of es) team slot, length-map es hint_of, c.len-small.ensures.len, c.len-small.ensures.small)
