use Rattle.std.proofs.Common.{sym, ap}
use Rattle.mw_hints.specs.Book.{Book}
use Rattle.mw_hints.proofs.Telling.{told_more}
use Rattle.mw_hints.proofs.book.HintBook.list.Goals as goal

pub loop-at-preserved : goal.loop-at-preserved
loop-at-preserved g c =
    let pair = c.unwrap.result in
    told_more (g.C.Checks.seed c.args.log.now) (g.C.Checks.is_found c.args.log.now) c.args.team c.args.slot c.args.self.now.hints c.self.inside.hints.entries c.loop-at.at (pair.0.now, pair.1.now) c.loop-at.told c.add_told.new.told _
    (sym (ap (λ (b : Book). b.hints) c.self.view_is)) (sym (rw c.unwrap.ensures at c.get_index.ensures.entry)) c.in_ok-add_told.ensures c.loop-at.invariant
