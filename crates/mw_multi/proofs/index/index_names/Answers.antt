use Rattle.mw_multi.proofs.Indexing.{index_of_name-more}
use Rattle.mw_multi.proofs.index.index_names.Goals as goal

pub loop-i-preserved : goal.loop-i-preserved
loop-i-preserved g c = λ q.
    let l = c.loop-i in
    let x = c.index-table-i.result in
    let noted = c.in_ok-note_name.ensures q in
    let more = index_of_name-more g.T.Named.name_of c.args.table.now l.i x q c.loop-i-test.true c.index-table-i.is in
    let known = l.invariant q in
    let name = c.name.ensures in
    cc
