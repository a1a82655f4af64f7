use Rattle.std.proofs.Common.{◌≡◌, ◌≢◌, arith}
use Rattle.std.specs.Prelude.{nat_eq}
use Rattle.mw_reach.specs.Reach.{one_if}
use Rattle.mw_reach.specs.Tables.{but_at}
use Rattle.mw_reach.proofs.Noting.{nothing_noted, one_noted, same_note, but_itself, but_other}
use Rattle.mw_reach.proofs.watch.note_other.Goals as goal

pub returns-then-place-start : goal.returns-then-place-start
returns-then-place-start c =
    let same : c.args.place ≡ c.args.start = omega arith in
    nothing_noted c.args.table.now c.args.number (but_at c.args.start (λ k. one_if (nat_eq c.args.place k))) (λ k. rw same (but_itself c.args.start k))

pub returns : goal.returns
returns c =
    let other : c.args.place ≢ c.args.start = λ e. absurd (omega arith) in
    rw c.in_ok-note.ensures.noted (same_note _ _ c.args.number (λ k. one_if (nat_eq c.args.place k)) (but_at c.args.start (λ k. one_if (nat_eq c.args.place k))) (λ k. but_other c.args.start c.args.place k other)
    (one_noted c.args.table.now c.args.place c.args.number c.requires))
