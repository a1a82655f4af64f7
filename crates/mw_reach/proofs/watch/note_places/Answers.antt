use Rattle.std.proofs.Common.{◌+◌, get_or, take}
use Rattle.std.specs.Prelude.{nat_eq}
use Rattle.mw_reach.specs.Reach.{one_if, times_in}
use Rattle.mw_reach.specs.Tables.{shifted, but_at}
use Rattle.mw_reach.proofs.Noting.{both_noted, but_more}
use Rattle.mw_reach.proofs.watch.note_places.Goals as goal

pub loop-place-preserved : goal.loop-place-preserved
loop-place-preserved c =
    let first = c.args.first in
    let start = c.args.start in
    let places = c.args.places.now in
    let i = c.loop-place.place-index in
    let key = first + get_or places i 0 in
    both_noted c.args.table.now c.loop-place.table c.note_other.new.table c.args.number (but_at start (λ k. times_in k (shifted first (take i places)))) (but_at start (λ k. one_if (nat_eq key k))) (but_at start (λ k. times_in k (shifted first (take (i + 1) places))))
    (λ k. but_more start first places i 0 k c.loop-place-test.true) c.loop-place.invariant c.in_ok-note_other.ensures
