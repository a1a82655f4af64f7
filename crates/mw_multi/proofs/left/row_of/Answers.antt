use Rattle.std.proofs.Common.{◌≡◌, ◌<◌, ◌≤◌, ◌+◌, ◌∙◌, ap, set, subst, take, take_all, length, get_or, arith}
use Rattle.std.proofs.lemmas.Grind.{common_steps}
use Rattle.std.proofs.lemmas.List.Sums.{sum_by_more_le}
use Rattle.mw_multi.specs.World.{World, PoolEntry}
use Rattle.mw_multi.specs.WorldKept.{IsWorld, copies}
use Rattle.mw_multi.specs.Links.{row_at, copies_in}
use Rattle.mw_multi.proofs.Counts.{pool_within}
use Rattle.mw_multi.proofs.Rows.{copies_le, row_more, row_is}
use Rattle.mw_multi.proofs.left.row_of.Goals as goal

pub add-requires-clause-room : goal.add-requires-clause-room
add-requires-clause-room c =
    let n = c.entry.inside.item in
    let k = c.loop-entry.entry-index in
    let pool = c.args.world.now.pool in
    let pools : c.as_slice-entry-items.result.now ≡ pool = c.as_slice-entry-items.ensures ∙ ap (λ (w : World). w.pool) c.world.view_is in
    let world : IsWorld c.args.world.now = subst IsWorld c.world.view_is c.world.invariant in
    let now = c.loop-entry.invariant.counts n in
    let so_far = copies_le (take k pool) n in
    let more = sum_by_more_le copies pool k c.entry-item.result (omega (arith, c.loop-entry-test.true, ap length pools)) in
    let read : c.entry-item.result ≡ get_or pool k c.entry-item.result = c.entry-item.is ∙ ap (λ xs. get_or xs k c.entry-item.result) pools in
    let this = ap copies (c.entry.view_is ∙ read) in
    omega (arith, world.pool.together)

pub loop-entry-preserved : goal.loop-entry-preserved
loop-entry-preserved c =
    let r = c.entry-item.result in
    let k = c.loop-entry.entry-index in
    let row = c.loop-entry.row in
    let pool = c.args.world.now.pool in
    let pools : c.as_slice-entry-items.result.now ≡ pool = c.as_slice-entry-items.ensures ∙ ap (λ (w : World). w.pool) c.world.view_is in
    let world : IsWorld c.args.world.now = subst IsWorld c.world.view_is c.world.invariant in
    let within : k < length pool = omega (arith, c.loop-entry-test.true, ap length pools) in
    let read : r ≡ get_or pool k r = c.entry-item.is ∙ ap (λ xs. get_or xs k r) pools in
    let there : r.item < length row = omega (arith, pool_within c.args.world.now.items pool world.pool k r within, ap (λ (e : PoolEntry). e.item) read, c.loop-entry.invariant.size) in
    record {
      size = grind (arith, common_steps);
      counts = λ n.
          ap (λ t. row_at t n) (c.add.ensures ∙ ap (λ (e : PoolEntry). set row e.item (row_at row e.item + e.count)) c.entry.view_is)
          ∙ row_more row pool k r n within read there (c.loop-entry.invariant.counts r.item) (c.loop-entry.invariant.counts n);
    }

pub returns : goal.returns
returns c =
    let pool = c.args.world.now.pool in
    let pools : c.as_slice-entry-items.result.now ≡ pool = c.as_slice-entry-items.ensures ∙ ap (λ (w : World). w.pool) c.world.view_is in
    let past : length pool ≤ c.loop-entry.entry-index = omega (arith, c.loop-entry-test.false, ap length pools) in
    row_is pool 0 c.args.world.now.items c.loop-entry.row c.loop-entry.invariant.size (λ i. c.loop-entry.invariant.counts i ∙ ap (λ es. copies_in es i) (take_all c.loop-entry.entry-index pool past) ∙ (let same : i ≡ 0 + i = omega arith in ap (copies_in pool) same))
